-- A cell holds its flags: what they are and that they are few. Main law: `flags_of_cell`.
use mathlib.Core.Path.{◌≡◌}
use mathlib.Core.Bool.{Bool, true, false, cond}
use Prim.Native.Nat.{ℕ, zero, suc, ◌*◌, ◌<◌, ◌≤◌}
use native.Mathlib.Omega.{arith}
use lib.Dec.{eqb}
use Rattle.digits.specs.Digits.{digit, from_digits}
use Rattle.digits.proofs.DigitLaws.{from_digits_all}
use Rattle.cell.specs.Settings.{cell_of, flags_of}

pub flag_le : (on : Bool) (w : ℕ) → cond on w 0 ≤ w
flag_le true w = omega arith
flag_le false w = omega arith

-- a digit as a flag's weight
digit_weight : (d w : ℕ) → d < 2 → cond (eqb d 1) w 0 ≡ d * w
digit_weight zero w h = omega arith
digit_weight (suc zero) w h = omega arith
digit_weight (suc (suc d)) w h = absurd (omega arith)

-- the flags of the cell that was made from flags
pub flags_of_cell : (table flags : ℕ) → flags < 16 → flags_of (cell_of table flags) ≡ flags
unfolding from_digits
flags_of_cell table flags h =
    omega (
      arith,
      from_digits_all flags 4 h,
      digit_weight (digit flags 0) 1 (omega arith),
      digit_weight (digit flags 1) 2 (omega arith),
      digit_weight (digit flags 2) 4 (omega arith),
      digit_weight (digit flags 3) 8 (omega arith),
    )
