-- Ten bits of a tile that stand side by side, and a cell's twenty as two such tens. Main laws: `ten_is`, `value_of_tens`. Assumes nothing.
use mathlib.Core.Path.{◌≡◌, refl, sym, ap, ◌∙◌}
use mathlib.Core.List.{List}
use Prim.Native.Nat.{ℕ, ◌+◌, ◌*◌, ◌/◌, ◌%◌, ◌^◌, ◌<◌, ◌≤◌}
use native.Mathlib.Omega.{arith}
use lib.Bits.{bit_and}
use lib.ListN.{get_or}
use Rattle.digits.specs.Digits.{digit, from_digits}
use Rattle.digits.proofs.DigitLaws.{digit_join, digit_from_digits, from_digits_lt, from_digits_ext, from_digits_shift}
use Rattle.digits.proofs.MaskLaws.{and_one}
use Rattle.routing.specs.TileKind.{bits_per_cell}
use Rattle.routing.specs.LogicTile.{lc_position, cell_position}
use Rattle.routing.proofs.LogicTileLaws.{lc_bit, lc_bit_lt, lc_position_left, lc_position_right}
use Rattle.codec.specs.Bits.{unit, bit_at, ten_from}
use Rattle.codec.specs.Cells.{cell_bit_in, value_in}
use Rattle.codec.proofs.BitLaws.{bit_lt, bit_of_row}

-- ten bits from p on, which one row holds
pub ten_is : (bits : List ℕ) (p : ℕ) → p % unit ≤ 44 → get_or bits (p / unit) 0 / 2 ^ (p % unit) % 1024 ≡ ten_from (bit_at bits) p
ten_is bits p s =
    let row : ℕ = get_or bits (p / unit) 0 in
    sym (from_digits_shift row (p % unit) 10)
    ∙ from_digits_ext (λ (k : ℕ). digit row (p % unit + k)) (λ (k : ℕ). bit_at bits (p + k)) 10
    (λ k l. sym (bit_of_row bits (p / unit) (p % unit + k) (omega arith))
    ∙ ap (bit_at bits) (let e : unit * (p / unit) + (p % unit + k) ≡ p + k = omega arith in e))

pub ten_lt : (bits : List ℕ) (p : ℕ) → ten_from (bit_at bits) p < 1024
ten_lt bits p = from_digits_lt (λ (k : ℕ). bit_at bits (p + k)) (λ k. bit_lt bits _) 10

ten_digit : (bits : List ℕ) (p k : ℕ) → k < 10 → digit (ten_from (bit_at bits) p) k ≡ bit_at bits (p + k)
ten_digit bits p k h = digit_from_digits (λ (j : ℕ). bit_at bits (p + j)) (λ j. bit_lt bits _) 10 k h

-- where the two tens of cell i begin, and both as one number
abbrev pub first_ten : ℕ → ℕ
first_ten i = 2 * 54 * i + 36

abbrev pub second_ten : ℕ → ℕ
second_ten i = 2 * 54 * i + 90

abbrev pub tens_of : List ℕ → ℕ → ℕ
tens_of bits i = ten_from (bit_at bits) (first_ten i) + 1024 * ten_from (bit_at bits) (second_ten i)

-- digit j of the cell's value, by its tens
abbrev pub tens_digit : ℕ → ℕ → ℕ
tens_digit tens j = digit tens (lc_bit j)

-- as the code has it
pub tens_digit_is : (tens j : ℕ) {k : ℕ} → k ≡ lc_bit j → bit_and (tens / 2 ^ k) 1 ≡ tens_digit tens j
tens_digit_is tens j {k} e = and_one (tens / 2 ^ k) ∙ ap (digit tens) e

tens_empty : 0 ≡ from_digits (tens_digit 0) bits_per_cell
unfolding from_digits
tens_empty = refl

module _ (bits : List ℕ) (i : ℕ) where
  -- the digits of the tens are the logic cell bits in their order
  tens_digit_lem : (k : ℕ) → k < bits_per_cell → digit (tens_of bits i) k ≡ bit_at bits (lc_position i k)
  tens_digit_lem =
      digit_join (λ (k : ℕ). bit_at bits (lc_position i k)) (ten_from (bit_at bits) (first_ten i)) (ten_from (bit_at bits) (second_ten i)) 10 10 (ten_lt bits (first_ten i))
      (λ k l. ten_digit bits (first_ten i) k l
      ∙ ap (bit_at bits) ((let e : first_ten i + k ≡ 54 * (2 * i) + (36 + k) = omega arith in e) ∙ lc_position_left i k l))
      (λ k l. ten_digit bits (second_ten i) k l
      ∙ ap (bit_at bits) ((let e : second_ten i + k ≡ 54 * (2 * i + 1) + (26 + (10 + k)) = omega arith in e) ∙ lc_position_right i (10 + k) (omega arith)))

  -- so the cell's value is the same digits in another order
  pub value_of_tens : (tens : ℕ) → tens ≡ tens_of bits i → from_digits (tens_digit tens) bits_per_cell ≡ value_in (bit_at bits) i
  unfolding cell_position
  value_of_tens tens e =
      from_digits_ext (tens_digit tens) (cell_bit_in (bit_at bits) i) bits_per_cell
      (λ j l. ap (λ (x : ℕ). tens_digit x j) e ∙ tens_digit_lem (lc_bit j) (lc_bit_lt j l))

  pub value_empty : 0 ≡ tens_of bits i → 0 ≡ value_in (bit_at bits) i
  value_empty e = tens_empty ∙ value_of_tens 0 e
