-- The lookup and the carry give a bit, and the inputs of `looked_up` weigh as document 01 says. Main law: `looked_up_bits`.
use Rattle.std.specs.Prelude.{Ok}
use mathlib.Core.Path.{◌≡◌, sym, ap, ◌∙◌}
use mathlib.Core.Bool.{Bool, true, false, cond}
use Prim.Native.Nat.{ℕ, ◌+◌, ◌*◌, ◌<◌}
use native.Mathlib.Omega.{arith}
use lib.Dec.{leb}
use borrow.Author.Tests.{lt-ltb}
use Rattle.digits.specs.Digits.{digit, from_digits}
use Rattle.digits.proofs.DigitLaws.{from_digits_all}
use Rattle.cell.specs.Lookup.{lookup_bit, looked_up, majority}

pub lookup_bit_lt : (table a b c d : ℕ) → lookup_bit table a b c d < 2
unfolding lookup_bit
lookup_bit_lt table a b c d = omega arith

pub majority_lt : (a b c : ℕ) → majority a b c < 2
unfolding majority
majority_lt a b c = go (leb 2 (a + b + c))
  where
    go : (t : Bool) → cond t 1 0 < 2
    go true = omega arith
    go false = omega arith

-- "the table bit at in_3·8 + in_2·4 + in_1·2 + in_0"
pub looked_up_bits : (table in0 in1 in2 in3 : ℕ) → in0 < 2 → in1 < 2 → in2 < 2 → in3 < 2
    → looked_up table (in3 * 8 + in2 * 4 + in1 * 2 + in0) ≡ Ok (lookup_bit table in0 in1 in2 in3)
unfolding looked_up lookup_bit
looked_up_bits table in0 in1 in2 in3 a b c d = rw (lt-ltb (in3 * 8 + in2 * 4 + in1 * 2 + in0) 16 (omega arith))

-- the same for inputs that are the digits of one number
pub looked_up_inputs : (table inputs in0 in1 in2 in3 : ℕ) {bit : ℕ} → inputs < 16
    → in0 ≡ digit inputs 0 → in1 ≡ digit inputs 1 → in2 ≡ digit inputs 2 → in3 ≡ digit inputs 3
    → bit ≡ lookup_bit table in0 in1 in2 in3 → Ok bit ≡ looked_up table inputs
unfolding from_digits
looked_up_inputs table inputs in0 in1 in2 in3 h e0 e1 e2 e3 e =
    let weighed : in3 * 8 + in2 * 4 + in1 * 2 + in0 ≡ inputs = omega (arith, from_digits_all inputs 4 h) in
    ap Ok e
    ∙ sym (looked_up_bits table in0 in1 in2 in3 (omega arith) (omega arith) (omega arith) (omega arith))
    ∙ ap (looked_up table) weighed
