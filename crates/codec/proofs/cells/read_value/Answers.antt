-- `read_value` meets its contract. Invariant: the value so far has the first j of the tens' digits, in the order of the cell.
-- Assumes nothing.
use mathlib.Core.Path.{◌≡◌, ap, ◌∙◌}
use Prim.Native.Nat.{ℕ, ◌+◌, ◌*◌}
use native.Mathlib.Omega.{arith}
use borrow.Author.Rules.{rules}
use Rattle.digits.specs.Digits.{from_digits}
use Rattle.routing.specs.TileKind.{bits_per_cell}
use Rattle.codec.proofs.SetBitsLaws.{digits_turn, digits_fit}
use Rattle.codec.proofs.TenLaws.{ten_lt, first_ten, second_ten, tens_of, tens_digit, tens_digit_is, value_of_tens, value_empty}
use Rattle.codec.proofs.cells.read_value.Goals as goal

pub overflow_mul-both : goal.overflow_mul-both
overflow_mul-both c =
    omega (arith, ten_lt c.args.bits.now (second_ten c.args.i))

pub overflow_add-both : goal.overflow_add-both
overflow_add-both c =
    omega (arith, ten_lt c.args.bits.now (first_ten c.args.i), ten_lt c.args.bits.now (second_ten c.args.i))

-- an empty cell
pub returns-then-both-eq0 : goal.returns-then-both-eq0
returns-then-both-eq0 c =
    value_empty c.args.bits.now c.args.i (let e : 0 ≡ tens_of c.args.bits.now c.args.i = omega arith in e)

pub loop-j-init : goal.loop-j-init
unfolding from_digits
loop-j-init c = search rules

pub overflow_add-value : goal.overflow_add-value
overflow_add-value c =
    let both : ℕ = c.read_ten-first.result + 1024 * c.read_ten-second.result in
    record {
      fits = digits_fit 32 (tens_digit both) (λ k. omega arith) _ c.loop-j.j _ c.loop-j.invariant
          (tens_digit_is both c.loop-j.j c.lc_bit-k.ensures) (omega arith);
    }

pub loop-j-preserved : goal.loop-j-preserved
loop-j-preserved c =
    let both : ℕ = c.read_ten-first.result + 1024 * c.read_ten-second.result in
    digits_turn 32 (tens_digit both) (λ k. omega arith) _ c.loop-j.j _ c.loop-j.invariant
    (tens_digit_is both c.loop-j.j c.lc_bit-k.ensures) (omega arith)

pub returns : goal.returns
returns c =
    let both : ℕ = c.read_ten-first.result + 1024 * c.read_ten-second.result in
    c.loop-j.invariant ∙ ap (from_digits (tens_digit both)) (let e : c.loop-j.j ≡ bits_per_cell = omega arith in e)
    ∙ value_of_tens c.args.bits.now c.args.i both
    (let e : both ≡ tens_of c.args.bits.now c.args.i = omega arith in e)
