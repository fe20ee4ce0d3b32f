-- `bits::row_of` meets its contract. Invariant: the first six times i digits are a number (`six_turn`). Assumes nothing.
use Prim.Native.Nat.{ℕ, ◌+◌, ◌*◌}
use mathlib.Core.Path.{◌≡◌, refl, ap, ◌∙◌}
use native.Mathlib.Omega.{arith}
use Rattle.digits.specs.Digits.{from_digits}
use Rattle.words.specs.Packed.{number_from}
use Rattle.asc.specs.Content.{value_at}
use Rattle.asc.proofs.ContentLaws.{six_turn, six_fits}
use Rattle.asc.proofs.bits.row_of.Goals as goal

pub loop-i-init : goal.loop-i-init
unfolding from_digits
loop-i-init c = refl

pub overflow_add-word : goal.overflow_add-word
overflow_add-word c = record { fits = six_fits c.args.content.now c.args.p (6 * c.loop-i.i) c.loop-i.word c.from.result c.loop-i.invariant (c.from.ensures ∙ c.six_of.ensures.six) (omega arith) (omega arith) }

pub loop-i-preserved : goal.loop-i-preserved
loop-i-preserved c =
    six_turn c.args.content.now c.args.p (6 * c.loop-i.i) c.loop-i.word c.from.result c.loop-i.invariant (c.from.ensures ∙ c.six_of.ensures.six) (omega arith) (omega arith)
    ∙ ap (λ (n : ℕ). number_from n (value_at c.args.content.now) c.args.p) (let e : 6 * c.loop-i.i + 6 ≡ 6 * (c.loop-i.i + 1) = omega arith in e)

pub returns : goal.returns
returns c = c.loop-i.invariant ∙ ap (λ (n : ℕ). number_from n (value_at c.args.content.now) c.args.p) (let e : 6 * c.loop-i.i ≡ 54 = omega arith in e)
