-- `bits::six_of` meets its contract: six digits, summed. Assumes nothing.
use native.Mathlib.Omega.{arith}
use Rattle.asc.proofs.ContentLaws.{six_sum}
use Rattle.asc.proofs.bits.six_of.Goals as goal

pub returns : goal.returns
returns c = record { six = six_sum c.args.content.now c.args.p _ _ _ _ _ _ c.value_at-d0.ensures.value c.value_at-d1.ensures.value c.value_at-d2.ensures.value c.value_at-d3.ensures.value c.value_at-d4.ensures.value c.value_at-d5.ensures.value; small = omega arith }
