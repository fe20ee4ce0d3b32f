-- `feeding::mark_reached` meets its contract. Invariant: what is left of the pass gives what the whole gives. Assumes nothing.
use native.Mathlib.Omega.{arith}
use mathlib.Core.Path.{sym, ◌∙◌}
use Rattle.card.proofs.TurnLaws.{reach_turn, reach_end}
use Rattle.card.proofs.feeding.mark_reached.Goals as goal

pub loop-i-preserved : goal.loop-i-preserved
loop-i-preserved c = sym (reach_turn c.args.list.now c.loop-i.i _ _ (omega arith) c.touch_row.ensures) ∙ c.loop-i.invariant

pub returns : goal.returns
returns c = sym (reach_end c.args.list.now c.loop-i.i _ (omega arith)) ∙ c.loop-i.invariant
