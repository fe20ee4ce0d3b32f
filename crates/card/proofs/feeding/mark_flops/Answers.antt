-- `feeding::mark_flops` meets its contract. Invariant: the cells before c are marked. Assumes nothing.
use Rattle.card.proofs.TurnLaws.{flops_start, flops_next}
use Rattle.card.proofs.feeding.mark_flops.Goals as goal

pub loop-c-init : goal.loop-c-init
loop-c-init c = flops_start c.args.b c.args.st.now c.args.marks.now

pub loop-c-preserved : goal.loop-c-preserved
loop-c-preserved c = flops_next c.args.b c.args.st.now c.args.marks.now c.loop-c.c _ _ c.loop-c.invariant c.mark_flop.ensures
