-- `feeding::mark_reads` meets its contract. Invariant: the first j operands are marked. Assumes nothing.
use native.Mathlib.Omega.{arith}
use mathlib.Core.Path.{refl, ◌∙◌}
use Rattle.netlist.proofs.ValueLaws.{arity_le}
use Rattle.card.proofs.TurnLaws.{reads_start, reads_next}
use Rattle.card.proofs.feeding.mark_reads.Goals as goal

pub loop-j-init : goal.loop-j-init
loop-j-init c = reads_start c.args.row c.args.marks.now

pub operand-requires : goal.operand-requires
operand-requires c = omega (arith, arity_le c.args.row, c.arity-j-end.ensures)

pub loop-j-preserved : goal.loop-j-preserved
loop-j-preserved c =
    reads_next c.args.row c.args.marks.now c.loop-j.j _ _ _ c.loop-j.invariant (c.from-d.ensures ∙ c.operand.ensures) refl
