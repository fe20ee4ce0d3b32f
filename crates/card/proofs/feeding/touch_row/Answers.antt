-- `feeding::touch_row` meets its contract: a wire without a mark, or what its row reads. Assumes nothing.
use Rattle.card.proofs.TurnLaws.{touched_skip, touched_take}
use Rattle.card.proofs.feeding.touch_row.Goals as goal

pub returns-else-marks-w-ne0 : goal.returns-else-marks-w-ne0
returns-else-marks-w-ne0 c = touched_skip _ _ c.args.marks.now c.row_at-row.ensures _ c.from-w.ensures c.if-marks-w-ne0.false

pub returns-then-marks-w-ne0 : goal.returns-then-marks-w-ne0
returns-then-marks-w-ne0 c = touched_take _ _ c.args.marks.now c.row_at-row.ensures _ c.from-w.ensures c.if-marks-w-ne0.true _ c.mark_reads.ensures
