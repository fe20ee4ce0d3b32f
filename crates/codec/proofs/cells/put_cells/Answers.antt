-- `put_cells` meets its contract. Invariant: the first i cells are put in. Assumes nothing.
use borrow.Author.Rules.{rules}
use lib.ListN.{length-set}
use Rattle.codec.specs.Cells.{put_cells}
use Rattle.codec.proofs.CellLaws.{put_cells_turn}
use Rattle.codec.proofs.cells.put_cells.Goals as goal

pub loop-i-init : goal.loop-i-init
unfolding put_cells
loop-i-init c = search rules

pub loop-i-preserved : goal.loop-i-preserved
loop-i-preserved c = (
  c.loop-i.invariant.0,
  simp length-set c.loop-i.invariant.1,
  put_cells_turn c.args.cells c.loop-i.i _
      c.flags.ensures c.args.settings.now c.loop-i.settings c.loop-i.invariant.2,
)
