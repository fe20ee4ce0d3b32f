-- `cells::is_flop` meets its contract: the flag as it was read. Assumes nothing.
use mathlib.Core.Path.{ap}
use Rattle.cell.specs.declared.logic.Cell.{Cell}
use Rattle.card.specs.Cells.{flop_cell}
use Rattle.card.proofs.cells.is_flop.Goals as goal

pub returns : goal.returns
unfolding flop_cell
returns c = ap (λ (cell : Cell). cell.flipflop) c.cell_at.ensures
