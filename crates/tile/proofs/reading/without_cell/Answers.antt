-- `without_cell` meets its contract: what is above the cell's columns and what is below them. Assumes nothing.
use Rattle.tile.proofs.CellColumns.{without_cell_is}
use Rattle.tile.proofs.reading.without_cell.Goals as goal

pub returns : goal.returns
returns c = without_cell_is c.args.row
