-- `encode_cells` meets its contract: without cells nothing is to be written (`no_cells_written`), else the eight cells are. Assumes nothing.
use mathlib.Core.Path.{sym, ◌∙◌}
use native.Mathlib.Omega.{arith}
use Rattle.codec.proofs.CellLaws.{no_cells_written}
use Rattle.codec.proofs.cells.encode_cells.Goals as goal

pub returns-else-not-has_no_cells : goal.returns-else-not-has_no_cells
returns-else-not-has_no_cells c =
    sym (no_cells_written c.args.settings.now c.args.bits.now (sym c.has_no_cells.ensures ∙ c.if-not-has_no_cells.false)
    c.requires.1 8 (omega arith))
