-- `write_cells` meets its contract. Invariant: the first i cells are written. Assumes nothing.
use mathlib.Core.Path.{◌≡◌}
use lib.ListN.{length}
use Rattle.codec.specs.Cells.{write_cells}
use Rattle.ports.specs.Lengths.{tile_numbers}
use Rattle.codec.proofs.cells.write_cells.Given as goal

abbrev pub invariant-loop-i : goal.invariant-loop-i
invariant-loop-i l = (length l.cell-items ≡ 8) × (length l.bits ≡ tile_numbers) × (l.bits ≡ write_cells l.initial.bits l.cell-items l.i)
