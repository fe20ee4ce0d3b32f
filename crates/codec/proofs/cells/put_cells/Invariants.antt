-- `put_cells` meets its contract. Invariant: the first i cells are put in. Assumes nothing.
use mathlib.Core.Path.{◌≡◌}
use lib.ListN.{length}
use Rattle.codec.specs.Cells.{put_cells}
use Rattle.ports.specs.Lengths.{settings_length}
use Rattle.codec.proofs.cells.put_cells.Given as goal

abbrev pub invariant-loop-i : goal.invariant-loop-i
invariant-loop-i l = (length l.cell-items ≡ 8) × (length l.settings ≡ settings_length) × (l.settings ≡ put_cells l.initial.settings l.cell-items l.i)
