-- `row::row_at` meets its contract: the seven reads are those of `row_at`. Assumes nothing.
use Rattle.netlist.specs.Rows.{row_at}
use mathlib.Core.Path.{refl}
use Rattle.netlist.proofs.row.row_at.Goals as goal

pub returns : goal.returns
unfolding row_at
returns c = refl
