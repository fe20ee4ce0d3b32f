-- `feeding::is_open` meets its contract: the kind of the row. Assumes nothing.
use mathlib.Core.Path.{ap}
use lib.Dec.{eqb}
use Rattle.netlist.specs.declared.row.Row.{Row}
use Rattle.card.specs.Marks.{open_from}
use Rattle.card.proofs.feeding.is_open.Goals as goal

pub returns : goal.returns
unfolding open_from
returns c = ap (λ (r : Row). eqb r.kind 1) c.row_of.ensures
