-- `fill_sp12_column` meets its contract: the edge to the south is the tile's there. Assumes nothing.
use Rattle.wiring.proofs.FillPorts.{column12_south, column12_owns, column12_far}
use Rattle.wiring.proofs.spans.fill_sp12_column.Goals as goal

pub from_south-requires : goal.from_south-requires
from_south-requires c =
    let a = c.args in
    let given = c.requires in
    (given.0, column12_south a.b a.x a.y given.1 given.2 c.if-y-gt0.true, given.3)

pub from_rim-requires : goal.from_rim-requires
from_rim-requires c =
    let a = c.args in
    let given = c.requires in (
      given.0,
      column12_owns a.b a.x a.y given.1 given.2 c.if-y-gt0.false,
      column12_far a.b a.x a.y given.1 given.2 c.if-y-gt0.false,
      given.3,
    )
