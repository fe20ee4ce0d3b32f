-- `fill_sp4_column` meets its contract: the edge to the south is the tile's there, or on the rim that of the tile to the west. Assumes nothing.
use Rattle.wiring.proofs.FillPorts.{column4_south, column4_west, column4_owns, column4_far}
use Rattle.wiring.proofs.spans.fill_sp4_column.Goals as goal

pub from_south-requires : goal.from_south-requires
from_south-requires c =
    let a = c.args in
    let given = c.requires in
    (given.0, column4_south a.b a.x a.y given.1 given.2 c.if-y-gt0.true, given.3)

pub from_south-requires-then-x-gt0 : goal.from_south-requires-then-x-gt0
from_south-requires-then-x-gt0 c =
    let a = c.args in
    let given = c.requires in
    (given.0, column4_west a.b a.x a.y given.1 given.2 c.if-x-gt0.true c.if-y-gt0.false, given.3)

pub from_rim-requires : goal.from_rim-requires
from_rim-requires c =
    let a = c.args in
    let given = c.requires in (
      given.0,
      column4_owns a.b a.x a.y given.1 given.2 c.if-x-gt0.false c.if-y-gt0.false,
      column4_far a.b a.x a.y given.1 given.2 c.if-x-gt0.false c.if-y-gt0.false,
      given.3,
    )
