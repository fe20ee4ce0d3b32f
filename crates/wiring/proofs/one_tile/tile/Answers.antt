-- `tile` meets its contract: each part starts where the one before ends. Assumes nothing.
use Rattle.wiring.proofs.FillPorts.{row4, row12, inputs_own}
use Rattle.wiring.proofs.one_tile.tile.Goals as goal

pub row-requires : goal.row-requires
row-requires c =
    let given = c.requires in
    (given.0, row4 c.args.b, given.1, given.2, given.3)

pub row-requires-2 : goal.row-requires-2
row-requires-2 c =
    let given = c.requires in
    (given.0, row12 c.args.b, given.1, given.2, c.right.ensures)

pub own-requires : goal.own-requires
own-requires c =
    let a = c.args in
    let given = c.requires in
    (given.0, inputs_own a.b a.x a.y given.1 given.2, c.fill_sp12_column.ensures)
