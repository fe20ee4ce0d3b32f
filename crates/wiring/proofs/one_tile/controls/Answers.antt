-- `controls` meets its contract: each range starts where the one before ends. Assumes nothing.
use Rattle.wiring.proofs.FillPorts.{clocks_own, globals, carry_in_lem, carries_own, cascade}
use Rattle.wiring.proofs.one_tile.controls.Goals as goal

pub own-requires : goal.own-requires
own-requires c =
    let a = c.args in
    let given = c.requires in
    (given.0, clocks_own a.b a.x a.y given.1 given.2, given.3)

pub number-requires : goal.number-requires
number-requires c =
    let a = c.args in
    let given = c.requires in
    (given.0, globals a.b a.x a.y given.1 given.2, c.own.ensures)

pub number-requires-2 : goal.number-requires-2
number-requires-2 c =
    let a = c.args in
    let given = c.requires in (
      given.0,
      rw c.below_wire-carry.ensures
          (carry_in_lem a.b a.x a.y given.1 given.2),
      c.number.ensures,
    )

pub own-requires-2 : goal.own-requires-2
own-requires-2 c =
    let a = c.args in
    let given = c.requires
    in
    (given.0, carries_own a.b a.x a.y given.1 given.2, c.number-2.ensures)

pub number-requires-3 : goal.number-requires-3
number-requires-3 c =
    let a = c.args in
    let given = c.requires in (
      given.0,
      rw c.below_wire-cascade.ensures (cascade a.b a.x a.y given.1 given.2),
      c.own-2.ensures,
    )
