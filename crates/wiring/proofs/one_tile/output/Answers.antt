-- `output` meets its contract: the eight ports are on wires that follow each other. Assumes nothing.
use Rattle.wiring.proofs.FillPorts.{output_numbers}
use Rattle.wiring.proofs.one_tile.output.Goals as goal

pub number-requires : goal.number-requires
number-requires c =
    let a = c.args in
    let given = c.requires in (
      given.0,
      rw c.output_wire.ensures (output_numbers a.b a.x a.y given.1 given.2 a.dx a.dy a.q given.3 given.4
          given.5),
      given.6,
    )
