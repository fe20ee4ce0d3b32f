-- `clock::value_at` meets its contract: the value stands at the port's wire. Assumes nothing.
use native.Mathlib.Omega.{arith}
use Rattle.ports.specs.Block.{port_of}
use Rattle.ports.proofs.BlockLaws.{port_of_lt}
use Rattle.fabric.proofs.WireLaws.{wire_within}
use Rattle.stepper.proofs.clock.value_at.Goals as goal

pub bounds-values-from : goal.bounds-values-from
bounds-values-from c =
    let a = c.args in
    omega (arith, wire_within a.b (port_of a.tile a.q) (port_of_lt a.b a.tile a.q c.requires.1 c.requires.2), c.from.ensures, c.tile_wire.ensures)
