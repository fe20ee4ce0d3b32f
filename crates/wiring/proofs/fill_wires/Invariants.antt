-- `fill_wires` meets its contract. Invariant: the rows to the south are filled. Assumes nothing.
use Rattle.wiring.specs.Fill.{Wired}
use Rattle.ports.specs.Block.{port}
use Rattle.wiring.proofs.fill_wires.Given as goal

abbrev pub invariant-loop-y : goal.invariant-loop-y
invariant-loop-y l = Wired l.b (port l.b 0 l.y 0) l.wires
