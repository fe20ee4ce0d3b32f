-- `tiles` meets its contract. Invariant: the tiles to the west are filled. Assumes nothing.
use Rattle.wiring.specs.Fill.{Wired}
use Rattle.ports.specs.Block.{port}
use Rattle.wiring.proofs.tiles.Given as goal

abbrev pub invariant-loop-x : goal.invariant-loop-x
invariant-loop-x l = Wired l.b (port l.b l.x l.y 0) l.wires
