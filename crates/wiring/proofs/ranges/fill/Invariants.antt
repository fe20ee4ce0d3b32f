-- `ranges::fill` meets its contract. Invariant: the first k ports of the range have their wires. Assumes nothing.
use Prim.Native.Nat.{ℕ, ◌+◌, ◌<◌}
use mathlib.Core.Path.{◌≡◌}
use lib.ListN.{get_or}
use Rattle.ports.specs.Block.{port}
use Rattle.fabric.specs.Wire.{wire_of}
use Rattle.wiring.proofs.ranges.fill.Given as goal

abbrev pub invariant-loop-k : goal.invariant-loop-k
invariant-loop-k g l = (j : ℕ) → j < l.k → get_or l.to-items j 0 ≡ wire_of l.fn.b (port l.fn.b l.x l.y (l.q + j))
