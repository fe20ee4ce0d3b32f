-- `sources::take_tile` meets its contract. Invariant: the pass has taken the switches before group g (`Sourced`). Assumes nothing.
use Rattle.equations.specs.Sources.{Sourced}
use Rattle.ports.specs.Lengths.{max_groups}
use Prim.Native.Nat.{◌+◌, ◌*◌}
use Rattle.drivers.proofs.sources.take_tile.Given as goal

abbrev pub invariant-loop-g : goal.invariant-loop-g
invariant-loop-g l = Sourced l.b l.table l.st (max_groups * l.tile + l.g) l.sources l.lowest
