-- `sources::find_sources` meets its contract. Invariant: the pass has taken the switches of the tiles before `tile` (`Sourced`). Assumes nothing.
use Rattle.ports.specs.Lengths.{max_groups}
use Rattle.equations.specs.Sources.{Sourced}
use Prim.Native.Nat.{◌*◌}
use Rattle.drivers.proofs.sources.find_sources.Given as goal

abbrev pub invariant-loop-tile : goal.invariant-loop-tile
invariant-loop-tile l = Sourced l.b l.table l.st (max_groups * l.tile) l.sources l.low
