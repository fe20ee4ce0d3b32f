-- `follow::short_walk` meets its contract. Invariant: the walk gets to u. Assumes nothing.
use Rattle.drivers.proofs.WalkLaws.{Gets}
use lib.ListN.{length}
use Prim.Native.Nat.{◌<◌}
use Rattle.drivers.proofs.follow.short_walk.Given as goal

abbrev pub invariant-loop : goal.invariant-loop
invariant-loop l = (l.u < length l.sources) × Gets l.sources l.start l.u
