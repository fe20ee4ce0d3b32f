-- `clocks::clocked_tile` meets its contract. Invariant: the search from `tile` on is the whole search. Assumes nothing.
use Rattle.drivers.specs.Clocks.{clocked_at}
use Rattle.ports.specs.Lengths.{ports}
use Rattle.lists.specs.Search.{first}
use Rattle.lists.specs.Tables.{zeros}
use mathlib.Core.Path.{◌≡◌}
use Prim.Native.Nat.{◌-◌, ◌*◌}
use Rattle.drivers.proofs.clocks.clocked_tile.Given as goal

abbrev pub invariant-loop-tile : goal.invariant-loop-tile
invariant-loop-tile l = (first (clocked_at l.b l.st l.sources) l.tile (l.b.h * l.b.w - l.tile) ≡ first (clocked_at l.b l.st l.sources) 0 (l.b.h * l.b.w)) × (l.marks ≡ zeros (ports l.b))
