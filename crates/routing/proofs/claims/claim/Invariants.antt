-- `claims::claim` answers whether every position of the run is free, and then has claimed them. Invariant: the map has the slots before
-- slot + k, and the positions from k on decide.  Assumes nothing.
use Rattle.routing.specs.TableCheck.{position_ok}
use Rattle.routing.specs.Claiming.{TableOwned}
use Rattle.routing.specs.LogicTile.{logic_tile}
use Rattle.lists.specs.Search.{all_from}
use mathlib.Core.Path.{◌≡◌}
use Prim.Native.Nat.{◌+◌, ◌-◌}
use Rattle.routing.proofs.claims.claim.Given as goal

abbrev pub invariant-loop-k : goal.invariant-loop-k
invariant-loop-k l =
    TableOwned logic_tile l.table (l.slot + l.k) l.own ×
    (all_from (position_ok logic_tile l.table l.slot) l.k (l.n - l.k) ≡ all_from (position_ok logic_tile l.table l.slot) 0 l.n)
