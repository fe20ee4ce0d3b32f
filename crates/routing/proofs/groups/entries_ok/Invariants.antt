-- `groups::entries_ok`. Invariant: the entries from e on decide, and the patterns of those before have the mark of the group. Assumes nothing.
use mathlib.Core.Path.{◌≡◌}
use Prim.Native.Nat.{◌-◌}
use Rattle.lists.specs.Search.{all_from}
use Rattle.routing.specs.LogicTile.{logic_tile}
use Rattle.routing.specs.Marks.{Marked}
use Rattle.routing.specs.TableCheck.{entry_ok}
use Rattle.routing.proofs.groups.entries_ok.Given as goal

abbrev pub invariant-loop-e : goal.invariant-loop-e
invariant-loop-e l =
    (all_from (entry_ok logic_tile l.table l.g) l.e (l.n - l.e) ≡ all_from (entry_ok logic_tile l.table l.g) 0 l.n) × Marked logic_tile l.table l.g l.e l.seen
