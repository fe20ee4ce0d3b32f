-- `rules::check_groups` finds the first broken part among the groups. Invariant: the map has the slots before group g, the search
-- from part 2 + g on ends where the whole one does (`Seen`), and only groups before g have marked patterns. Assumes nothing.
use Rattle.routing.proofs.PartSearch.{Seen}
use Rattle.routing.specs.Claiming.{TableOwned}
use Rattle.routing.specs.Marks.{MarkedBefore}
use Rattle.routing.specs.Slots.{group_slot}
use Rattle.ports.specs.Lengths.{max_groups}
use Rattle.routing.specs.LogicTile.{logic_tile}
use Prim.Native.Nat.{◌≤◌}
use Rattle.routing.proofs.rules.check_groups.Given as goal

abbrev pub invariant-loop-g : goal.invariant-loop-g
invariant-loop-g l =
    (l.g ≤ max_groups) × TableOwned logic_tile l.table (group_slot logic_tile l.g) l.own × Seen logic_tile l.table l.n l.g × MarkedBefore l.g l.seen
