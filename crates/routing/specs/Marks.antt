-- The patterns of a group's entries, marked while a table is checked: what the functions that mark them promise each other. A pattern of group g
-- is marked g + 1, above every mark of the groups before, so that the marks need not be cleared between groups.
use Rattle.std.specs.Prelude.{ℕ, ◌+◌, ◌<◌, ◌≤◌, ◌≡◌, List, eqb, length, get_or}
use Rattle.lists.specs.Search.{some_below}
use Rattle.routing.specs.TileKind.{TileKind}
use Rattle.routing.specs.Table.{has_pattern}

-- `seen` has a number for each of the 256 patterns of eight positions, and only groups before g have marked any: no number is above g
pub record MarkedBefore (g : ℕ) (seen : List ℕ) : Type 0 where
  pub long : length seen ≡ 256
  pub low : (v : ℕ) → v < 256 → get_or seen v 0 ≤ g

-- the patterns marked g + 1 are those of the first e entries of group g, and no later group has marked any
pub record Marked (K : TileKind) (table : List ℕ) (g e : ℕ) (seen : List ℕ) : Type 0 where
  pub none_later : MarkedBefore (g + 1) seen
  pub marks : (v : ℕ) → v < 256 → eqb (get_or seen v 0) (g + 1) ≡ some_below (has_pattern K table g v) e
