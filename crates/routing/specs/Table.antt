-- The lent routing table as one list of numbers: the fields; the passive count and 64 positions; the group count and 512 groups of 75
-- numbers: destination, position count, 8 positions, entry count, 32 of pattern and source. What stands in unused places is not read.
use Rattle.std.specs.Prelude.{ℕ, ◌+◌, ◌*◌, Bool, List, eqb, get_or}
use Rattle.lists.specs.Search.{first}
use Rattle.ports.specs.Lengths.{group_length}
use Rattle.routing.specs.TileKind.{TileKind}

-- the position of field f
abbrev pub field_at : List ℕ → ℕ → ℕ
field_at table f = get_or table f 0

module _ (K : TileKind) where
  -- how many passive positions the table has, passive position j, and how many groups it has
  abbrev pub passive_count : List ℕ → ℕ
  passive_count table = get_or table K.fields 0

  abbrev pub passive_at : List ℕ → ℕ → ℕ
  passive_at table j = get_or table (K.fields + 1 + j) 0

  abbrev pub group_count : List ℕ → ℕ
  group_count table = get_or table (K.fields + 65) 0

  -- where group g begins
  abbrev pub group_start : ℕ → ℕ
  group_start g = K.fields + 66 + group_length * g

  abbrev pub destination_of : List ℕ → ℕ → ℕ
  destination_of table g = get_or table (group_start g) 0

  -- how many positions group g has, and position k of it
  abbrev pub width_of : List ℕ → ℕ → ℕ
  width_of table g = get_or table (group_start g + 1) 0

  abbrev pub position_at : List ℕ → ℕ → ℕ → ℕ
  position_at table g k = get_or table (group_start g + 2 + k) 0

  -- how many entries group g has, and pattern and source of entry e of it
  abbrev pub entry_count : List ℕ → ℕ → ℕ
  entry_count table g = get_or table (group_start g + 10) 0

  abbrev pub pattern_at : List ℕ → ℕ → ℕ → ℕ
  pattern_at table g e = get_or table (group_start g + 11 + 2 * e) 0

  abbrev pub source_at : List ℕ → ℕ → ℕ → ℕ
  source_at table g e = get_or table (group_start g + 12 + 2 * e) 0

  abbrev pub has_pattern : List ℕ → ℕ → ℕ → ℕ → Bool
  has_pattern table g pattern e = eqb (pattern_at table g e) pattern

  -- the first entry of group g with this pattern, or its number of entries
  abbrev pub entry_of : List ℕ → ℕ → ℕ → ℕ
  entry_of table g pattern = first (has_pattern table g pattern) 0 (entry_count table g)
