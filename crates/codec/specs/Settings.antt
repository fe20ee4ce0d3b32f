-- The settings of a tile as one list of numbers: the fields, 64 passive bits, 512 group settings, and table and flags of each cell.
-- "A tile's settings hold its eight cells, each a record by value, with fields, passive bits and, for each group, off or an entry." A group's
-- setting is 0 for off, else an entry from 1. Unused numbers are 0.
use Rattle.std.specs.Prelude.{ℕ, ◌+◌, ◌*◌, List, get_or}
use Rattle.routing.specs.TileKind.{TileKind}
use Rattle.ports.specs.Lengths.{max_passives, max_groups}

-- field f
abbrev pub field_setting : List ℕ → ℕ → ℕ
field_setting settings f = get_or settings f 0

module _ (K : TileKind) where
  -- passive bit j
  abbrev pub passive_setting : List ℕ → ℕ → ℕ
  passive_setting settings j = get_or settings (K.fields + j) 0

  -- where the groups' settings and the cells begin
  abbrev pub groups_from : ℕ
  groups_from = K.fields + max_passives

  abbrev pub cells_from : ℕ
  cells_from = groups_from + max_groups

  -- the setting of group g; table and flags of cell i
  abbrev pub group_setting : List ℕ → ℕ → ℕ
  group_setting settings g = get_or settings (groups_from + g) 0

  abbrev pub cell_table : List ℕ → ℕ → ℕ
  cell_table settings i = get_or settings (cells_from + 2 * i) 0

  abbrev pub cell_flags : List ℕ → ℕ → ℕ
  cell_flags settings i = get_or settings (cells_from + 2 * i + 1) 0
