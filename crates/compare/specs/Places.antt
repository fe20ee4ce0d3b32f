-- The places of a tile that are compared, "fields, groups, cells, passive bits, each by index": place j from 0, what stands there, and its row. One
-- number for all four kinds lets one count and one list serve the block.
use Rattle.std.specs.Prelude.{ℕ, ◌+◌, ◌-◌, Bool, cond, not, List, [], ◌∷◌, eqb, ltb, get_or}
use Rattle.ports.specs.Lengths.{max_passives, max_groups}
use Rattle.routing.specs.LogicTile.{logic_tile}
use Rattle.codec.specs.Settings.{field_setting, passive_setting, group_setting}
use Rattle.codec.specs.Cells.{cell_number, cell_setting}
use Rattle.compare.specs.declared.settings.Kind.{Kind}
use Rattle.compare.specs.declared.settings.Kind.TheVariants.{Field, Group, Cell, Passive}

-- "A row is five 32-bit numbers"
abbrev pub row_length : ℕ
row_length = 5

-- where the groups, the cells and the passive bits begin
abbrev pub group_places : ℕ
group_places = logic_tile.fields

abbrev pub cell_places : ℕ
cell_places = group_places + max_groups

abbrev pub passive_places : ℕ
passive_places = cell_places + logic_tile.cells

abbrev pub places_per_tile : ℕ
places_per_tile = passive_places + max_passives

-- a choice by the kind of place j
abbrev pub by_kind : {A : Type 0} → ℕ → A → A → A → A → A
by_kind j field group cell passive = cond (ltb j group_places) field (cond (ltb j cell_places) group (cond (ltb j passive_places) cell passive))

-- "which of these (1 to 4), its index from 0"
unfoldable pub kind_at : ℕ → ℕ
kind_at j = by_kind j 1 2 3 4

unfoldable pub index_at : ℕ → ℕ
index_at j = by_kind j j (j - group_places) (j - cell_places) (j - passive_places)

unfoldable pub value_at : List ℕ → ℕ → ℕ
value_at settings j =
    by_kind j (field_setting settings j) (group_setting logic_tile settings (j - group_places)) (cell_number (cell_setting settings (j - cell_places)))
    (passive_setting logic_tile settings (j - passive_places))

-- the test and the row of place j of tile t, with these settings before and after
unfoldable pub differ_at : List ℕ → List ℕ → ℕ → Bool
differ_at old new j = not (eqb (value_at old j) (value_at new j))

unfoldable pub row_at : ℕ → List ℕ → List ℕ → ℕ → List ℕ
row_at t old new j = t ∷ kind_at j ∷ index_at j ∷ value_at old j ∷ value_at new j ∷ []

-- ---- the same, kind by kind, as the code goes through them

-- settings that are one number each, from `start` on
unfoldable pub number_apart : ℕ → List ℕ → List ℕ → ℕ → Bool
number_apart start old new i = not (eqb (get_or old (start + i) 0) (get_or new (start + i) 0))

unfoldable pub number_row : (tile kind start : ℕ) → List ℕ → List ℕ → ℕ → List ℕ
number_row tile kind start old new i = tile ∷ kind ∷ i ∷ get_or old (start + i) 0 ∷ get_or new (start + i) 0 ∷ []

-- the number that the code's name of a kind stands for
abbrev pub kind_number : Kind → ℕ
kind_number Field = 1
kind_number Group = 2
kind_number Cell = 3
kind_number Passive = 4
