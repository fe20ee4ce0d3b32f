-- What a row of the comparison says (document 02, W4), sentence by sentence. `differences_listed` of proofs/DifferenceLaws.antt shows that
-- `differences` lists just this.
use Rattle.std.specs.Prelude.{ℕ, ◌<◌, ◌≢◌, List, [], ◌∷◌}
use Rattle.routing.specs.TileKind.{TileKind}
use Rattle.routing.specs.LogicTile.{logic_tile}
use Rattle.routing.specs.Table.{passive_count, group_count}
use Rattle.codec.specs.Settings.{field_setting, passive_setting, group_setting, cell_table, cell_flags}
use Rattle.codec.specs.Cells.{cell_value}
use Rattle.config.specs.Blocks.{settings_at}

-- "a cell's table plus 65,536 times 07's flags"
abbrev pub cell_setting_number : TileKind → List ℕ → ℕ → ℕ
cell_setting_number K settings i = cell_value (cell_table K settings i) (cell_flags K settings i)

-- "A row is five 32-bit numbers: tile, which of these (1 to 4), its index from 0, old and new setting": "fields, groups, cells, passive bits", where
-- `old` and `new` are the settings of tile t
module _ (K : TileKind) (table : List ℕ) (t : ℕ) (old new : List ℕ) where
  pub data Difference : List ℕ → Type 0 where
    field : (f : ℕ) → f < K.fields → field_setting old f ≢ field_setting new f → Difference (t ∷ 1 ∷ f ∷ field_setting old f ∷ field_setting new f ∷ [])
    -- "a group's 0 or its entry from 1"
    group : (g : ℕ) → g < group_count K table → group_setting K old g ≢ group_setting K new g
        → Difference (t ∷ 2 ∷ g ∷ group_setting K old g ∷ group_setting K new g ∷ [])
    cell : (i : ℕ) → i < K.cells → cell_setting_number K old i ≢ cell_setting_number K new i
        → Difference (t ∷ 3 ∷ i ∷ cell_setting_number K old i ∷ cell_setting_number K new i ∷ [])
    passive : (j : ℕ) → j < passive_count K table → passive_setting K old j ≢ passive_setting K new j
        → Difference (t ∷ 4 ∷ j ∷ passive_setting K old j ∷ passive_setting K new j ∷ [])

-- a difference between two blocks of n tiles with these settings
pub record DiffersIn (table old new : List ℕ) (n : ℕ) (row : List ℕ) : Type 0 where
  pub tile : ℕ
  pub within : tile < n
  pub difference : Difference logic_tile table tile (settings_at old tile) (settings_at new tile) row
