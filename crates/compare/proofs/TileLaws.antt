-- A tile's differences, kind by kind, as the code goes through them. What it has for a kind are the values at that kind's places (`Shows`): `fields_shown`,
-- `groups_shown`, `cells_shown`, `passives_shown`. Main laws: `kind_count`: how many differ; `kind_stored`, `kind_room`: their rows behind those of the
-- kinds before. Assumes nothing.
use Prim.Native.Nat.{ℕ, ◌+◌, ◌-◌, ◌*◌, ◌<◌, ◌≤◌}
use mathlib.Core.Path.{◌≡◌, refl, sym, ap, ◌∙◌}
use mathlib.Core.Bool.{not}
use mathlib.Core.List.{List}
use native.Mathlib.Omega.{arith}
use lib.Dec.{eqb}
use lib.ListN.{length, get_or, take, drop, length-drop}
use lib.ListN.{get_or-map as map_at}
use lib.Seq.{sets, get_or-take, get_or-drop, length-take-le}
use Rattle.std.specs.Prelude.{map, sum_by}
use Rattle.std.specs.Int.{from_bool}
use Rattle.std.specs.List.{zip}
use Rattle.std.proofs.lemmas.List.{get_or-map}
use Rattle.lists.specs.Search.{count_below}
use Rattle.lists.proofs.CountLaws.{count_le}
use Rattle.lists.proofs.TableLaws.{tabulate_length}
use Rattle.lists.specs.Listing.{rows_where}
use Rattle.lists.proofs.RowLaws.{count_more}
use Rattle.lists.proofs.Storing.{StoredRows, stored_more, stored_more_room}
use Rattle.ports.specs.Lengths.{field_count, max_passives, max_groups, settings_length}
use Rattle.cell.specs.declared.logic.Cell.{Cell}
use Rattle.routing.specs.LogicTile.{logic_tile}
use Rattle.codec.specs.Settings.{groups_from}
use Rattle.codec.specs.Cells.{cell_number, cell_setting, cell_settings, empty_cell}
use Rattle.compare.specs.Places.{row_length, group_places, cell_places, passive_places, places_per_tile, kind_at, index_at, value_at, differ_at, row_at, number_apart, number_row}
use Rattle.compare.proofs.PlaceLaws.{value_field, value_group, value_cell, value_passive, kind_field, kind_group, kind_cell, kind_passive, differ_is, row_is, row_length_lem, cell_at}
use Rattle.compare.proofs.KindLaws.{count_zip}

-- ---- the settings of a kind

-- n numbers are the values at the places from j on
abbrev pub Shows : (settings : List ℕ) (j n : ℕ) → List ℕ → Type 0
Shows settings j n xs = (i : ℕ) → i < n → value_at settings (j + i) ≡ get_or xs (0 + i) 0

-- so many of a tile's settings as the code takes them out, as numbers
abbrev pub cut : (from n : ℕ) → List ℕ → List ℕ
cut from n settings = take n (drop from settings)

abbrev pub numbers : List ℕ → List ℕ
numbers = map (λ n. n)

pub cut_length : (from n : ℕ) (settings : List ℕ) → from + n ≤ length settings → length (cut from n settings) ≡ n
cut_length from n settings l = length-take-le n (drop from settings) (let e = length-drop from settings in omega arith)

module _ (settings : List ℕ) (long : length settings ≡ settings_length) where
  -- settings from `from` on that are the values at the places from j on
  cut_shown : (from j n : ℕ) → from + n ≤ settings_length → ((i : ℕ) → i < n → value_at settings (j + i) ≡ get_or settings (from + i) 0)
      → Shows settings j n (numbers (cut from n settings))
  cut_shown from j n l h i k =
      let c = cut_length from n settings (omega arith) in
      let z : i ≡ 0 + i = omega arith in
      h i k ∙ sym (get_or-take n (drop from settings) i 0 k ∙ get_or-drop from settings i 0)
      ∙ sym (get_or-map (λ n. n) (cut from n settings) i 0 0 (omega arith))
      ∙ ap (λ (x : ℕ). get_or (numbers (cut from n settings)) x 0) z

  pub fields_shown : Shows settings 0 field_count (numbers (cut 0 field_count settings))
  fields_shown = cut_shown 0 0 field_count (omega arith) (λ i l. value_field settings (0 + i) (omega arith))

  pub groups_shown : Shows settings group_places max_groups (numbers (cut (groups_from logic_tile) max_groups settings))
  groups_shown =
      cut_shown (groups_from logic_tile) group_places max_groups (omega arith)
      (λ i l. value_group settings (group_places + i) (omega arith) (omega arith)
      ∙ ap (λ (x : ℕ). get_or settings (groups_from logic_tile + x) 0) (let e : group_places + i - group_places ≡ i = omega arith in e))

  pub passives_shown : Shows settings passive_places max_passives (numbers (cut logic_tile.fields max_passives settings))
  passives_shown =
      cut_shown logic_tile.fields passive_places max_passives (omega arith)
      (λ i l. value_passive settings (passive_places + i) (omega arith)
      ∙ ap (λ (x : ℕ). get_or settings (logic_tile.fields + x) 0) (let e : passive_places + i - passive_places ≡ i = omega arith in e))

pub cells_length : (settings : List ℕ) (cells : List Cell) → cells ≡ cell_settings settings → length cells ≡ logic_tile.cells
unfolding cell_settings
cells_length settings cells e = ap length e ∙ tabulate_length (cell_setting settings) 0 8

pub cells_shown : (settings : List ℕ) (cells : List Cell) → cells ≡ cell_settings settings → Shows settings cell_places logic_tile.cells (map cell_number cells)
cells_shown settings cells e i l =
    value_cell settings (cell_places + i) (omega arith) (omega arith)
    ∙ ap (λ (x : ℕ). cell_number (cell_setting settings x)) (let q : cell_places + i - cell_places ≡ i = omega arith in q)
    ∙ ap cell_number (sym (ap (λ (xs : List Cell). get_or xs i empty_cell) e ∙ cell_at settings i l)) ∙ sym (map_at cell_number cells i empty_cell)
    ∙ ap (λ (x : ℕ). get_or (map cell_number cells) x 0) (let q : i ≡ 0 + i = omega arith in q)

-- ---- their kind and their index

abbrev pub Kinds : (j n kind : ℕ) → Type 0
Kinds j n kind = (i : ℕ) → i < n → (kind_at (j + i) ≡ kind) × (index_at (j + i) ≡ i)

pub field_kinds : Kinds 0 field_count 1
field_kinds i l = let k = kind_field (0 + i) (omega arith) in (k.0, k.1 ∙ (let e : 0 + i ≡ i = omega arith in e))

pub group_kinds : Kinds group_places max_groups 2
group_kinds i l = let k = kind_group (group_places + i) (omega arith) (omega arith) in (k.0, k.1 ∙ (let e : group_places + i - group_places ≡ i = omega arith in e))

pub cell_kinds : Kinds cell_places logic_tile.cells 3
cell_kinds i l = let k = kind_cell (cell_places + i) (omega arith) (omega arith) in (k.0, k.1 ∙ (let e : cell_places + i - cell_places ≡ i = omega arith in e))

pub passive_kinds : Kinds passive_places max_passives 4
passive_kinds i l = let k = kind_passive (passive_places + i) (omega arith) in (k.0, k.1 ∙ (let e : passive_places + i - passive_places ≡ i = omega arith in e))

-- ---- the differences of a kind

abbrev pub TileStored : ℕ → (old new : List ℕ) → ℕ → List ℕ → ℕ → ℕ → List ℕ → Type 0
TileStored t old new from list₀ j at list = StoredRows (differ_at old new) (row_at t old new) row_length from list₀ j at list

module _ (old new : List ℕ) (j n : ℕ) (olds news : List ℕ) (before : Shows old j n olds) (after : Shows new j n news) where
  apart : (i : ℕ) → i < n → differ_at old new (j + i) ≡ number_apart 0 olds news i
  unfolding number_apart
  apart i l = differ_is old new (j + i) _ _ (before i l) (after i l)

  pub kind_count : (c d : ℕ) → c ≡ count_below (differ_at old new) j → d ≡ count_below (number_apart 0 olds news) n → c + d ≡ count_below (differ_at old new) (j + n)
  kind_count c d e f = count_more (differ_at old new) j n (number_apart 0 olds news) apart c d e f

  module _ (t kind : ℕ) (kinds : Kinds j n kind) (from : ℕ) (list₀ : List ℕ) {at : ℕ} {list : List ℕ} (S : TileStored t old new from list₀ j at list) where
    row : (i : ℕ) → i < n → row_at t old new (j + i) ≡ number_row t kind 0 olds news i
    unfolding number_row
    row i l = let k = kinds i l in row_is old new (j + i) _ _ (before i l) (after i l) t kind i k.0 k.1

    pub kind_stored : (m : ℕ) → m ≡ n → (next : List ℕ) (then : ℕ) → next ≡ sets list at (rows_where (number_apart 0 olds news) (number_row t kind 0 olds news) m)
        → then ≡ at + row_length * count_below (number_apart 0 olds news) m → TileStored t old new from list₀ (j + n) then next
    kind_stored m e next then f g =
        stored_more S n (number_apart 0 olds news) (number_row t kind 0 olds news) apart (row_length_lem t old new) row next then
        (f ∙ ap (λ (x : ℕ). sets list at (rows_where (number_apart 0 olds news) (number_row t kind 0 olds news) x)) e)
        (g ∙ ap (λ (x : ℕ). at + row_length * count_below (number_apart 0 olds news) x) e)

    pub kind_room : (m : ℕ) → m ≡ n → j + n ≤ places_per_tile → from + row_length * count_below (differ_at old new) places_per_tile ≤ length list₀
        → at + row_length * count_below (number_apart 0 olds news) m ≤ length list
    kind_room m e l fits =
        rw e (stored_more_room S n (number_apart 0 olds news) (number_row t kind 0 olds news) apart places_per_tile l fits)

-- ---- how many a tile has, as the code adds them up

module _ {X : Type 0} (number : X → ℕ) (olds news : List X) (long : length news ≡ length olds) (d : ℕ)
    (e : d ≡ sum_by (λ p. from_bool (not (eqb (number p.0) (number p.1)))) (zip olds news)) where
  pub changed_count : (n : ℕ) → length olds ≡ n → d ≡ count_below (number_apart 0 (map number olds) (map number news)) n
  changed_count n f = e ∙ count_zip number olds news long ∙ ap (count_below (number_apart 0 (map number olds) (map number news))) f

  pub changed_le : d ≤ length olds
  changed_le = omega (arith, changed_count (length olds) refl, count_le (number_apart 0 (map number olds) (map number news)) (length olds))
