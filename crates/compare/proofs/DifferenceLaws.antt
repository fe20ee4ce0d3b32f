-- The computed rows are just the differences. Main laws: `differences_listed`, `differences_length`. Assumes nothing.
use Prim.Native.Nat.{ℕ, ◌+◌, ◌-◌, ◌*◌, ◌/◌, ◌%◌, ◌<◌, ◌≤◌, ◌^◌}
use mathlib.Core.Path.{◌≡◌, sym, ap, subst, ◌∙◌}
use mathlib.Core.Bool.{true, not}
use mathlib.Core.Logic.{◌⊎◌, inl, inr, ⊎_elim, ◌≢◌}
use mathlib.Core.List.{List, [], ◌∷◌}
use native.Mathlib.Omega.{arith}
use native.Mathlib.Nat.{div-add-mod, mod-lt}
use borrow.Author.Tests.{eq-eqb, ne_eqb, not-true}
use Rattle.lists.proofs.CaseLaws.{lt_or_le, clash}
use Rattle.lists.specs.Listing.{Precedes, here, later, Lists, zero_filled}
use lib.ListN.{length}
use Rattle.lists.proofs.RowLaws.{rows_length_lem}
use Rattle.lists.proofs.ListingLaws.{Enumerates, rows_listed, filled_length}
use Rattle.ports.specs.Lengths.{max_passives, max_groups}
use Rattle.cell.proofs.SettingsLaws.{flags_of_cell}
use Rattle.routing.specs.LogicTile.{logic_tile}
use Rattle.routing.specs.Table.{passive_count, group_count}
use Rattle.routing.specs.Rules.{TableRules}
use Rattle.words.specs.Forms.{TileBits}
use Rattle.codec.specs.Settings.{passive_setting, group_setting, cell_table, cell_flags}
use Rattle.codec.specs.Cells.{cell_number, cell_setting}
use Rattle.codec.specs.Reading.{ReadsTo}
use Rattle.config.specs.Blocks.{settings_at}
use Rattle.config.specs.Facts.{TilesRead}
use Rattle.compare.specs.Difference.{cell_setting_number, Difference, field, group, cell, passive, DiffersIn}
use Rattle.compare.specs.Places.{row_length, group_places, cell_places, passive_places, places_per_tile, kind_at, index_at, value_at, differ_at, row_at}
use Rattle.compare.specs.Rows.{block_differs, block_row, difference_count, differences}
use Rattle.compare.proofs.PlaceLaws.{value_field, value_group, value_cell, value_passive, kind_field, kind_group, kind_cell, kind_passive, row_is}
use Rattle.compare.proofs.BlockLaws.{tile_differs, tile_row, block_row_length}

-- ---- which kind a place is

data Kind (j : ℕ) : Type 0 where
  is_field : j < group_places → kind_at j ≡ 1 → index_at j ≡ j → Kind j
  is_group : group_places ≤ j → j < cell_places → kind_at j ≡ 2 → index_at j ≡ j - group_places → Kind j
  is_cell : cell_places ≤ j → j < passive_places → kind_at j ≡ 3 → index_at j ≡ j - cell_places → Kind j
  is_passive : passive_places ≤ j → kind_at j ≡ 4 → index_at j ≡ j - passive_places → Kind j

kind_of_lem : (j : ℕ) → Kind j
kind_of_lem j = ⊎_elim fields (λ a. ⊎_elim (groups a) (λ b. ⊎_elim (cells b) passives (lt_or_le j passive_places)) (lt_or_le j cell_places)) (lt_or_le j group_places)
  where
    fields : j < group_places → Kind j
    fields a = let k = kind_field j a in is_field a k.0 k.1

    groups : group_places ≤ j → j < cell_places → Kind j
    groups a b = let k = kind_group j a b in is_group a b k.0 k.1

    cells : cell_places ≤ j → j < passive_places → Kind j
    cells a b = let k = kind_cell j a b in is_cell a b k.0 k.1

    passives : passive_places ≤ j → Kind j
    passives a = let k = kind_passive j a in is_passive a k.0 k.1

-- a later place has a higher kind, or the same and a higher index
kinds_rise : (i j : ℕ) → i < j → Kind i → Kind j → (kind_at i < kind_at j) ⊎ ((kind_at i ≡ kind_at j) × (index_at i < index_at j))
kinds_rise i j l (is_field a k x) (is_field b m y) = inr (omega arith, omega arith)
kinds_rise i j l (is_field a k x) (is_group b b' m y) = inl (omega arith)
kinds_rise i j l (is_field a k x) (is_cell b b' m y) = inl (omega arith)
kinds_rise i j l (is_field a k x) (is_passive b m y) = inl (omega arith)
kinds_rise i j l (is_group a a' k x) (is_field b m y) = absurd (omega arith)
kinds_rise i j l (is_group a a' k x) (is_group b b' m y) = inr (omega arith, omega arith)
kinds_rise i j l (is_group a a' k x) (is_cell b b' m y) = inl (omega arith)
kinds_rise i j l (is_group a a' k x) (is_passive b m y) = inl (omega arith)
kinds_rise i j l (is_cell a a' k x) (is_field b m y) = absurd (omega arith)
kinds_rise i j l (is_cell a a' k x) (is_group b b' m y) = absurd (omega arith)
kinds_rise i j l (is_cell a a' k x) (is_cell b b' m y) = inr (omega arith, omega arith)
kinds_rise i j l (is_cell a a' k x) (is_passive b m y) = inl (omega arith)
kinds_rise i j l (is_passive a k x) (is_field b m y) = absurd (omega arith)
kinds_rise i j l (is_passive a k x) (is_group b b' m y) = absurd (omega arith)
kinds_rise i j l (is_passive a k x) (is_cell b b' m y) = absurd (omega arith)
kinds_rise i j l (is_passive a k x) (is_passive b m y) = inr (omega arith, omega arith)

-- one number after another, and the rest
precedes_later : {a b : ℕ} {r s : List ℕ} → a ≡ b → Precedes r s → Precedes (a ∷ r) (b ∷ s)
precedes_later {a} {b} {r} {s} e h = subst (λ (x : ℕ). Precedes (a ∷ r) (x ∷ s)) e (later h)

places_rise : (t : ℕ) (old new : List ℕ) (i j : ℕ) → i < j → Precedes (row_at t old new i) (row_at t old new j)
unfolding row_at
places_rise t old new i j l =
    ⊎_elim (λ (h : kind_at i < kind_at j). later (here h))
    (λ (h : (kind_at i ≡ kind_at j) × (index_at i < index_at j)). later (precedes_later h.0 (here h.1)))
    (kinds_rise i j l (kind_of_lem i) (kind_of_lem j))

tiles_rise : (t s : ℕ) (a b c d : List ℕ) (i j : ℕ) → t < s → Precedes (row_at t a b i) (row_at s c d j)
unfolding row_at
tiles_rise t s a b c d i j l = here l

-- ---- one tile: the places that differ are its differences

-- a cell as a number, from the settings
pub cell_number_is : (table : List ℕ) (bit : ℕ → ℕ) (settings : List ℕ) → ReadsTo table bit settings → (i : ℕ) → i < logic_tile.cells
    → cell_number (cell_setting settings i) ≡ cell_setting_number logic_tile settings i
cell_number_is table bit settings R i l =
    ap (λ (x : ℕ). cell_table logic_tile settings i + 2 ^ 16 * x)
    (flags_of_cell (cell_table logic_tile settings i) (cell_flags logic_tile settings i) (R.flags_fit i l))

module _ (table : List ℕ) (t : ℕ) (a b : ℕ → ℕ) (old new : List ℕ) (R : ReadsTo table a old) (S : ReadsTo table b new) where
  cell_value_lem : (bit : ℕ → ℕ) (settings : List ℕ) → ReadsTo table bit settings → (j : ℕ) → cell_places ≤ j → j < passive_places
      → value_at settings j ≡ cell_setting_number logic_tile settings (j - cell_places)
  cell_value_lem bit settings Q j h k = value_cell settings j h k ∙ cell_number_is table bit settings Q (j - cell_places) (omega arith)

  -- the row of place j, once its kind, index and settings are known
  as_row : (j kind i x y : ℕ) → kind_at j ≡ kind → index_at j ≡ i → value_at old j ≡ x → value_at new j ≡ y → row_at t old new j ≡ t ∷ kind ∷ i ∷ x ∷ y ∷ []
  as_row j kind i x y k e v w = row_is old new j x y v w t kind i k e

  tile_only : (j : ℕ) → j < places_per_tile → value_at old j ≢ value_at new j → Difference logic_tile table t old new (row_at t old new j)
  tile_only j l ne = go (kind_of_lem j)
    where
      go : Kind j → Difference logic_tile table t old new (row_at t old new j)
      go (is_field h k x) =
          let v = value_field old j h in let w = value_field new j h in
          subst (Difference logic_tile table t old new) (sym (as_row j 1 j _ _ k x v w)) (field j h (λ q. ne (v ∙ q ∙ sym w)))
      go (is_group h h' k x) =
          let v = value_group old j h h' in let w = value_group new j h h' in
          let i = j - group_places in
          let few : i < group_count logic_tile table =
          ⊎_elim (λ z. z) (λ (z : group_count logic_tile table ≤ i).
          absurd (ne (v ∙ R.group_rest i z (omega arith) ∙ sym (S.group_rest i z (omega arith)) ∙ sym w))) (lt_or_le i (group_count logic_tile table)) in
          subst (Difference logic_tile table t old new) (sym (as_row j 2 i _ _ k x v w)) (group i few (λ q. ne (v ∙ q ∙ sym w)))
      go (is_cell h h' k x) =
          let v = cell_value_lem a old R j h h' in let w = cell_value_lem b new S j h h' in
          subst (Difference logic_tile table t old new) (sym (as_row j 3 (j - cell_places) _ _ k x v w))
          (cell (j - cell_places) (omega arith) (λ q. ne (v ∙ q ∙ sym w)))
      go (is_passive h k x) =
          let v = value_passive old j h in let w = value_passive new j h in
          let i = j - passive_places in
          let few : i < passive_count logic_tile table =
          ⊎_elim (λ z. z) (λ (z : passive_count logic_tile table ≤ i).
          absurd (ne (v ∙ R.passive_rest i z (omega arith) ∙ sym (S.passive_rest i z (omega arith)) ∙ sym w))) (lt_or_le i (passive_count logic_tile table)) in
          subst (Difference logic_tile table t old new) (sym (as_row j 4 i _ _ k x v w)) (passive i few (λ q. ne (v ∙ q ∙ sym w)))

  -- a place that differs and has this row
  abbrev At : List ℕ → Type 0
  At row = (j : ℕ) × (j < places_per_tile) × (value_at old j ≢ value_at new j) × (row_at t old new j ≡ row)

  -- the groups and passive bits that a table lists have places
  module _ (few_groups : group_count logic_tile table ≤ max_groups) (few_passives : passive_count logic_tile table ≤ max_passives) where
    tile_every : (row : List ℕ) → Difference logic_tile table t old new row → At row
    tile_every row (field f l ne) =
        let v = value_field old f l in let w = value_field new f l in
        let k = kind_field f l in
        (f, omega arith, (λ q. ne (sym v ∙ q ∙ w)), as_row f 1 f _ _ k.0 k.1 v w)
    tile_every row (group g l ne) =
        let j = group_places + g in
        let e : group_places + g - group_places ≡ g = omega arith in
        let k = kind_group (group_places + g) (omega arith) (omega arith) in
        let v = value_group old (group_places + g) (omega arith) (omega arith) ∙ ap (group_setting logic_tile old) e in
        let w = value_group new (group_places + g) (omega arith) (omega arith) ∙ ap (group_setting logic_tile new) e in
        (j, omega arith, (λ q. ne (sym v ∙ q ∙ w)), as_row j 2 g _ _ k.0 (k.1 ∙ e) v w)
    tile_every row (cell i l ne) =
        let j = cell_places + i in
        let e : cell_places + i - cell_places ≡ i = omega arith in
        let k = kind_cell (cell_places + i) (omega arith) (omega arith) in
        let v = cell_value_lem a old R (cell_places + i) (omega arith) (omega arith) ∙ ap (cell_setting_number logic_tile old) e in
        let w = cell_value_lem b new S (cell_places + i) (omega arith) (omega arith) ∙ ap (cell_setting_number logic_tile new) e in
        (j, omega arith, (λ q. ne (sym v ∙ q ∙ w)), as_row j 3 i _ _ k.0 (k.1 ∙ e) v w)
    tile_every row (passive i l ne) =
        let j = passive_places + i in
        let e : passive_places + i - passive_places ≡ i = omega arith in
        let k = kind_passive (passive_places + i) (omega arith) in
        let v = value_passive old (passive_places + i) (omega arith) ∙ ap (passive_setting logic_tile old) e in
        let w = value_passive new (passive_places + i) (omega arith) ∙ ap (passive_setting logic_tile new) e in
        (j, omega arith, (λ q. ne (sym v ∙ q ∙ w)), as_row j 4 i _ _ k.0 (k.1 ∙ e) v w)

-- the test, as a fact
pub differ_apart : (old new : List ℕ) (j : ℕ) → differ_at old new j ≡ true → value_at old j ≢ value_at new j
unfolding differ_at
differ_apart old new j e q = clash (eq-eqb (value_at old j) (value_at new j) q) (not-true _ e)

pub apart_differ : (old new : List ℕ) (j : ℕ) → value_at old j ≢ value_at new j → differ_at old new j ≡ true
unfolding differ_at
apart_differ old new j ne = ap not (ne_eqb (value_at old j) (value_at new j) ne)

-- ---- the block

module _ (table : List ℕ) (first second : ℕ → TileBits) (old new : List ℕ) (n : ℕ) (T : TableRules logic_tile table) (R : TilesRead table first old n)
    (S : TilesRead table second new n) where
  rising : (x y : ℕ) → x < y → y < places_per_tile * n → Precedes (block_row old new x) (block_row old new y)
  unfolding block_row
  rising x y l m = ⊎_elim apart together (lt_or_le (x / places_per_tile) (y / places_per_tile))
    where
      apart : x / places_per_tile < y / places_per_tile → Precedes (block_row old new x) (block_row old new y)
      apart h = tiles_rise (x / places_per_tile) (y / places_per_tile) _ _ _ _ (x % places_per_tile) (y % places_per_tile) h

      together : y / places_per_tile ≤ x / places_per_tile → Precedes (block_row old new x) (block_row old new y)
      together h =
          let t = x / places_per_tile in
          let c = div-add-mod x places_per_tile in let d = div-add-mod y places_per_tile in
          let e : x / places_per_tile ≡ y / places_per_tile =
          omega (arith, mod-lt x {m = places_per_tile} (omega arith), mod-lt y {m = places_per_tile} (omega arith)) in
          let f : x % places_per_tile < y % places_per_tile = omega arith in
          subst
          (λ (z : ℕ). Precedes (row_at (x / places_per_tile) (settings_at old (x / places_per_tile)) (settings_at new (x / places_per_tile)) (x % places_per_tile))
          (row_at z (settings_at old z) (settings_at new z) (y % places_per_tile))) e
          (places_rise t (settings_at old t) (settings_at new t) (x % places_per_tile) (y % places_per_tile) f)

  only : (x : ℕ) → x < places_per_tile * n → block_differs old new x ≡ true → DiffersIn table old new n (block_row old new x)
  unfolding block_row block_differs
  only x l e =
      let c = div-add-mod x places_per_tile in
      let t = x / places_per_tile in
      let inside : x / places_per_tile < n = omega arith in
      record {
        tile = t;
        within = inside;
        difference = tile_only table t (first t).bit (second t).bit (settings_at old t) (settings_at new t) (R.reads t inside) (S.reads t inside)
            (x % places_per_tile) (mod-lt x (omega arith)) (differ_apart _ _ (x % places_per_tile) e);
      }

  every : (row : List ℕ) → DiffersIn table old new n row → (x : ℕ) × (x < places_per_tile * n) × (block_differs old new x ≡ true) × (block_row old new x ≡ row)
  every row D =
      let t = D.tile in
      let (j, l, ne, e) = tile_every table t (first t).bit (second t).bit (settings_at old t) (settings_at new t) (R.reads t D.within) (S.reads t D.within)
      T.few_groups T.passives.few row D.difference in (
        places_per_tile * t + j,
        omega (arith, D.within),
        tile_differs old new t j l ∙ apart_differ (settings_at old t) (settings_at new t) j ne,
        tile_row old new t j l ∙ e,
      )

  differences_enumerated : Enumerates (DiffersIn table old new n) row_length (block_differs old new) (block_row old new) (places_per_tile * n)
  differences_enumerated = record { long = λ x l. block_row_length old new x; rising = rising; only = only; every = every }

  -- "lists every difference, each once and nothing else, in order of tile, then fields, groups, cells, passive bits, each by index [..]. The answer
  -- counts the rows; the rest of the list is zeros."
  pub differences_listed : (m : ℕ) → row_length * difference_count old new n ≤ m
      → Lists (DiffersIn table old new n) row_length (zero_filled m (differences old new n)) (difference_count old new n)
  differences_listed m fits =
      rows_listed (DiffersIn table old new n) row_length (block_differs old new) (block_row old new) (places_per_tile * n) differences_enumerated m fits

-- a list that is long enough keeps its length
pub differences_length : (old new : List ℕ) (n m : ℕ) → row_length * difference_count old new n ≤ m → length (zero_filled m (differences old new n)) ≡ m
differences_length old new n m fits =
    let e : length (differences old new n) ≡ row_length * difference_count old new n =
    rows_length_lem (block_differs old new) (block_row old new) row_length (places_per_tile * n) (λ x l. block_row_length old new x) in
    filled_length m (differences old new n) (omega (arith, e))
