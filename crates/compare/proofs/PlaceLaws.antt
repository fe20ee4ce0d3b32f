-- The places of a tile. Main laws: `by_field`, `by_group`, `by_cell`, `by_passive`: which kind place j is; `value_field`, .. what stands there.
-- Assumes nothing.
use Prim.Native.Nat.{ℕ, ◌-◌, ◌<◌, ◌≤◌, ◌^◌}
use mathlib.Core.Path.{◌≡◌, refl, sym, ap, ap₂, ◌∙◌}
use mathlib.Core.Bool.{true, false, not}
use mathlib.Core.List.{List, [], ◌∷◌}
use native.Mathlib.Omega.{arith}
use borrow.Author.Tests.{lt-ltb, le-ltb, eq-eqb, ne_eqb, eqb-true}
use lib.Dec.{eqb}
use lib.ListN.{length, get_or}
use Rattle.lists.proofs.TableLaws.{tabulate_zero}
use Rattle.routing.specs.LogicTile.{logic_tile}
use Rattle.codec.specs.Settings.{field_setting, passive_setting, group_setting}
use Rattle.codec.specs.Cells.{cell_number, cell_setting, cell_settings, empty_cell, same_cell}
use mathlib.Core.Logic.{⊎_elim, ◌≢◌}
use Rattle.lists.proofs.CaseLaws.{cases, eq_or_ne, and_equal, and_left, and_right}
use Rattle.cell.specs.declared.logic.Cell.{Cell}
use Rattle.cell.specs.Settings.{flags_of}
use Rattle.compare.specs.Places.{row_length, group_places, cell_places, passive_places, by_kind, kind_at, index_at, value_at, differ_at, row_at}

module _ {A : Type 0} (j : ℕ) (f g c p : A) where
  pub by_field : j < group_places → by_kind j f g c p ≡ f
  by_field h = rw (lt-ltb j group_places h)

  pub by_group : group_places ≤ j → j < cell_places → by_kind j f g c p ≡ g
  by_group h k = rw (le-ltb j group_places h, lt-ltb j cell_places k)

  pub by_cell : cell_places ≤ j → j < passive_places → by_kind j f g c p ≡ c
  by_cell h k = rw (le-ltb j group_places (omega arith), le-ltb j cell_places h, lt-ltb j passive_places k)

  pub by_passive : passive_places ≤ j → by_kind j f g c p ≡ p
  by_passive h = rw (le-ltb j group_places (omega arith), le-ltb j cell_places (omega arith), le-ltb j passive_places h)

-- the cells of a tile's settings, one by one
pub cell_at : (settings : List ℕ) (i : ℕ) → i < 8 → get_or (cell_settings settings) i empty_cell ≡ cell_setting settings i
unfolding cell_settings
cell_at settings i h = tabulate_zero (cell_setting settings) empty_cell 8 i h

-- cells are the same exactly if their numbers are
module _ (a b : Cell) (s : a.table < 2 ^ 16) (t : b.table < 2 ^ 16) where
  pub same_cell_number : same_cell a b ≡ eqb (cell_number a) (cell_number b)
  same_cell_number = ⊎_elim same apart (eq_or_ne (cell_number a) (cell_number b))
    where
      same : cell_number a ≡ cell_number b → same_cell a b ≡ eqb (cell_number a) (cell_number b)
      same e =
          let x : a.table ≡ b.table = omega arith in
          let y : flags_of a ≡ flags_of b = omega arith in
          and_equal a.table b.table x (eq-eqb (flags_of a) (flags_of b) y) ∙ sym (eq-eqb (cell_number a) (cell_number b) e)

      apart : cell_number a ≢ cell_number b → same_cell a b ≡ eqb (cell_number a) (cell_number b)
      apart n =
          ⊎_elim
          (λ (e : same_cell a b ≡ true).
          let x : a.table ≡ b.table = eqb-true a.table b.table (and_left (eqb a.table b.table) (eqb (flags_of a) (flags_of b)) e) in
          let y : flags_of a ≡ flags_of b = eqb-true (flags_of a) (flags_of b) (and_right (eqb a.table b.table) (eqb (flags_of a) (flags_of b)) e) in
          absurd (n (let z : cell_number a ≡ cell_number b = omega arith in z)))
          (λ (e : same_cell a b ≡ false). e ∙ sym (ne_eqb (cell_number a) (cell_number b) n))
          (cases (same_cell a b))

-- ---- what stands at place j

module _ (settings : List ℕ) (j : ℕ) where
  pub value_field : j < group_places → value_at settings j ≡ field_setting settings j
  unfolding value_at
  value_field h = by_field j _ _ _ _ h

  pub value_group : group_places ≤ j → j < cell_places → value_at settings j ≡ group_setting logic_tile settings (j - group_places)
  unfolding value_at
  value_group h k = by_group j _ _ _ _ h k

  pub value_cell : cell_places ≤ j → j < passive_places → value_at settings j ≡ cell_number (cell_setting settings (j - cell_places))
  unfolding value_at
  value_cell h k = by_cell j _ _ _ _ h k

  pub value_passive : passive_places ≤ j → value_at settings j ≡ passive_setting logic_tile settings (j - passive_places)
  unfolding value_at
  value_passive h = by_passive j _ _ _ _ h

-- ---- its kind and its index

module _ (j : ℕ) where
  pub kind_field : j < group_places → (kind_at j ≡ 1) × (index_at j ≡ j)
  unfolding kind_at index_at
  kind_field h = (by_field j _ _ _ _ h, by_field j _ _ _ _ h)

  pub kind_group : group_places ≤ j → j < cell_places → (kind_at j ≡ 2) × (index_at j ≡ j - group_places)
  unfolding kind_at index_at
  kind_group h k = (by_group j _ _ _ _ h k, by_group j _ _ _ _ h k)

  pub kind_cell : cell_places ≤ j → j < passive_places → (kind_at j ≡ 3) × (index_at j ≡ j - cell_places)
  unfolding kind_at index_at
  kind_cell h k = (by_cell j _ _ _ _ h k, by_cell j _ _ _ _ h k)

  pub kind_passive : passive_places ≤ j → (kind_at j ≡ 4) × (index_at j ≡ j - passive_places)
  unfolding kind_at index_at
  kind_passive h = (by_passive j _ _ _ _ h, by_passive j _ _ _ _ h)

-- ---- the test and the row, from what stands there

module _ (old new : List ℕ) (j x y : ℕ) (d : value_at old j ≡ x) (e : value_at new j ≡ y) where
  pub differ_is : differ_at old new j ≡ not (eqb x y)
  unfolding differ_at
  differ_is = ap not (ap₂ eqb d e)

  pub row_is : (t kind i : ℕ) → kind_at j ≡ kind → index_at j ≡ i → row_at t old new j ≡ t ∷ kind ∷ i ∷ x ∷ y ∷ []
  unfolding row_at
  row_is t kind i f g = rw (d, e, f, g)

pub row_length_lem : (t : ℕ) (old new : List ℕ) (j : ℕ) → length (row_at t old new j) ≡ row_length
unfolding row_at
row_length_lem t old new j = refl
