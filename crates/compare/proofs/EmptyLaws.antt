-- Nothing is listed exactly if the bits are equal. Main law: `empty_exact`. Assumes nothing.
use Rattle.std.specs.Prelude.{Ok}
use Prim.Native.Nat.{ℕ, ◌+◌, ◌-◌, ◌*◌, ◌/◌, ◌%◌, ◌<◌, ◌≤◌}
use mathlib.Core.Path.{◌≡◌, refl, sym, ap, subst, ◌∙◌}
use mathlib.Core.Bool.{true, false, not}
use mathlib.Core.Logic.{⊎_elim, ◌↔◌}
use mathlib.Core.List.{List}
use native.Mathlib.Omega.{arith}
use borrow.Author.Tests.{eqb-true, eq-eqb, not-false}
use lib.ListN.{get_or}
use lib.Seq.{ext_get_or}
use Rattle.lists.proofs.CaseLaws.{cases, lt_or_le}
use Rattle.lists.proofs.CountLaws.{count_none}
use Rattle.lists.proofs.PartLaws.{joined_ext}
use Rattle.lists.proofs.RowLaws.{count_pass}
use Rattle.ports.specs.declared.size.Size.{Size}
use Rattle.ports.specs.Block.{tile_count}
use Rattle.ports.specs.Lengths.{settings_length}
use Rattle.cell.specs.Settings.{flags_of}
use Rattle.cell.proofs.SettingsLaws.{flags_of_cell}
use Rattle.routing.specs.LogicTile.{logic_tile}
use Rattle.codec.specs.Bits.{bit_at}
use Rattle.codec.specs.Settings.{groups_from, cells_from, cell_table, cell_flags}
use Rattle.codec.specs.Cells.{cell_number, cell_setting}
use Rattle.codec.specs.Reading.{ReadsTo}
use Rattle.codec.specs.Decode.{decode}
use Rattle.codec.proofs.ReadingLaws.{decode_reads}
use Rattle.config.specs.Blocks.{bits_at, settings_at, decoded_at, decoded, encoded, tiles_of}
use Rattle.config.specs.Entry.{read_answer}
use Rattle.config.proofs.BlocksLaws.{decoded_at_lem}
use Rattle.config.proofs.PassedLaws.{read_passed}
use Rattle.config.proofs.RoundTrip.{read_writes}
use Rattle.compare.specs.Places.{group_places, cell_places, passive_places, places_per_tile, value_at, differ_at}
use Rattle.compare.specs.Rows.{block_differs, difference_count}
use Rattle.compare.proofs.PlaceLaws.{value_field, value_group, value_cell, value_passive}
use Rattle.compare.proofs.BlockLaws.{tile_differs}

-- ---- one tile: settings that agree at every place are the same

module _ (table : List ℕ) (a b : ℕ → ℕ) (old new : List ℕ) (R : ReadsTo table a old) (S : ReadsTo table b new)
    (agree : (j : ℕ) → j < places_per_tile → value_at old j ≡ value_at new j) where
  -- number m of the settings
  abbrev Same : ℕ → Type 0
  Same m = get_or old m 0 ≡ get_or new m 0

  -- two numbers that are number m under another name
  renamed : (m k : ℕ) → k ≡ m → Same k → Same m
  renamed m k e q = subst Same e q

  cells_agree : (i : ℕ) → i < logic_tile.cells → (cell_table logic_tile old i ≡ cell_table logic_tile new i) × (cell_flags logic_tile old i ≡ cell_flags logic_tile new i)
  cells_agree i l =
      let e : cell_places + i - cell_places ≡ i = omega arith in
      let h : cell_places ≤ cell_places + i = omega arith in
      let k : cell_places + i < passive_places = omega arith in
      let v = value_cell old (cell_places + i) h k ∙ ap (λ (x : ℕ). cell_number (cell_setting old x)) e in
      let w = value_cell new (cell_places + i) h k ∙ ap (λ (x : ℕ). cell_number (cell_setting new x)) e in
      let n : cell_number (cell_setting old i) ≡ cell_number (cell_setting new i) = sym v ∙ agree (cell_places + i) (omega arith) ∙ w in
      let s = R.table_fits i l in let t = S.table_fits i l in
      let x : cell_table logic_tile old i ≡ cell_table logic_tile new i = omega arith in
      let y : flags_of (cell_setting old i) ≡ flags_of (cell_setting new i) = omega arith in
      let one = flags_of_cell (cell_table logic_tile old i) (cell_flags logic_tile old i) (R.flags_fit i l) in
      let other = flags_of_cell (cell_table logic_tile new i) (cell_flags logic_tile new i) (S.flags_fit i l) in
      (x, sym one ∙ y ∙ other)

  same_field : (m : ℕ) → m < group_places → Same m
  same_field m h = sym (value_field old m h) ∙ agree m (omega arith) ∙ value_field new m h

  same_passive : (m : ℕ) → logic_tile.fields ≤ m → m < groups_from logic_tile → Same m
  same_passive m h k =
      let j = passive_places + (m - logic_tile.fields) in
      let z : passive_places ≤ passive_places + (m - logic_tile.fields) = omega arith in
      renamed m (logic_tile.fields + (j - passive_places)) (omega arith) (sym (value_passive old j z) ∙ agree j (omega arith) ∙ value_passive new j z)

  same_group : (m : ℕ) → groups_from logic_tile ≤ m → m < cells_from logic_tile → Same m
  same_group m h k =
      let j = group_places + (m - groups_from logic_tile) in
      let z : group_places ≤ group_places + (m - groups_from logic_tile) = omega arith in
      let y : group_places + (m - groups_from logic_tile) < cell_places = omega arith in
      renamed m (groups_from logic_tile + (j - group_places)) (omega arith) (sym (value_group old j z y) ∙ agree j (omega arith) ∙ value_group new j z y)

  same_cell_lem : (m : ℕ) → cells_from logic_tile ≤ m → m < settings_length → Same m
  same_cell_lem m h k =
      let i = (m - cells_from logic_tile) / 2 in
      let q = cells_agree i (omega arith) in
      ⊎_elim (λ (p : (m - cells_from logic_tile) % 2 < 1). renamed m (cells_from logic_tile + 2 * i) (omega arith) q.0)
      (λ (p : 1 ≤ (m - cells_from logic_tile) % 2). renamed m (cells_from logic_tile + 2 * i + 1) (omega arith) q.1) (lt_or_le ((m - cells_from logic_tile) % 2) 1)

  same_at : (m : ℕ) → m < settings_length → Same m
  same_at m l =
      ⊎_elim (same_field m)
      (λ h. ⊎_elim (same_passive m h) (λ k. ⊎_elim (same_group m k) (λ c. same_cell_lem m c l) (lt_or_le m (cells_from logic_tile))) (lt_or_le m (groups_from logic_tile)))
      (lt_or_le m group_places)

  tile_same : old ≡ new
  tile_same = ext_get_or 0 old new (R.long ∙ sym S.long) (λ m l. same_at m (omega (arith, R.long)))

-- ---- the block

pub no_rows_agree : (old new : List ℕ) (n : ℕ) → difference_count old new n ≡ 0 → (t j : ℕ) → t < n → j < places_per_tile
    → value_at (settings_at old t) j ≡ value_at (settings_at new t) j
unfolding differ_at
no_rows_agree old new n e t j l h =
    ⊎_elim
    (λ (d : block_differs old new (places_per_tile * t + j) ≡ true).
    absurd (omega (arith, count_pass (block_differs old new) (places_per_tile * t + j) (places_per_tile * n) (omega arith) d)))
    (λ (d : block_differs old new (places_per_tile * t + j) ≡ false). eqb-true _ _ (not-false _ (sym (tile_differs old new t j h) ∙ d)))
    (cases (block_differs old new (places_per_tile * t + j)))

pub same_no_rows : (settings : List ℕ) (n : ℕ) → difference_count settings settings n ≡ 0
unfolding block_differs differ_at
same_no_rows settings n = count_none (block_differs settings settings) (places_per_tile * n) (λ x l.
    let v = value_at (settings_at settings (x / places_per_tile)) (x % places_per_tile) in ap not (eq-eqb v v refl))

module _ (S : Size) (table first second : List ℕ) (room : ℕ) (done : read_answer S table first room ≡ (Ok tt))
    (done' : read_answer S table second room ≡ (Ok tt)) where
  abbrev old : List ℕ
  old = decoded table (tiles_of first) (tile_count S)

  abbrev new : List ℕ
  new = decoded table (tiles_of second) (tile_count S)

  settings_same : difference_count old new (tile_count S) ≡ 0 → old ≡ new
  unfolding decoded_at
  settings_same e = joined_ext (decoded_at table (tiles_of first)) (decoded_at table (tiles_of second)) (tile_count S) (λ t l.
      let T = (read_passed S table first room done).rules in
      tile_same table (bit_at (bits_at first t)) (bit_at (bits_at second t)) (decode table (bit_at (bits_at first t))) (decode table (bit_at (bits_at second t)))
      (decode_reads table (bits_at first t) T) (decode_reads table (bits_at second t) T)
      (λ j h. ap (λ (s : List ℕ). value_at s j) (sym (decoded_at_lem table first (tile_count S) t l)) ∙ no_rows_agree old new (tile_count S) e t j l h
      ∙ ap (λ (s : List ℕ). value_at s j) (decoded_at_lem table second (tile_count S) t l)))

  -- "It is empty exactly if the bits are equal."
  pub empty_exact : (difference_count (decoded table (tiles_of first) (tile_count S)) (decoded table (tiles_of second) (tile_count S)) (tile_count S) ≡ 0)
      ↔ (first ≡ second)
  empty_exact = (
    (λ e. sym (read_writes S table first room done).1 ∙ ap (λ (s : List ℕ). encoded table s (tile_count S)) (settings_same e)
        ∙ (read_writes S table second room done').1),
    λ e. subst (λ (x : List ℕ). difference_count old (decoded table (tiles_of x) (tile_count S)) (tile_count S) ≡ 0) e (same_no_rows old (tile_count S)),
  )
