-- The eight cells by value. Main laws: `value_lt`; `no_cells_written`: no cell, nothing to write; `put_cells_table`, `-flags`, `-kept`: settings
-- that cells were put into; `table_digit`, `flags_digit`: their digits are the tile's bits; `same_cell_table`, `-flags`: how two compare. Assumes nothing.
use mathlib.Core.Path.{◌≡◌, refl, sym, ap, ap₂, ◌∙◌}
use mathlib.Core.Logic.{⊎_elim, ◌≢◌}
use mathlib.Core.Bool.{true, false, ◌&&◌}
use mathlib.Core.List.{List}
use Prim.Native.Nat.{ℕ, zero, suc, ◌+◌, ◌*◌, ◌/◌, ◌%◌, ◌^◌, ◌<◌, ◌≤◌}
use native.Mathlib.Omega.{arith}
use native.Mathlib.Numerals.{add-one}
use borrow.Author.Tests.{eqb-true, eq-eqb, ne_eqb}
use lib.Dec.{eqb}
use Rattle.std.specs.List.{fold}
use lib.ListN.{length, get_or, set, take, drop, length-set, length-drop}
use lib.Seq.{get_or-set_same, get_or-set_other, get_or-take, get_or-drop, length-take-le}
use Rattle.lists.specs.Tables.{zeros}
use Rattle.lists.proofs.CaseLaws.{lt_or_le}
use Rattle.lists.specs.Search.{all_from}
use Rattle.lists.proofs.SearchLaws.{all_at, all_ext}
use Rattle.lists.proofs.StdLaws.{fold_and-is, list_all-is}
use Rattle.lists.proofs.TableLaws.{tabulate_zero}
use lib.Pow.{shr-shr}
use Rattle.digits.specs.Digits.{digit}
use Rattle.digits.proofs.DigitLaws.{from_digits_lt, digit_from_digits, digit_mod}
use Rattle.cell.specs.declared.logic.Cell.{Cell}
use Rattle.cell.specs.Settings.{cell_of, flags_of}
use Rattle.cell.proofs.SettingsLaws.{flags_of_cell}
use Rattle.routing.specs.TileKind.{bits_per_cell}
use Rattle.routing.specs.LogicTile.{logic_tile, lc_bits, lc_position, cell_position}
use Rattle.routing.proofs.LogicTileLaws.{cell_position_once}
use Rattle.codec.specs.Bits.{bit_at, set_bits}
use Rattle.ports.specs.Lengths.{tile_numbers, settings_length}
use Rattle.codec.specs.Settings.{cells_from}
use Rattle.codec.specs.Cells.{cell_value, cell_number, cell_bit_in, value_in, cell_in, cells_in, cell_setting, cell_settings, empty_cell}
use Rattle.codec.specs.Cells.{cell_zero, no_cells, write_cells, put_cells, same_cell}
use Rattle.codec.proofs.BitLaws.{bit_lt, bit_of_zeros}
use Rattle.codec.proofs.SetBitsLaws.{set_bits_other, set_bits_clear}

pub value_lt : (bits : List ℕ) (i : ℕ) → value_in (bit_at bits) i < 2 ^ bits_per_cell
value_lt bits i = from_digits_lt (cell_bit_in (bit_at bits) i) (λ j. bit_lt bits _) bits_per_cell

-- the digits of a cell's table and flags are its bits
module _ (bits : List ℕ) (i j : ℕ) where
  value_digit : j < bits_per_cell → digit (value_in (bit_at bits) i) j ≡ bit_at bits (lc_position i (get_or lc_bits j 0))
  unfolding cell_position
  value_digit h = digit_from_digits (cell_bit_in (bit_at bits) i) (λ k. bit_lt bits _) bits_per_cell j h

  pub table_digit : j < 16 → digit (value_in (bit_at bits) i % 2 ^ 16) j ≡ bit_at bits (lc_position i (get_or lc_bits j 0))
  table_digit h = digit_mod (value_in (bit_at bits) i) 16 j h ∙ value_digit (omega arith)

module _ (bits : List ℕ) (i j : ℕ) where
  pub flags_digit : j < 4 → digit (value_in (bit_at bits) i / 2 ^ 16) j ≡ bit_at bits (lc_position i (get_or lc_bits (16 + j) 0))
  flags_digit h = ap (λ (x : ℕ). x % 2) (shr-shr (value_in (bit_at bits) i) 16 j) ∙ value_digit bits i (16 + j) (omega arith)

-- the cells that bits hold
module _ (bits : List ℕ) (i : ℕ) (h : i < 8) where
  pub cells_in_table : (get_or (cells_in (bit_at bits)) i empty_cell).table ≡ value_in (bit_at bits) i % 2 ^ 16
  unfolding cells_in
  cells_in_table = ap (λ (c : Cell). c.table) (tabulate_zero (cell_in (bit_at bits)) empty_cell 8 i h)

  pub cells_in_flags : flags_of (get_or (cells_in (bit_at bits)) i empty_cell) ≡ value_in (bit_at bits) i / 2 ^ 16
  unfolding cells_in
  cells_in_flags =
      ap flags_of (tabulate_zero (cell_in (bit_at bits)) empty_cell 8 i h)
      ∙ flags_of_cell (value_in (bit_at bits) i % 2 ^ 16) (value_in (bit_at bits) i / 2 ^ 16) (omega (arith, value_lt bits i))

-- ---- cells put in, one after another

-- a turn of the loops; `flags` is what the code computed
module _ (cells : List Cell) (i flags : ℕ) (f : flags ≡ flags_of (get_or cells i empty_cell)) where
  pub write_cells_turn : (bits now : List ℕ) → now ≡ write_cells bits cells i
      → set_bits now (cell_position i) ((get_or cells i empty_cell).table + 65536 * flags) bits_per_cell ≡ write_cells bits cells (i + 1)
  unfolding write_cells
  write_cells_turn bits now e = rw (e, f, add-one i)

  pub put_cells_turn : (settings now : List ℕ) → now ≡ put_cells settings cells i
      → set (set now (cells_from logic_tile + 2 * i) (get_or cells i empty_cell).table) (cells_from logic_tile + 2 * i + 1) flags ≡ put_cells settings cells (i + 1)
  unfolding put_cells
  put_cells_turn settings now e = rw (e, f, add-one i)

-- the numbers of the cells all looked at
pub all_cells_zero : (settings : List ℕ) → length settings ≡ settings_length
    → fold (λ a x. a && eqb x 0) true (take 16 (drop (cells_from logic_tile) settings)) ≡ no_cells settings
all_cells_zero settings e =
    let cells = take 16 (drop (cells_from logic_tile) settings) in
    let long : length cells ≡ 16 = length-take-le 16 (drop (cells_from logic_tile) settings) (omega (arith, length-drop (cells_from logic_tile) settings)) in
    fold_and-is (λ x. eqb x 0) true cells ∙ list_all-is (λ x. eqb x 0) 0 cells
    ∙ ap (all_from (λ k. eqb (get_or cells k 0) 0) 0) long
    ∙ all_ext (λ k. eqb (get_or cells k 0) 0) (cell_zero settings) 0 16
    (λ k a l. ap (λ x. eqb x 0) (get_or-take 16 (drop (cells_from logic_tile) settings) k 0 (omega arith) ∙ get_or-drop (cells_from logic_tile) settings k 0))

-- a cell's bits are clear until it is written
write_cells_later : (bits : List ℕ) (cells : List Cell) (n i j : ℕ) → n ≤ i → i < 8 → j < bits_per_cell
    → cell_bit_in (bit_at (write_cells bits cells n)) i j ≡ cell_bit_in (bit_at bits) i j
unfolding write_cells
write_cells_later bits cells zero i j h l b = refl
write_cells_later bits cells (suc n) i j h l b =
    set_bits_other (write_cells bits cells n) (cell_position n) (cell_number (get_or cells n empty_cell)) bits_per_cell (cell_position i j)
    (λ k a e. omega (arith, (cell_position_once i j n k b a e).0))
    ∙ write_cells_later bits cells n i j (omega arith) l b

pub write_cells_clear : (bits : List ℕ) (cells : List Cell) (now : List ℕ) (i : ℕ) → bits ≡ zeros tile_numbers → now ≡ write_cells bits cells i → i < 8
    → (j : ℕ) → j < bits_per_cell → cell_bit_in (bit_at now) i j ≡ 0
write_cells_clear bits cells now i z e h j l =
    ap (λ (x : List ℕ). cell_bit_in (bit_at x) i j) e ∙ write_cells_later bits cells i i j (omega arith) h l
    ∙ ap (λ (x : List ℕ). cell_bit_in (bit_at x) i j) z ∙ bit_of_zeros tile_numbers (cell_position i j)

-- settings without cells: nothing is written
module _ (settings bits : List ℕ) (none : no_cells settings ≡ true) (z : bits ≡ zeros tile_numbers) where
  zero_at : (k m : ℕ) → k < 16 → m ≡ cells_from logic_tile + k → get_or settings m 0 ≡ 0
  zero_at k m h e = rw e (eqb-true (get_or settings (cells_from logic_tile + k) 0) 0 (all_at (cell_zero settings) 0 16 k none (omega arith) (omega arith)))

  no_cell : (i : ℕ) → i < 8 → cell_number (get_or (cell_settings settings) i empty_cell) ≡ 0
  unfolding cell_settings
  no_cell i h =
      ap cell_number (tabulate_zero (cell_setting settings) empty_cell 8 i h
      ∙ ap₂ cell_of (zero_at (2 * i) _ (omega arith) (omega arith)) (zero_at (2 * i + 1) _ (omega arith) (omega arith)))
      ∙ ap (cell_value 0) (flags_of_cell 0 0 (omega arith))

  pub no_cells_written : (n : ℕ) → n ≤ 8 → write_cells bits (cell_settings settings) n ≡ bits
  unfolding write_cells
  no_cells_written zero h = refl
  no_cells_written (suc n) h =
      ap (λ (v : ℕ). set_bits (write_cells bits (cell_settings settings) n) (cell_position n) v bits_per_cell) (no_cell n (omega arith))
      ∙ set_bits_clear (write_cells bits (cell_settings settings) n) (cell_position n) bits_per_cell
      (write_cells_clear bits (cell_settings settings) (write_cells bits (cell_settings settings) n) n z refl (omega arith))
      ∙ no_cells_written n (omega arith)

module _ (settings : List ℕ) (cells : List Cell) where
  pub put_cells_length : (n : ℕ) → length (put_cells settings cells n) ≡ length settings
  unfolding put_cells
  put_cells_length zero = refl
  put_cells_length (suc n) = simp length-set (put_cells_length n)

  -- the settings below the cells
  pub put_cells_kept : (n k : ℕ) → k < cells_from logic_tile → get_or (put_cells settings cells n) k 0 ≡ get_or settings k 0
  unfolding put_cells
  put_cells_kept zero k h = refl
  put_cells_kept (suc n) k h =
      get_or-set_other (set (put_cells settings cells n) (cells_from logic_tile + 2 * n) (get_or cells n empty_cell).table) (cells_from logic_tile + 2 * n + 1) k
      (flags_of (get_or cells n empty_cell)) 0 (λ z. omega arith)
      ∙ get_or-set_other (put_cells settings cells n) (cells_from logic_tile + 2 * n) k (get_or cells n empty_cell).table 0 (λ z. omega arith)
      ∙ put_cells_kept n k h

  module _ (long : length settings ≡ settings_length) where
    -- one turn: the table and the flags of cell n
    put_at : (n i : ℕ) (x : List ℕ) (t f : ℕ) → length x ≡ settings_length → n < 8 → i ≡ n
        → (get_or (set (set x (cells_from logic_tile + 2 * n) t) (cells_from logic_tile + 2 * n + 1) f) (cells_from logic_tile + 2 * i) 0 ≡ t)
        × (get_or (set (set x (cells_from logic_tile + 2 * n) t) (cells_from logic_tile + 2 * n + 1) f) (cells_from logic_tile + 2 * i + 1) 0 ≡ f)
    put_at n i x t f e h q =
        rw q (
          get_or-set_other (set x (cells_from logic_tile + 2 * n) t) (cells_from logic_tile + 2 * n + 1) (cells_from logic_tile + 2 * n) f 0 (λ z. omega arith)
              ∙ get_or-set_same x (cells_from logic_tile + 2 * n) t 0 (omega arith),
          get_or-set_same (set x (cells_from logic_tile + 2 * n) t) (cells_from logic_tile + 2 * n + 1) f 0 (simp length-set (omega arith)),
        )

    put_away : (n m : ℕ) (x : List ℕ) (t f : ℕ) → m < cells_from logic_tile + 2 * n
        → get_or (set (set x (cells_from logic_tile + 2 * n) t) (cells_from logic_tile + 2 * n + 1) f) m 0 ≡ get_or x m 0
    put_away n m x t f h =
        get_or-set_other (set x (cells_from logic_tile + 2 * n) t) (cells_from logic_tile + 2 * n + 1) m f 0 (λ z. omega arith)
        ∙ get_or-set_other x (cells_from logic_tile + 2 * n) m t 0 (λ z. omega arith)

    pub put_cells_table : (n i : ℕ) → n ≤ 8 → i < n → get_or (put_cells settings cells n) (cells_from logic_tile + 2 * i) 0 ≡ (get_or cells i empty_cell).table
    unfolding put_cells
    put_cells_table zero i h l = absurd (omega arith)
    put_cells_table (suc n) i h l =
        ⊎_elim
        (λ (a : i < n). put_away n (cells_from logic_tile + 2 * i) (put_cells settings cells n) _ _ (omega arith) ∙ put_cells_table n i (omega arith) a)
        (λ (a : n ≤ i). let q : i ≡ n = omega arith in
        (put_at n i (put_cells settings cells n) _ _ (put_cells_length n ∙ long) (omega arith) q).0 ∙ ap (λ (k : ℕ). (get_or cells k empty_cell).table) (sym q))
        (lt_or_le i n)

    pub put_cells_flags : (n i : ℕ) → n ≤ 8 → i < n → get_or (put_cells settings cells n) (cells_from logic_tile + 2 * i + 1) 0 ≡ flags_of (get_or cells i empty_cell)
    unfolding put_cells
    put_cells_flags zero i h l = absurd (omega arith)
    put_cells_flags (suc n) i h l =
        ⊎_elim
        (λ (a : i < n). put_away n (cells_from logic_tile + 2 * i + 1) (put_cells settings cells n) _ _ (omega arith) ∙ put_cells_flags n i (omega arith) a)
        (λ (a : n ≤ i). let q : i ≡ n = omega arith in
        (put_at n i (put_cells settings cells n) _ _ (put_cells_length n ∙ long) (omega arith) q).1 ∙ ap (λ (k : ℕ). flags_of (get_or cells k empty_cell)) (sym q))
        (lt_or_le i n)

-- ---- two cells compared

module _ (a b : Cell) where
  pub same_cell_table : a.table ≢ b.table → same_cell a b ≡ false
  same_cell_table n = rw (ne_eqb a.table b.table n)

  pub same_cell_flags : a.table ≡ b.table → same_cell a b ≡ eqb (flags_of a) (flags_of b)
  same_cell_flags e = rw (eq-eqb a.table b.table e)
