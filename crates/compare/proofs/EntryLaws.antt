-- The answers of comparing, ground by ground, each where the grounds before it have passed, and the work room after any answer. Main laws:
-- `rows_told`, `bits_rows`, `compare_bits`; `compare_cleared`. Assumes nothing.
use Rattle.refusal.specs.Grounds.{answer_number}
use Rattle.refusal.specs.declared.Refusal.{Refusal}
use Rattle.std.specs.Prelude.{Result, Ok, Err}
use Prim.Native.Nat.{ℕ, ◌*◌, ◌<◌, ◌≤◌}
use mathlib.Core.Path.{◌≡◌, refl, sym, ap, ◌∙◌}
use mathlib.Core.Logic.{◌≢◌}
use mathlib.Core.Bool.{Bool, true, false}
use mathlib.Core.List.{List}
use borrow.Author.Tests.{ne_eqb, le-leb, lt-leb}
use lib.Dec.{leb}
use lib.ListN.{length}
use Rattle.lists.specs.Tables.{zeros}
use Rattle.refusal.specs.Memory.{work_room}
use Rattle.refusal.specs.declared.Refusal.TheVariants.{WrongSize, WrongLength, Table, Undecodable, SizesDiffer, ListTooShort}
use Rattle.refusal.proofs.GroundsLaws.{unless_cases}
use Rattle.ports.specs.declared.size.Size.{Size}
use Rattle.ports.specs.Block.{tile_count, allowed}
use Rattle.routing.specs.LogicTile.{logic_tile}
use Rattle.routing.specs.TableCheck.{faulty_part, part_count, table_ok}
use Rattle.config.specs.Blocks.{fault_place, decoded, tiles_of}
use Rattle.compare.specs.Places.{row_length}
use Rattle.compare.specs.Rows.{difference_count}
use Rattle.compare.specs.Lengths.{same_size}
use Rattle.compare.specs.Entry.{rows_answer, bits_answer, compare_answer}

-- ---- ground 15 and the yes

module _ (old new : List ℕ) (n list rows : ℕ) (e : rows ≡ difference_count old new n) where
  pub rows_short : list < row_length * rows → Err (ListTooShort rows) ≡ rows_answer old new n list
  unfolding rows_answer
  rows_short l = rw (← e, lt-leb (row_length * rows) list l)

  pub rows_told : row_length * rows ≤ list → Ok rows ≡ rows_answer old new n list
  unfolding rows_answer
  rows_told l = rw (← e, le-leb (row_length * rows) list l)

-- ---- grounds 3 and 4

module _ (S : Size) (table first second : List ℕ) (list : ℕ) where
  pub bits_table : (p : ℕ) → p ≡ faulty_part logic_tile table → p ≢ part_count logic_tile table
      → Err (Table p) ≡ bits_answer S table (tiles_of first) (tiles_of second) list
  unfolding bits_answer
  bits_table p e n = rw (← e, ne_eqb p (part_count logic_tile table) n)

  module _ (pass : table_ok logic_tile table ≡ true) where
    pub bits_first : (k : ℕ) → k ≡ fault_place table (tiles_of first) (tile_count S) → k < logic_tile.positions * tile_count S
        → Err (Undecodable k) ≡ bits_answer S table (tiles_of first) (tiles_of second) list
    unfolding bits_answer
    bits_first k e l = rw (pass, ← e, lt-leb (logic_tile.positions * tile_count S) k l)

    module _ (clean : logic_tile.positions * tile_count S ≤ fault_place table (tiles_of first) (tile_count S)) where
      pub bits_second : (k : ℕ) → k ≡ fault_place table (tiles_of second) (tile_count S) → k < logic_tile.positions * tile_count S
          → Err (Undecodable k) ≡ bits_answer S table (tiles_of first) (tiles_of second) list
      unfolding bits_answer
      bits_second k e l = rw (
        pass,
        le-leb (logic_tile.positions * tile_count S) (fault_place table (tiles_of first) (tile_count S)) clean,
        ← e,
        lt-leb (logic_tile.positions * tile_count S) k l,
      )

      pub bits_rows : logic_tile.positions * tile_count S ≤ fault_place table (tiles_of second) (tile_count S)
          → rows_answer (decoded table (tiles_of first) (tile_count S)) (decoded table (tiles_of second) (tile_count S)) (tile_count S) list
          ≡ bits_answer S table (tiles_of first) (tiles_of second) list
      unfolding bits_answer
      bits_rows l = rw (
        pass,
        le-leb (logic_tile.positions * tile_count S) (fault_place table (tiles_of first) (tile_count S)) clean,
        le-leb (logic_tile.positions * tile_count S) (fault_place table (tiles_of second) (tile_count S)) l,
      )

-- ---- grounds 1, 14 and 2

module _ (A B : Size) (table first second : List ℕ) (lengths : Bool) (list : ℕ) where
  abbrev told : Result ℕ Refusal
  told = compare_answer A B table (tiles_of first) (tiles_of second) lengths list

  pub compare_first_size : allowed A ≡ false → Err WrongSize ≡ told
  unfolding compare_answer
  compare_first_size e = rw e

  module _ (a : allowed A ≡ true) where
    pub compare_second_size : allowed B ≡ false → Err WrongSize ≡ told
    unfolding compare_answer
    compare_second_size e = rw (a, e)

    module _ (b : allowed B ≡ true) where
      pub compare_differ : same_size A B ≡ false → Err SizesDiffer ≡ told
      unfolding compare_answer
      compare_differ e = rw (a, b, e)

      module _ (same : same_size A B ≡ true) where
        pub compare_length : lengths ≡ false → Err WrongLength ≡ told
        unfolding compare_answer
        compare_length e = rw (a, b, same, e)

        pub compare_bits : lengths ≡ true → bits_answer A table (tiles_of first) (tiles_of second) list ≡ told
        unfolding compare_answer
        compare_bits e = rw (a, b, same, e)

-- ---- the work room

-- "the work room is zeroed, on a yes too, but untouched under 1 and 2"
abbrev Zeroed : Result ℕ Refusal → Type 0
Zeroed r = (old : List ℕ) → zeros (length old) ≡ work_room (answer_number r) old

-- grounds 3, 4, 15 and a yes leave it zeroed
compare_room : (S : Size) (table first second : List ℕ) (list : ℕ) → Zeroed (bits_answer S table (tiles_of first) (tiles_of second) list)
unfolding bits_answer rows_answer
compare_room S table first second list =
    unless_cases Zeroed (table_ok logic_tile table) _ _ (λ e room. refl)
    (λ e. unless_cases Zeroed (leb (logic_tile.positions * tile_count S) (fault_place table (tiles_of first) (tile_count S))) _ _ (λ e room. refl)
    (λ e. unless_cases Zeroed (leb (logic_tile.positions * tile_count S) (fault_place table (tiles_of second) (tile_count S))) _ _ (λ e room. refl)
    (λ e. unless_cases Zeroed (leb (row_length * difference_count old new (tile_count S)) list) _ _ (λ e room. refl) (λ e room. refl))))
  where
    old : List ℕ
    old = decoded table (tiles_of first) (tile_count S)

    new : List ℕ
    new = decoded table (tiles_of second) (tile_count S)

-- a slice of it, whose old contents were cleared after the answer
pub compare_cleared : (S : Size) (table first second : List ℕ) (list : ℕ) (r : Result ℕ Refusal) → r ≡ bits_answer S table (tiles_of first) (tiles_of second) list
    → (old last cleared : List ℕ) → length last ≡ length old → cleared ≡ zeros (length last) → cleared ≡ work_room (answer_number r) old
compare_cleared S table first second list r e old last cleared long is =
    is ∙ ap zeros long ∙ compare_room S table first second list old ∙ ap (λ (a : Result ℕ Refusal). work_room (answer_number a) old) (sym e)
