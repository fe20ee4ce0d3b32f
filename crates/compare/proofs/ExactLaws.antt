-- What an answer of `compare` says fits one answer, and one content of the lent list, only. Main law: `compare_exact_lem`. Assumes nothing.
use Rattle.std.specs.Prelude.{Result, Ok, Err}
use Prim.Native.Nat.{ℕ, ◌*◌, ◌<◌, ◌≤◌}
use mathlib.Core.Path.{◌≡◌, sym, subst, ◌∙◌}
use mathlib.Core.Bool.{true}
use mathlib.Core.List.{List}
use native.Mathlib.Omega.{arith}
use lib.ListN.{length}
use Rattle.lists.specs.Listing.{Lists}
use Rattle.lists.proofs.CaseLaws.{test_false}
use Rattle.lists.proofs.ListingLaws.{listed_as, count_unique, listed_unique}
use Rattle.refusal.specs.declared.Refusal.{Refusal}
use Rattle.ports.specs.declared.size.Size.{Size}
use Rattle.ports.specs.Block.{tile_count, allowed}
use Rattle.ports.proofs.BlockLaws.{allowed_exact, allowed_true}
use Rattle.routing.specs.LogicTile.{logic_tile}
use Rattle.routing.specs.Rules.{TableRules}
use Rattle.routing.specs.TableCheck.{table_ok}
use Rattle.routing.proofs.TableCheckLaws.{table_exact, faulty_part_exact}
use Rattle.codec.specs.Reading.{Decodable}
use Rattle.config.specs.Blocks.{settings_at, fault_place, decoded, tiles_of}
use Rattle.config.specs.Facts.{TilesRead}
use Rattle.config.proofs.BlocksLaws.{decoded_reads, tiles_read_one}
use Rattle.config.proofs.FaultPlaceLaws.{fault_place_exact, decodable_no_fault}
use Rattle.compare.specs.Difference.{Difference, DiffersIn}
use Rattle.compare.specs.Places.{row_length}
use Rattle.compare.specs.Rows.{difference_count}
use Rattle.compare.specs.Lengths.{same_size, compare_exact}
use Rattle.compare.specs.declared.lengths.CompareLent.{CompareLent}
use Rattle.compare.specs.Entry.{rows_answer, bits_answer, compare_answer}
use Rattle.compare.specs.Meaning.{Alike, BothRead, ListsDifferences, CompareNo, wrong_first_size, wrong_second_size, sizes_differ, wrong_length, broken, first_undecodable, second_undecodable, too_short, Compares, CompareSays}
use Rattle.compare.proofs.LengthLaws.{same_size_exact, compare_long_exact}
use Rattle.compare.proofs.DifferenceLaws.{differences_listed}
use Rattle.compare.proofs.EntryLaws.{rows_short, rows_told, bits_table, bits_first, bits_second, bits_rows, compare_first_size, compare_second_size, compare_differ, compare_length, compare_bits}

-- settings that agree in each of n tiles differ from others in the same rows
differs_as : (table : List ℕ) {old new old' new' : List ℕ} (n : ℕ) → ((t : ℕ) → t < n → settings_at old t ≡ settings_at old' t)
    → ((t : ℕ) → t < n → settings_at new t ≡ settings_at new' t) → (row : List ℕ) → DiffersIn table old new n row → DiffersIn table old' new' n row
differs_as table {old} {new} {old'} {new'} n e f row d = record {
  tile = d.tile;
  within = d.within;
  difference = subst (λ (s : List ℕ). Difference logic_tile table d.tile s (settings_at new' d.tile) row) (e d.tile d.within)
      (subst (λ (s : List ℕ). Difference logic_tile table d.tile (settings_at old d.tile) s row) (f d.tile d.within) d.difference);
}

module _ (A B : Size) (table first second : List ℕ) (lent : CompareLent) where
  abbrev n : ℕ
  n = tile_count A

  -- what the blocks read to
  abbrev old : List ℕ
  old = decoded table (tiles_of first) n

  abbrev new : List ℕ
  new = decoded table (tiles_of second) n

  -- the answer, `list` being the length lent
  abbrev told : ℕ → Result ℕ Refusal
  told list = compare_answer A B table (tiles_of first) (tiles_of second) (compare_exact A lent) list

  -- ---- grounds 1, 14 and 2 are not given

  alike_told : Alike A B table first second lent → (list : ℕ) → bits_answer A table (tiles_of first) (tiles_of second) list ≡ told list
  alike_told alike list =
      compare_bits A B table first second (compare_exact A lent) list (allowed_true A alike.first_size) (allowed_true B alike.second_size)
      ((same_size_exact A B).1 alike.same_size) ((compare_long_exact A lent).1 alike.lengths)

  rules_pass : TableRules logic_tile table → table_ok logic_tile table ≡ true
  rules_pass rules = (table_exact logic_tile table rules.long).1 rules

  clean : TableRules logic_tile table → (bits : List ℕ) → ((t : ℕ) → t < n → Decodable table (tiles_of bits t))
      → logic_tile.positions * n ≤ fault_place table (tiles_of bits) n
  clean rules bits d = let e = decodable_no_fault table bits rules n d in omega (arith, e)

  -- ---- both blocks are read

  module _ {u v : List ℕ} (read : BothRead A B table first second lent u v) where
    first_decoded : TilesRead table (tiles_of first) old n
    first_decoded = decoded_reads table first n read.rules read.first_read.decodable

    second_decoded : TilesRead table (tiles_of second) new n
    second_decoded = decoded_reads table second n read.rules read.second_read.decodable

    -- a listing of the differences of what was read lists those of what is decoded
    listed_decoded : {list : List ℕ} {rows : ℕ} → ListsDifferences A B table first second lent u v list rows
        → Lists (DiffersIn table old new n) row_length list rows
    listed_decoded =
        listed_as
        (differs_as table n (tiles_read_one table first n read.rules u old read.first_read first_decoded)
        (tiles_read_one table second n read.rules v new read.second_read second_decoded))
        (differs_as table n (tiles_read_one table first n read.rules old u first_decoded read.first_read)
        (tiles_read_one table second n read.rules new v second_decoded read.second_read))

    count_is : {list : List ℕ} {rows : ℕ} → ListsDifferences A B table first second lent u v list rows → rows ≡ difference_count old new n
    count_is L =
        count_unique (listed_decoded L)
        (differences_listed table (tiles_of first) (tiles_of second) old new n read.rules first_decoded second_decoded
        (row_length * difference_count old new n) (omega arith))

    read_told : (list : ℕ) → rows_answer old new n list ≡ told list
    read_told list =
        bits_rows A table first second list (rules_pass read.rules) (clean read.rules first read.first_read.decodable)
        (clean read.rules second read.second_read.decodable)
        ∙ alike_told read.alike list

  -- ---- an answer that says so is the one that is computed

  no_told : (list : ℕ) {refusal : Refusal} → CompareNo A B table first second lent list refusal → Err refusal ≡ told list
  no_told list (wrong_first_size none) =
      compare_first_size A B table first second (compare_exact A lent) list (test_false (allowed A) (allowed_exact A).0 none)
  no_told list (wrong_second_size a none) =
      compare_second_size A B table first second (compare_exact A lent) list (allowed_true A a) (test_false (allowed B) (allowed_exact B).0 none)
  no_told list (sizes_differ a b none) =
      compare_differ A B table first second (compare_exact A lent) list (allowed_true A a) (allowed_true B b)
      (test_false (same_size A B) (same_size_exact A B).0 none)
  no_told list (wrong_length a b same none) =
      compare_length A B table first second (compare_exact A lent) list (allowed_true A a) (allowed_true B b) ((same_size_exact A B).1 same)
      (test_false (compare_exact A lent) (compare_long_exact A lent).0 none)
  no_told list (broken part alike broke) =
      let few = broke.counted in
      bits_table A table first second list part (sym ((faulty_part_exact logic_tile table part).1 broke).0) (λ e. absurd (omega arith)) ∙ alike_told alike list
  no_told list (first_undecodable place alike rules low) =
      let e = (fault_place_exact table first rules n place).0 low in
      bits_first A table first second list (rules_pass rules) place e.0 e.1 ∙ alike_told alike list
  no_told list (second_undecodable place alike rules decodable low) =
      let e = (fault_place_exact table second rules n place).0 low in
      bits_second A table first second list (rules_pass rules) (clean rules first decodable) place e.0 e.1 ∙ alike_told alike list
  no_told list (too_short rows u v full read L short) = rows_short old new n list rows (count_is read L) short ∙ read_told read list

  yes_told : {after : List ℕ} {rows : ℕ} (list : ℕ) → length after ≡ list → Compares A B table first second lent after rows → Ok rows ≡ told list
  yes_told list long y =
      rows_told old new n list _ (count_is y.both_read y.listed) (let l = y.listed.room in omega arith) ∙ read_told y.both_read list

  says_told : (before after : List ℕ) (r : Result ℕ Refusal) → CompareSays A B table first second lent before after r → r ≡ told (length before)
  says_told before after (Ok rows) says = yes_told (length before) says.0 says.1
  says_told before after (Err refusal) says = no_told (length before) says.1

  -- one answer, and one list, only
  pub compare_exact_lem : (before a b : List ℕ) (r q : Result ℕ Refusal) → CompareSays A B table first second lent before a r
      → CompareSays A B table first second lent before b q → (r ≡ q) × (a ≡ b)
  compare_exact_lem before a b r q x y =
      let e : r ≡ q = says_told before a r x ∙ sym (says_told before b q y) in
      (e, same r x (subst (CompareSays A B table first second lent before b) (sym e) y))
    where
      same : (r : Result ℕ Refusal) → CompareSays A B table first second lent before a r → CompareSays A B table first second lent before b r → a ≡ b
      same (Ok rows) x y =
          listed_unique (listed_decoded x.1.both_read x.1.listed) (listed_decoded y.1.both_read y.1.listed) (omega arith) (x.0 ∙ sym y.0)
      same (Err refusal) x y = x.0 ∙ sym y.0
