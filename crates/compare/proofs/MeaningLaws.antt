-- Every answer of `compare` says what specs/Meaning.antt has it say. Main law: `compare_says`. Assumes nothing.
use Rattle.refusal.specs.Grounds.{answer_number}
use Rattle.std.specs.Prelude.{Result, Ok, Err}
use Prim.Native.Nat.{ℕ, ◌*◌, ◌≤◌}
use mathlib.Core.Path.{◌≡◌, refl, sym, subst}
use mathlib.Core.List.{List}
use native.Mathlib.Omega.{arith}
use borrow.Author.Tests.{leb-true, leb-false}
use lib.Dec.{leb}
use lib.ListN.{length}
use Rattle.lists.proofs.CaseLaws.{clash}
use Rattle.refusal.specs.Memory.{output}
use Rattle.refusal.specs.declared.Refusal.{Refusal}
use Rattle.refusal.specs.declared.Refusal.TheVariants.{ListTooShort}
use Rattle.refusal.proofs.GroundsLaws.{unless_cases}
use Rattle.refusal.proofs.MemoryLaws.{output_refused}
use Rattle.ports.specs.declared.size.Size.{Size}
use Rattle.ports.specs.Block.{tile_count, allowed}
use Rattle.ports.specs.Lengths.{settings_total}
use Rattle.ports.proofs.BlockLaws.{allowed_exact, allowed_true}
use Rattle.routing.specs.LogicTile.{logic_tile}
use Rattle.routing.specs.Rules.{TableRules}
use Rattle.routing.specs.TableCheck.{table_ok}
use Rattle.routing.proofs.TableCheckLaws.{table_exact, table_broken}
use Rattle.config.specs.Blocks.{fault_place, decoded, tiles_of}
use Rattle.config.specs.Entry.{read_answer}
use Rattle.config.specs.Facts.{TilesRead}
use Rattle.config.proofs.EntryLaws.{read_done}
use Rattle.config.proofs.BlocksLaws.{decoded_reads}
use Rattle.config.proofs.FaultPlaceLaws.{fault_place_lowest, no_fault_decodable}
use Rattle.compare.specs.Places.{row_length}
use Rattle.compare.specs.Rows.{difference_count}
use Rattle.compare.specs.Lengths.{same_size, compare_lent, compare_exact}
use Rattle.compare.specs.declared.lengths.CompareLent.{CompareLent}
use Rattle.compare.specs.Entry.{rows_answer, rows_list, bits_answer, compare_answer, compared_list}
use Rattle.compare.specs.Meaning.{Alike, BothRead, ListsDifferences, CompareNo, wrong_first_size, wrong_second_size, sizes_differ, wrong_length, broken, first_undecodable, second_undecodable, too_short, CompareSays}
use Rattle.compare.proofs.LengthLaws.{same_size_exact, compare_long_exact}
use Rattle.compare.proofs.DifferenceLaws.{differences_listed, differences_length}
use Rattle.compare.proofs.EmptyLaws.{empty_exact}

module _ (A B : Size) (table first second before after : List ℕ) (list : List ℕ) where
  abbrev lent : CompareLent
  lent = compare_lent table first second before after

  -- the list that a yes leaves
  abbrev filled : List ℕ
  filled = compared_list A table (tiles_of first) (tiles_of second) (length list)

  -- what an answer says, with the list that it leaves
  abbrev Says : Result ℕ Refusal → Type 0
  Says r = CompareSays A B table first second lent list (output (answer_number r) list filled) r

  refused : (r : Refusal) → CompareNo A B table first second lent (length list) r → Says (Err r)
  refused r told = (output_refused list filled r, told)

  -- ---- both blocks are read

  module _ (alike : Alike A B table first second lent) (rules : TableRules logic_tile table) where
    abbrev Clean : List ℕ → Type 0
    Clean bits = logic_tile.positions * tile_count A ≤ fault_place table (tiles_of bits) (tile_count A)

    reads : (bits : List ℕ) → Clean bits → TilesRead table (tiles_of bits) (decoded table (tiles_of bits) (tile_count A)) (tile_count A)
    reads bits clean = decoded_reads table bits (tile_count A) rules (no_fault_decodable table bits rules (tile_count A) clean)

    module _ (clean : Clean first) (clean' : Clean second) where
      abbrev old : List ℕ
      old = decoded table (tiles_of first) (tile_count A)

      abbrev new : List ℕ
      new = decoded table (tiles_of second) (tile_count A)

      read : BothRead A B table first second lent old new
      read = record { alike = alike; rules = rules; first_read = reads first clean; second_read = reads second clean' }

      listed : (m : ℕ) → row_length * difference_count old new (tile_count A) ≤ m
          → ListsDifferences A B table first second lent old new (rows_list old new (tile_count A) m) (difference_count old new (tile_count A))
      listed m fits =
          differences_listed table (tiles_of first) (tiles_of second) old new (tile_count A) rules (reads first clean) (reads second clean') m fits

      first_done : read_answer A table first (settings_total A) ≡ (Ok tt)
      first_done = sym (read_done A table first (settings_total A) (record {
        size = alike.first_size;
        lengths = record { table_long = alike.lengths.table_long; bits_long = alike.lengths.first_long; settings_long = refl };
        rules = rules;
      })
          (fault_place table (tiles_of first) (tile_count A)) refl clean)

      second_done : read_answer A table second (settings_total A) ≡ (Ok tt)
      second_done = sym (read_done A table second (settings_total A) (record {
        size = alike.first_size;
        lengths = record { table_long = alike.lengths.table_long; bits_long = alike.lengths.second_long; settings_long = refl };
        rules = rules;
      })
          (fault_place table (tiles_of second) (tile_count A)) refl clean')

      rows_mean : Says (rows_answer old new (tile_count A) (length list))
      unfolding rows_answer
      rows_mean =
          unless_cases Says (leb (row_length * difference_count old new (tile_count A)) (length list)) _ _
          (λ e. refused (ListTooShort (difference_count old new (tile_count A)))
          (too_short _ old new _ read (listed (row_length * difference_count old new (tile_count A)) (omega arith)) (leb-false _ _ e)))
          (λ e. (
            differences_length old new (tile_count A) (length list) (leb-true _ _ e),
            record {
              old = old;
              new = new;
              both_read = read;
              listed = listed (length list) (leb-true _ _ e);
              empty = empty_exact A table first second (settings_total A) first_done second_done;
            },
          ))

  -- ---- grounds 3 and 4

  bits_mean : Alike A B table first second lent → Says (bits_answer A table (tiles_of first) (tiles_of second) (length list))
  unfolding bits_answer
  bits_mean alike =
      unless_cases Says (table_ok logic_tile table) _ _ (λ e. refused _ (broken _ alike (table_broken logic_tile table e)))
      (λ p. let rules = (table_exact logic_tile table alike.lengths.table_long).0 p in
      unless_cases Says (leb (logic_tile.positions * tile_count A) (fault_place table (tiles_of first) (tile_count A))) _ _
      (λ e. refused _ (first_undecodable _ alike rules (fault_place_lowest table first rules (tile_count A) (leb-false _ _ e))))
      (λ e. let clean = leb-true (logic_tile.positions * tile_count A) _ e in
      unless_cases Says (leb (logic_tile.positions * tile_count A) (fault_place table (tiles_of second) (tile_count A))) _ _
      (λ f. refused _
      (second_undecodable _ alike rules (reads alike rules first clean).decodable (fault_place_lowest table second rules (tile_count A) (leb-false _ _ f))))
      (λ f. rows_mean alike rules clean (leb-true (logic_tile.positions * tile_count A) _ f))))

  -- ---- grounds 1, 14 and 2

  compare_means : Says (compare_answer A B table (tiles_of first) (tiles_of second) (compare_exact A lent) (length list))
  unfolding compare_answer
  compare_means =
      unless_cases Says (allowed A) _ _ (λ e. refused _ (wrong_first_size (λ S. clash (allowed_true A S) e)))
      (λ a. let one = (allowed_exact A).0 a in
      unless_cases Says (allowed B) _ _ (λ e. refused _ (wrong_second_size one (λ S. clash (allowed_true B S) e)))
      (λ b. let other = (allowed_exact B).0 b in
      unless_cases Says (same_size A B) _ _ (λ e. refused _ (sizes_differ one other (λ S. clash ((same_size_exact A B).1 S) e)))
      (λ s. let same = (same_size_exact A B).0 s in
      unless_cases Says (compare_exact A lent) _ _ (λ e. refused _ (wrong_length one other same (λ L. clash ((compare_long_exact A lent).1 L) e)))
      (λ l. bits_mean (record { first_size = one; second_size = other; same_size = same; lengths = (compare_long_exact A lent).0 l })))))

  -- the same of what `compare` promises to answer, and of the list that it promises to leave
  pub compare_says : (r : Result ℕ Refusal) → r ≡ compare_answer A B table (tiles_of first) (tiles_of second) (compare_exact A lent) (length list)
      → (next : List ℕ) → next ≡ output (answer_number r) list filled → CompareSays A B table first second lent list next r
  compare_says r e next q = subst (λ (x : List ℕ). CompareSays A B table first second lent list x r) (sym q) (subst Says (sym e) compare_means)
