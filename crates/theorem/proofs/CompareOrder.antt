-- The grounds of `compare` and of asking for a tile's part in their orders. Main laws: `compare_order`, `part_order`. Assumes nothing.
use Rattle.refusal.specs.declared.Refusal.{Refusal}
use Rattle.std.specs.Prelude.{Result}
use Prim.Native.Nat.{ℕ, ◌*◌, ◌<◌, ◌≤◌}
use mathlib.Core.Path.{◌≡◌, refl}
use mathlib.Core.Logic.{inl, inr}
use mathlib.Core.Bool.{Bool, true, false}
use mathlib.Core.List.{List}
use native.Mathlib.Omega.{arith}
use borrow.Author.Tests.{leb-true, leb-false, ltb-true, ltb-false}
use lib.Dec.{leb, ltb}
use lib.ListN.{length}
use Rattle.lists.proofs.CaseLaws.{clash}
use Rattle.lists.proofs.ListingLaws.{count_unique}
use Rattle.refusal.specs.Grounds.{unless, answer_number, answer_value, number_value}
use Rattle.ports.specs.declared.size.Size.{Size}
use Rattle.ports.specs.Block.{Allowed, tile_count, allowed}
use Rattle.ports.specs.Lengths.{table_length, bits_length}
use Rattle.ports.proofs.BlockLaws.{allowed_exact, allowed_true}
use Rattle.routing.specs.LogicTile.{logic_tile}
use Rattle.routing.specs.Rules.{TableRules, FirstBroken}
use Rattle.routing.specs.TableCheck.{table_ok}
use Rattle.routing.proofs.TableCheckLaws.{table_exact, table_broken}
use Rattle.config.specs.Blocks.{fault_place, decoded, tiles_of}
use Rattle.config.specs.Facts.{LowestFault}
use Rattle.config.proofs.BlocksLaws.{decoded_reads}
use Rattle.config.proofs.FaultPlaceLaws.{fault_place_lowest, no_fault_decodable}
use Rattle.compare.specs.declared.lengths.CompareLent.{CompareLent}
use Rattle.compare.specs.Difference.{DiffersIn}
use Rattle.compare.specs.Places.{row_length}
use Rattle.compare.specs.Rows.{difference_count}
use Rattle.compare.specs.Lengths.{SameSize, CompareLong, same_size, part_exact, compare_lent, compare_exact}
use Rattle.compare.specs.Entry.{rows_answer, bits_answer, compare_answer, compared_list, part_answer}
use Rattle.compare.proofs.LengthLaws.{same_size_exact, part_long_exact, compare_long_exact}
use Rattle.compare.proofs.DifferenceLaws.{differences_listed}
use Rattle.theorem.specs.Order.{Check, Yes, at, at0, RowsNeeded}
use Rattle.theorem.specs.EntryGrounds.{AllDecodable}
use Rattle.theorem.specs.CompareGrounds.{CompareGrounds, PartGrounds}
use Rattle.theorem.proofs.EntryOrder.{no_broken}

-- one check of a chain, in front of an answer of any kind
check_order : {A : Type 0} (number value : A → ℕ) (b : Bool) (refused later : A) (ground : ℕ) {passes : Type 0} (place : ℕ → Type 0) (G : ℕ → ℕ → Type 0)
    → (b ≡ false → (passes → ⊥) × (number refused ≡ ground) × place (value refused)) → (b ≡ true → passes × G (number later) (value later))
    → Check ground passes place G (number (unless b refused later)) (value (unless b refused later))
check_order number value true refused later ground place G f g = inr (g refl)
check_order number value false refused later ground place G f g = inl (f refl)

module _ (A B : Size) (table first second list before after : List ℕ) where
  abbrev lent : CompareLent
  lent = compare_lent table first second before after

  abbrev n : ℕ
  n = tile_count A

  -- the settings that the blocks read to
  abbrev old : List ℕ
  old = decoded table (tiles_of first) n

  abbrev new : List ℕ
  new = decoded table (tiles_of second) n

  abbrev Order : Result ℕ Refusal → Type 0
  Order r = CompareGrounds A B table first second old new lent list (answer_number r) (number_value r)

  -- no tile has a position at fault
  clean_all : (bits : List ℕ) → TableRules logic_tile table → leb (logic_tile.positions * n) (fault_place table (tiles_of bits) n) ≡ true
      → AllDecodable table (tiles_of bits) n
  clean_all bits rules e = no_fault_decodable table bits rules n (leb-true _ _ e)

  faulted : (bits : List ℕ) {place : ℕ} → LowestFault table (tiles_of bits) n place → AllDecodable table (tiles_of bits) n → ⊥
  faulted bits low d = d low.faulty_tile low.within low.position low.faulty

  needed : TableRules logic_tile table → AllDecodable table (tiles_of first) n → AllDecodable table (tiles_of second) n → RowsNeeded (DiffersIn table old new n) row_length (difference_count old new n)
  needed rules d d' = record {
    list = compared_list A table (tiles_of first) (tiles_of second) (row_length * difference_count old new n);
    listed = differences_listed table (tiles_of first) (tiles_of second) old new n rules (decoded_reads table first n rules d)
        (decoded_reads table second n rules d') (row_length * difference_count old new n) (omega arith);
  }

  -- ---- 15 and the yes

  abbrev RowsGrounds : ℕ → ℕ → Type 0
  RowsGrounds = Check 15 ((rows : ℕ) → RowsNeeded (DiffersIn table old new n) row_length rows → row_length * rows ≤ length list) (RowsNeeded (DiffersIn table old new n) row_length) (Yes (RowsNeeded (DiffersIn table old new n) row_length))

  rows_order : RowsNeeded (DiffersIn table old new n) row_length (difference_count old new n)
      → RowsGrounds (answer_number (rows_answer old new n (length list))) (number_value (rows_answer old new n (length list)))
  unfolding rows_answer
  rows_order rows =
      check_order answer_number number_value (leb (row_length * difference_count old new n) (length list)) _ _ 15 (RowsNeeded (DiffersIn table old new n) row_length) (Yes (RowsNeeded (DiffersIn table old new n) row_length))
      (λ e. let k = leb-false (row_length * difference_count old new n) (length list) e in
      ((λ fits. let q = fits (difference_count old new n) rows in omega arith), refl, rows))
      (λ e. let k = leb-true (row_length * difference_count old new n) (length list) e in
      ((λ m N. let u = count_unique N.listed rows.listed in omega arith), (refl, rows)))

  -- ---- 3 and 4

  abbrev SecondGrounds : ℕ → ℕ → Type 0
  SecondGrounds = Check 4 (AllDecodable table (tiles_of second) n) (LowestFault table (tiles_of second) n) RowsGrounds

  abbrev FirstGrounds : ℕ → ℕ → Type 0
  FirstGrounds = Check 4 (AllDecodable table (tiles_of first) n) (LowestFault table (tiles_of first) n) SecondGrounds

  abbrev BitsGrounds : ℕ → ℕ → Type 0
  BitsGrounds = Check 3 (TableRules logic_tile table) (FirstBroken logic_tile table) FirstGrounds

  bits_order : length table ≡ table_length
      → BitsGrounds (answer_number (bits_answer A table (tiles_of first) (tiles_of second) (length list)))
      (number_value (bits_answer A table (tiles_of first) (tiles_of second) (length list)))
  unfolding bits_answer
  bits_order long =
      check_order answer_number number_value (table_ok logic_tile table) _ _ 3 (FirstBroken logic_tile table) FirstGrounds
      (λ e. (no_broken table _ (table_broken logic_tile table e), refl, table_broken logic_tile table e))
      (λ p. let rules = (table_exact logic_tile table long).0 p in (
        rules,
        check_order answer_number number_value (leb (logic_tile.positions * n) (fault_place table (tiles_of first) n)) _ _ 4 (LowestFault table (tiles_of first) n) SecondGrounds
            (λ e. let low = fault_place_lowest table first rules n (leb-false _ _ e) in (faulted first low, refl, low))
            (λ e. let d = clean_all first rules e in (
              d,
              check_order answer_number number_value (leb (logic_tile.positions * n) (fault_place table (tiles_of second) n)) _ _ 4 (LowestFault table (tiles_of second) n) RowsGrounds
                  (λ f. let low = fault_place_lowest table second rules n (leb-false _ _ f) in (faulted second low, refl, low))
                  (λ f. let d' = clean_all second rules f in (d', rows_order (needed rules d d'))),
            )),
      ))

  -- ---- 1, 14 and 2

  abbrev LengthGrounds : ℕ → ℕ → Type 0
  LengthGrounds = Check 2 (CompareLong A lent) at0 BitsGrounds

  abbrev SameGrounds : ℕ → ℕ → Type 0
  SameGrounds = Check 14 (SameSize A B) at0 LengthGrounds

  abbrev OtherGrounds : ℕ → ℕ → Type 0
  OtherGrounds = Check 1 (Allowed B) at0 SameGrounds

  pub compare_order : Order (compare_answer A B table (tiles_of first) (tiles_of second) (compare_exact A lent) (length list))
  unfolding compare_answer
  compare_order =
      check_order answer_number number_value (allowed A) _ _ 1 at0 OtherGrounds (λ e. ((λ s. clash (allowed_true A s) e), refl, refl))
      (λ a. (
        (allowed_exact A).0 a,
        check_order answer_number number_value (allowed B) _ _ 1 at0 SameGrounds (λ e. ((λ s. clash (allowed_true B s) e), refl, refl))
            (λ b. (
              (allowed_exact B).0 b,
              check_order answer_number number_value (same_size A B) _ _ 14 at0 LengthGrounds (λ e. ((λ s. clash ((same_size_exact A B).1 s) e), refl, refl))
                  (λ s. (
                    (same_size_exact A B).0 s,
                    check_order answer_number number_value (compare_exact A lent) _ _ 2 at0 BitsGrounds (λ e. ((λ l. clash ((compare_long_exact A lent).1 l) e), refl, refl))
                        (λ l. let long = (compare_long_exact A lent).0 l in (long, bits_order long.table_long)),
                  )),
            )),
      ))

module _ (A B : Size) (first second : List ℕ) (tile : ℕ) where
  abbrev PartOrder : Result (Unit {0}) Refusal → Type 0
  PartOrder r = PartGrounds A B first second tile (answer_number r) (answer_value r)

  abbrev TileGrounds : ℕ → ℕ → Type 0
  TileGrounds = Check 20 (tile < tile_count A) (at tile) (Yes at0)

  abbrev PartLengthGrounds : ℕ → ℕ → Type 0
  PartLengthGrounds = Check 2 ((length first ≡ bits_length A) × (length second ≡ bits_length A)) at0 TileGrounds

  abbrev PartSameGrounds : ℕ → ℕ → Type 0
  PartSameGrounds = Check 14 (SameSize A B) at0 PartLengthGrounds

  abbrev PartOtherGrounds : ℕ → ℕ → Type 0
  PartOtherGrounds = Check 1 (Allowed B) at0 PartSameGrounds

  pub part_order : PartOrder (part_answer A B (length first) (length second) tile)
  unfolding part_answer
  part_order =
      check_order answer_number answer_value (allowed A) _ _ 1 at0 PartOtherGrounds (λ e. ((λ s. clash (allowed_true A s) e), refl, refl))
      (λ a. (
        (allowed_exact A).0 a,
        check_order answer_number answer_value (allowed B) _ _ 1 at0 PartSameGrounds (λ e. ((λ s. clash (allowed_true B s) e), refl, refl))
            (λ b. (
              (allowed_exact B).0 b,
              check_order answer_number answer_value (same_size A B) _ _ 14 at0 PartLengthGrounds (λ e. ((λ s. clash ((same_size_exact A B).1 s) e), refl, refl))
                  (λ s. (
                    (same_size_exact A B).0 s,
                    check_order answer_number answer_value (part_exact A (length first) (length second)) _ _ 2 at0 TileGrounds
                        (λ e. ((λ l. clash ((part_long_exact A (length first) (length second)).1 l) e), refl, refl))
                        (λ l. (
                          (part_long_exact A (length first) (length second)).0 l,
                          check_order answer_number answer_value (ltb tile (tile_count A)) _ _ 20 (at tile) (Yes at0)
                              (λ e. let z = ltb-false tile (tile_count A) e in ((λ k. omega arith), refl, refl))
                              (λ e. (ltb-true tile (tile_count A) e, (refl, refl))),
                        )),
                  )),
            )),
      ))
