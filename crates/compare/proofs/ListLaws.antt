-- What `list_settings` has when the rows are counted and stored. Main laws: `rows_few`, `list_filled`. Assumes nothing.
use Prim.Native.Nat.{ℕ, ◌-◌, ◌*◌, ◌≤◌}
use mathlib.Core.Path.{◌≡◌, sym, ◌∙◌}
use mathlib.Core.List.{List}
use native.Mathlib.Omega.{arith}
use borrow.Rule.Slice.PartMut.{put_mid}
use lib.ListN.{length, take, drop}
use lib.Seq.{sets}
use Rattle.lists.specs.Tables.{zeros}
use Rattle.lists.proofs.CountLaws.{count_le}
use Rattle.lists.proofs.RowLaws.{rows_length_lem}
use Rattle.lists.proofs.ListingLaws.{filled_rest}
use Rattle.compare.specs.Places.{row_length, places_per_tile}
use Rattle.compare.specs.Rows.{block_differs, block_row, difference_count, differences}
use Rattle.compare.specs.Entry.{rows_list}
use Rattle.compare.proofs.BlockLaws.{block_row_length}

module _ (old new : List ℕ) (n : ℕ) where
  -- a block has few rows
  pub rows_few : (rows : ℕ) → rows ≡ difference_count old new n → n ≤ 64 → rows ≤ places_per_tile * 64
  rows_few rows e l = omega (arith, e, count_le (block_differs old new) (places_per_tile * n))

  differences_length : length (differences old new n) ≡ row_length * difference_count old new n
  differences_length = rows_length_lem (block_differs old new) (block_row old new) row_length (places_per_tile * n) (λ x h. block_row_length old new x)

  -- the list when its rest is cleared
  pub list_filled : (list stored rest : List ℕ) (end : ℕ) → row_length * difference_count old new n ≤ length list → stored ≡ sets list 0 (differences old new n)
      → end ≡ row_length * difference_count old new n → rest ≡ zeros (length (take (length list - end) (drop end stored)))
      → put_mid end (length list - end) stored rest ≡ rows_list old new n (length list)
  list_filled list stored rest end fits s e r =
      filled_rest list stored rest (differences old new n) end s (e ∙ sym differences_length) (omega (arith, differences_length)) r
