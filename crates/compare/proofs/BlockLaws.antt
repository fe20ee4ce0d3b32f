-- The places of a block, tile by tile. Main laws: `tile_differs`, `tile_row`: place j of tile t; `count_tile_part`, `store_tile_part`,
-- `store_tile_room`: a turn of the loops over the tiles. Assumes nothing.
use Prim.Native.Nat.{ℕ, ◌+◌, ◌-◌, ◌*◌, ◌/◌, ◌%◌, ◌<◌, ◌≤◌}
use mathlib.Core.Path.{◌≡◌, sym, ap, ap₂, ◌∙◌}
use mathlib.Core.List.{List}
use native.Mathlib.Omega.{arith}
use native.Mathlib.Nat.{mul-add-div, div-eq_of_lt, mul-add-mod_self_left, mod-eq_of_lt, add-zero}
use lib.ListN.{length, take, drop}
use lib.Seq.{sets}
use Rattle.lists.specs.Search.{count_below}
use Rattle.lists.proofs.PartLaws.{part_size}
use Rattle.lists.specs.Listing.{rows_where}
use Rattle.lists.proofs.RowLaws.{count_more, next_part}
use Rattle.lists.proofs.Storing.{StoredRows, stored_part, stored_part_room}
use Rattle.ports.specs.Lengths.{settings_length}
use Rattle.config.specs.Blocks.{settings_at}
use Rattle.compare.specs.Places.{row_length, places_per_tile, differ_at, row_at}
use Rattle.compare.specs.Rows.{block_differs, block_row, difference_count}
use Rattle.compare.proofs.PlaceLaws.{row_length_lem}

module _ (t j : ℕ) (h : j < places_per_tile) where
  pub place_tile : (places_per_tile * t + j) / places_per_tile ≡ t
  place_tile = mul-add-div (omega arith) t j ∙ ap (λ (x : ℕ). t + x) (div-eq_of_lt h) ∙ add-zero t

  pub place_index : (places_per_tile * t + j) % places_per_tile ≡ j
  place_index = mul-add-mod_self_left places_per_tile t j ∙ mod-eq_of_lt h

module _ (old new : List ℕ) (t j : ℕ) (h : j < places_per_tile) where
  pub tile_differs : block_differs old new (places_per_tile * t + j) ≡ differ_at (settings_at old t) (settings_at new t) j
  unfolding block_differs
  tile_differs = ap₂ (λ (x y : ℕ). differ_at (settings_at old x) (settings_at new x) y) (place_tile t j h) (place_index t j h)

  pub tile_row : block_row old new (places_per_tile * t + j) ≡ row_at t (settings_at old t) (settings_at new t) j
  unfolding block_row
  tile_row = ap₂ (λ (x y : ℕ). row_at x (settings_at old x) (settings_at new x) y) (place_tile t j h) (place_index t j h)

pub block_row_length : (old new : List ℕ) (x : ℕ) → length (block_row old new x) ≡ row_length
unfolding block_row
block_row_length old new x =
    row_length_lem (x / places_per_tile) (settings_at old (x / places_per_tile)) (settings_at new (x / places_per_tile)) (x % places_per_tile)

-- a tile's settings as the code takes them out
abbrev pub taken : ℕ → List ℕ → List ℕ
taken t settings = take (settings_length * t + settings_length - settings_length * t) (drop (settings_length * t) settings)

pub taken_is : (t : ℕ) (settings : List ℕ) → taken t settings ≡ settings_at settings t
taken_is t settings = ap (λ (x : ℕ). take x (drop (settings_length * t) settings)) (part_size settings_length t)

-- how many differences tile t has, and their rows, as the code takes its settings out
abbrev pub taken_count : ℕ → (old new : List ℕ) → ℕ
taken_count t old new = count_below (differ_at (taken t old) (taken t new)) places_per_tile

abbrev pub taken_rows : ℕ → (old new : List ℕ) → List ℕ
taken_rows t old new = rows_where (differ_at (taken t old) (taken t new)) (row_at t (taken t old) (taken t new)) places_per_tile

-- the rows of the tiles below t are stored
abbrev pub TilesStored : (old new list₀ : List ℕ) → ℕ → ℕ → List ℕ → Type 0
TilesStored old new list₀ t at list = StoredRows (block_differs old new) (block_row old new) row_length 0 list₀ (places_per_tile * t) at list

module _ (old new : List ℕ) (t : ℕ) where
  same : (j : ℕ) → j < places_per_tile → block_differs old new (places_per_tile * t + j) ≡ differ_at (taken t old) (taken t new) j
  same j h = tile_differs old new t j h ∙ ap₂ (λ (x y : List ℕ). differ_at x y j) (sym (taken_is t old)) (sym (taken_is t new))

  also : (j : ℕ) → j < places_per_tile → block_row old new (places_per_tile * t + j) ≡ row_at t (taken t old) (taken t new) j
  also j h = tile_row old new t j h ∙ ap₂ (λ (x y : List ℕ). row_at t x y j) (sym (taken_is t old)) (sym (taken_is t new))

  pub count_tile_part : (c d : ℕ) → c ≡ difference_count old new t → d ≡ taken_count t old new → c + d ≡ difference_count old new (t + 1)
  count_tile_part c d inv e =
      count_more (block_differs old new) (places_per_tile * t) places_per_tile (differ_at (taken t old) (taken t new)) same c d inv e
      ∙ ap (count_below (block_differs old new)) (next_part places_per_tile t)

  module _ {list₀ list : List ℕ} {at : ℕ} (S : TilesStored old new list₀ t at list) where
    pub store_tile_part : (next : List ℕ) (then : ℕ) → next ≡ sets list at (taken_rows t old new) → then ≡ at + row_length * taken_count t old new
        → TilesStored old new list₀ (t + 1) then next
    store_tile_part next then e f =
        stored_part places_per_tile t S (differ_at (taken t old) (taken t new)) (row_at t (taken t old) (taken t new)) same
        (block_row_length old new) also next then e f

    pub store_tile_room : (n : ℕ) → t < n → row_length * difference_count old new n ≤ length list₀
        → at + row_length * taken_count t old new ≤ length list
    store_tile_room n l fits =
        stored_part_room places_per_tile t S (differ_at (taken t old) (taken t new)) (row_at t (taken t old) (taken t new)) same n l (omega arith)
