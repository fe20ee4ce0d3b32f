-- The rows of a block, computed: place x of all places, tile by tile.
use Rattle.std.specs.Prelude.{ℕ, ◌*◌, ◌/◌, ◌%◌, Bool, List}
use Rattle.lists.specs.Search.{count_below}
use Rattle.lists.specs.Listing.{rows_where}
use Rattle.config.specs.Blocks.{settings_at}
use Rattle.compare.specs.Places.{places_per_tile, differ_at, row_at}

module _ (old new : List ℕ) where
  unfoldable pub block_differs : ℕ → Bool
  block_differs x = differ_at (settings_at old (x / places_per_tile)) (settings_at new (x / places_per_tile)) (x % places_per_tile)

  unfoldable pub block_row : ℕ → List ℕ
  block_row x = row_at (x / places_per_tile) (settings_at old (x / places_per_tile)) (settings_at new (x / places_per_tile)) (x % places_per_tile)

  -- how many rows n tiles have, and these
  abbrev pub difference_count : ℕ → ℕ
  difference_count n = count_below block_differs (places_per_tile * n)

  abbrev pub differences : ℕ → List ℕ
  differences n = rows_where block_differs block_row (places_per_tile * n)
