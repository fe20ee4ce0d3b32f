-- The grounds of `compare` and of asking for a tile's part in their orders (document 02, W4), over the number of an answer and what comes with it.
use Rattle.std.specs.Prelude.{ℕ, ◌*◌, ◌<◌, ◌≤◌, ◌≡◌, List, length}
use Rattle.ports.specs.declared.size.Size.{Size}
use Rattle.ports.specs.Block.{Allowed, tile_count}
use Rattle.ports.specs.Lengths.{bits_length}
use Rattle.routing.specs.LogicTile.{logic_tile}
use Rattle.routing.specs.Rules.{TableRules, FirstBroken}
use Rattle.config.specs.Blocks.{tiles_of}
use Rattle.config.specs.Facts.{LowestFault}
use Rattle.compare.specs.declared.lengths.CompareLent.{CompareLent}
use Rattle.compare.specs.Difference.{DiffersIn}
use Rattle.compare.specs.Places.{row_length}
use Rattle.compare.specs.Lengths.{SameSize, CompareLong}
use Rattle.theorem.specs.Order.{Check, Yes, at, at0, RowsNeeded}
use Rattle.theorem.specs.EntryGrounds.{AllDecodable}

-- "those of reading, each for the first block before the second; 14, sizes differ, place 0, after 1; 15, the lent list is too short, place the rows
-- needed, last". `old` and `new` are the settings that the blocks read to
abbrev pub CompareGrounds : (A B : Size) → (table first second old new : List ℕ) → CompareLent → (list : List ℕ) → ℕ → ℕ → Type 0
CompareGrounds A B table first second old new lent list =
    Check 1 (Allowed A) at0
    (Check 1 (Allowed B) at0
    (Check 14 (SameSize A B) at0
    (Check 2 (CompareLong A lent) at0
    (Check 3 (TableRules logic_tile table) (FirstBroken logic_tile table)
    (Check 4 (AllDecodable table (tiles_of first) (tile_count A)) (LowestFault table (tiles_of first) (tile_count A))
    (Check 4 (AllDecodable table (tiles_of second) (tile_count A)) (LowestFault table (tiles_of second) (tile_count A))
    (Check 15 ((rows : ℕ) → RowsNeeded (DiffersIn table old new (tile_count A)) row_length rows → row_length * rows ≤ length list) (RowsNeeded (DiffersIn table old new (tile_count A)) row_length)
    (Yes (RowsNeeded (DiffersIn table old new (tile_count A)) row_length)))))))))

-- "Asking for a tile gives 1, 14, 2, 20."
abbrev pub PartGrounds : (A B : Size) → (first second : List ℕ) → (tile : ℕ) → ℕ → ℕ → Type 0
PartGrounds A B first second tile =
    Check 1 (Allowed A) at0
    (Check 1 (Allowed B) at0
    (Check 14 (SameSize A B) at0
    (Check 2 ((length first ≡ bits_length A) × (length second ≡ bits_length A)) at0
    (Check 20 (tile < tile_count A) (at tile)
    (Yes at0)))))
