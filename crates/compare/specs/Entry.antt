-- What `compare` and `part_answer` answer: the grounds in the paper's order, one line each ("Refusals: those of reading, each for the first block
-- before the second; 14, sizes differ, place 0, after 1; 15, the lent list is too short, place the rows needed, last. Asking for a tile gives 1, 14,
-- 2, 20."), and what an answer leaves.
use Rattle.refusal.specs.declared.Refusal.{Refusal}
use Rattle.std.specs.Prelude.{ℕ, ◌*◌, Bool, List, [], ltb, leb, Result, Ok, Err}
use Rattle.lists.specs.Listing.{zero_filled}
use Rattle.refusal.specs.Grounds.{unless}
use Rattle.refusal.specs.declared.Refusal.TheVariants.{WrongSize, WrongLength, Table, Undecodable, SizesDiffer, ListTooShort, OutOfRange}
use Rattle.ports.specs.declared.size.Size.{Size}
use Rattle.ports.specs.Block.{tile_count, allowed}
use Rattle.routing.specs.LogicTile.{logic_tile}
use Rattle.routing.specs.TableCheck.{faulty_part, table_ok}
use Rattle.words.specs.Forms.{TileBits}
use Rattle.config.specs.Blocks.{bits_at, fault_place, decoded}
use Rattle.compare.specs.Places.{row_length}
use Rattle.compare.specs.Rows.{difference_count, differences}
use Rattle.compare.specs.Lengths.{same_size, part_exact}
use Rattle.compare.specs.declared.part.Side.{Side}
use Rattle.compare.specs.declared.part.Side.TheVariants.{First, Second}

-- ground 15 and the yes, of settings of n tiles that were read; `list` is the length lent
unfoldable pub rows_answer : (old new : List ℕ) → (n list : ℕ) → Result ℕ Refusal
rows_answer old new n list =
    unless (leb (row_length * difference_count old new n) list) (Err (ListTooShort (difference_count old new n)))
    (Ok (difference_count old new n))

-- grounds 3, 4 of the first, 4 of the second, 15
unfoldable pub bits_answer : Size → List ℕ → (first second : ℕ → TileBits) → ℕ → Result ℕ Refusal
bits_answer S table first second list =
    unless (table_ok logic_tile table) (Err (Table (faulty_part logic_tile table)))
    (unless (leb (logic_tile.positions * tile_count S) (fault_place table first (tile_count S))) (Err (Undecodable (fault_place table first (tile_count S))))
    (unless (leb (logic_tile.positions * tile_count S) (fault_place table second (tile_count S))) (Err (Undecodable (fault_place table second (tile_count S))))
    (rows_answer (decoded table first (tile_count S)) (decoded table second (tile_count S)) (tile_count S) list)))

-- grounds 1 of the first, 1 of the second, 14, 2, 3, 4, 15; `lengths` is whether every lent length is the exact one
unfoldable pub compare_answer : Size → Size → List ℕ → (first second : ℕ → TileBits) → Bool → ℕ → Result ℕ Refusal
compare_answer A B table first second lengths list =
    unless (allowed A) (Err WrongSize)
    (unless (allowed B) (Err WrongSize)
    (unless (same_size A B) (Err SizesDiffer)
    (unless lengths (Err WrongLength)
    (bits_answer A table first second list))))

-- the lent list after a yes: the rows, "the rest of the list is zeros"
abbrev pub rows_list : (old new : List ℕ) → (n list : ℕ) → List ℕ
rows_list old new n list = zero_filled list (differences old new n)

abbrev pub compared_list : Size → List ℕ → (first second : ℕ → TileBits) → ℕ → List ℕ
compared_list S table first second list = rows_list (decoded table first (tile_count S)) (decoded table second (tile_count S)) (tile_count S) list

-- ---- one tile's part

-- "Asking for a tile gives 1, 14, 2, 20."
unfoldable pub part_answer : Size → Size → (first second tile : ℕ) → Result (Unit {0}) Refusal
part_answer A B first second tile =
    unless (allowed A) (Err WrongSize)
    (unless (allowed B) (Err WrongSize)
    (unless (same_size A B) (Err SizesDiffer)
    (unless (part_exact A first second) (Err WrongLength)
    (unless (ltb tile (tile_count A)) (Err (OutOfRange tile))
    (Ok tt)))))

-- "from whichever of the two blocks the caller asks for"
abbrev pub chosen : Side → (first second : List ℕ) → List ℕ
chosen First first second = first
chosen Second first second = second

-- "it hands back that tile's bytes [..] as a part of the caller's own bytes, empty on a no"; W7: "the comparing tool hands back a part of those numbers"
abbrev pub part_of : Result (Unit {0}) Refusal → Side → (first second : List ℕ) → ℕ → List ℕ
part_of (Ok _) side first second tile = bits_at (chosen side first second) tile
part_of (Err refusal) side first second tile = []
