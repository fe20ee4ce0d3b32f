-- An input of frames: where each line begins, how many there are, and what is answered ("One 01, one 02, the 03s, one 04, the 05s."). A
-- line that is malformed, out of turn, missing or extra is always the first one behind the frames that came in their turn, so its place is
-- one more than their number.
use Rattle.ports.specs.Block.{block}
use Rattle.ports.specs.declared.size.Block.{Block}
use Rattle.refusal.specs.declared.Refusal.{Refusal}
use Rattle.std.specs.Prelude.{ℕ, zero, suc, ◌+◌, ◌*◌, ◌≡◌, Bool, true, not, ◌&&◌, List, eqb, leb, length, Result, Ok, Err}
use Rattle.lists.specs.Search.{first}
use Rattle.refusal.specs.Grounds.{unless}
use Rattle.refusal.specs.declared.Refusal.TheVariants.{WrongSize, Line}
use Rattle.texts.specs.Hex.{pair_at}
use Rattle.frames.specs.Lines.{fields_line, passive_count, passive_line, group_digits, group_line, size_digits, east_at, size_line, tile_line}

-- where group g begins: behind the lines 01 and 02 and the groups before it
unfoldable pub group_at : List ℕ → ℕ → ℕ
group_at s zero = 20 + 4 * passive_count s
group_at s (suc g) = group_at s g + (group_digits s (group_at s g) + 1)

-- "at most 512 groups": how many 03s stand there, up to that limit
unfoldable pub group_count : List ℕ → ℕ
group_count s = first (λ g. not (group_line s (group_at s g))) 0 512

-- the block frame, W and H in it, and what it says of the column to the east
unfoldable pub size_at : List ℕ → ℕ
size_at s = group_at s (group_count s)

abbrev pub width : List ℕ → ℕ
width s = pair_at s (size_at s + 2)

abbrev pub height : List ℕ → ℕ
height s = pair_at s (size_at s + 4)

abbrev pub east : List ℕ → ℕ
east s = east_at s (size_at s)

-- "1: W or H not 1 to 8 (programs: 1 to 3)"
abbrev pub small : ℕ → Bool
small n = leb 1 n && leb n 3

abbrev pub tiles_due : List ℕ → ℕ
tiles_due s = height s * width s

-- where the frame of tile t begins, behind the block frame, and how many stand there of those that are due
abbrev pub tiles_from : List ℕ → ℕ
tiles_from s = size_at s + (size_digits s (size_at s) + 1)

abbrev pub tile_at : List ℕ → ℕ → ℕ
tile_at s t = tiles_from s + 219 * t

unfoldable pub tile_count : List ℕ → ℕ
tile_count s = first (λ t. not (tile_line s (tile_at s t))) 0 (tiles_due s)

-- the lines up to the block frame are as they should be, and so are W and H
pub record Opened (s : List ℕ) : Type 0 where
  pub fields : fields_line s ≡ true
  pub passives : passive_line s ≡ true
  pub size : size_line s (size_at s) ≡ true
  pub few : small (width s) && small (height s) ≡ true

-- "11: line malformed, out of turn, missing or extra: line, from 1", and "1 on reading the block frame"
unfoldable pub parsed : List ℕ → Result Block Refusal
parsed s =
    unless (fields_line s) (Err (Line 1))
    (unless (passive_line s) (Err (Line 2))
    (unless (size_line s (size_at s)) (Err (Line (3 + group_count s)))
    (unless (small (width s) && small (height s)) (Err WrongSize)
    (unless (leb (tiles_due s) (tile_count s)) (Err (Line (4 + group_count s + tile_count s)))
    (unless (eqb (length s) (tile_at s (tiles_due s))) (Err (Line (4 + group_count s + tiles_due s)))
    (Ok (block (width s) (height s) (east s))))))))
