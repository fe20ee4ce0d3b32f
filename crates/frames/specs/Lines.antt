-- The lines of an input, each by the position at which it begins. A frame's number of digits depends only on its counts, so a line is
-- a frame exactly if so many digits and a line end stand there. proofs/FrameLaws.antt: these are exactly the lines of specs/Frames.antt.
use Rattle.std.specs.Prelude.{ℕ, ◌+◌, ◌*◌, Bool, cond, ◌&&◌, List, eqb, leb, ltb, get_or}
use Rattle.lists.specs.Search.{all_from}
use Rattle.texts.specs.Hex.{is_digit, pair_at}

-- n digits from position `at` on; a byte past the end counts as 0, which is no digit
abbrev pub digits_at : List ℕ → ℕ → ℕ → Bool
digits_at s at n = all_from (λ k. is_digit (get_or s (at + k) 0)) 0 n

-- "one frame a line, every line ended": the frame's number, n digits with it, and a line feed
unfoldable pub is_line : List ℕ → ℕ → ℕ → ℕ → Bool
is_line s at kind n = eqb (pair_at s at) kind && (eqb (get_or s (at + n) 0) 10 && digits_at s at n)

-- "01 fields": three positions
abbrev pub fields_line : List ℕ → Bool
fields_line s = is_line s 0 1 14

-- "02 count, passive positions", behind the 15 bytes of the first line
abbrev pub passive_count : List ℕ → ℕ
passive_count s = pair_at s 17

unfoldable pub passive_line : List ℕ → Bool
passive_line s = leb (passive_count s) 64 && is_line s 15 2 (4 + 4 * passive_count s)

-- "03 destination, position count, positions, entry count, entries"
abbrev pub position_count : List ℕ → ℕ → ℕ
position_count s at = pair_at s (at + 6)

abbrev pub entry_count : List ℕ → ℕ → ℕ
entry_count s at = pair_at s (at + 8 + 4 * position_count s at)

unfoldable pub group_digits : List ℕ → ℕ → ℕ
group_digits s at = 10 + 4 * position_count s at + 6 * entry_count s at

-- "also for a count over its limit"
unfoldable pub group_line : List ℕ → ℕ → Bool
group_line s at = leb (position_count s at) 8 && (leb (entry_count s at) 32 && is_line s at 3 (group_digits s at))

-- "04 W, H", and W2's byte, "01 for such an east column, else 00 or left out": a line end in its place leaves it out
unfoldable pub size_digits : List ℕ → ℕ → ℕ
size_digits s at = cond (eqb (get_or s (at + 6) 0) 10) 6 8

unfoldable pub east_at : List ℕ → ℕ → ℕ
east_at s at = cond (eqb (get_or s (at + 6) 0) 10) 0 (pair_at s (at + 6))

-- "another byte is 11 in the frame, before 1"
unfoldable pub size_line : List ℕ → ℕ → Bool
size_line s at = ltb (east_at s at) 2 && is_line s at 4 (size_digits s at)

-- "05 a tile"
abbrev pub tile_line : List ℕ → ℕ → Bool
tile_line s at = is_line s at 5 218
