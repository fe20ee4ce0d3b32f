-- The digits of a file and the numbers of a block. Document 02, W7: "each tile row as one 64-bit number, column c at weight 2^c", "16 such numbers a tile": row r
-- of tile t is number 16t + r. Its 54 digits are positions 864t + 54r to 864t + 54r + 53 of the block, so number i holds the digits from position 54i on.
use Rattle.std.specs.Prelude.{ℕ, ◌+◌, ◌*◌, ◌/◌, ◌%◌, List, [], ◌++◌, length, get_or}
use Rattle.ports.specs.Lengths.{rows, columns, tile_numbers}
use Rattle.lists.specs.Tables.{tabulate}
use Rattle.lists.specs.Parts.{joined}
use Rattle.digits.specs.Digits.{digit}
use Rattle.texts.specs.Pieces.{line_end}
use Rattle.words.specs.Packed.{packed}
use Rattle.asc.specs.Area.{Area, tiles_of}
use Rattle.asc.specs.Spelling.{device_line, tile_line}

-- ---- reading

-- what a digit stands for: 0 is 48, 1 is 49
abbrev pub value_at : List ℕ → ℕ → ℕ
value_at content p = get_or content p 0 % 2

-- the numbers of n tiles, a row each (proofs/ContentLaws.antt: `packed_bit`)
unfoldable pub rows_packed : List ℕ → ℕ → List ℕ
rows_packed content n = packed columns (value_at content) (tile_numbers * n)

-- ---- writing

-- "rows of 54 digits, column 0 first", of the row's number; "each line [..] ends in a line feed"
abbrev pub row_digits : ℕ → List ℕ
row_digits word = tabulate (λ c. 48 + digit word c) 0 columns

abbrev pub row_text : ℕ → List ℕ
row_text word = row_digits word ++ line_end

-- how long the rows of a tile are, each with its line feed
abbrev pub rows_length : ℕ
rows_length = rows * (columns + 1)

-- ".logic_tile with its two coordinates and sixteen rows": tile t is in column t % W and row t / W of the block
unfoldable pub rows_text : List ℕ → ℕ → List ℕ
rows_text bits t = joined (λ r. row_text (get_or bits (rows * t + r) 0)) rows

unfoldable pub head_text : Area → ℕ → List ℕ
head_text a t = tile_line (a.x + t % a.w) (a.y + t / a.w) ++ line_end

abbrev pub tile_text : Area → List ℕ → ℕ → List ℕ
tile_text a bits t = head_text a t ++ rows_text bits t

abbrev pub device_text : List ℕ
device_text = device_line ++ line_end

-- "write them again, .device first, tiles by index, no empty lines"
unfoldable pub written : Area → List ℕ → List ℕ
written a bits = device_text ++ joined (tile_text a bits) (tiles_of a)

-- the length of a file depends only on corner and size (proofs/LengthLaws.antt: `written_length`)
unfoldable pub text_length : Area → ℕ
text_length a = length (written a [])
