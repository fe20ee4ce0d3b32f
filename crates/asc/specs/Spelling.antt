-- How the lines of a file are spelt, without their line feeds. 32 is a space, 46 a dot, 48 and 49 are the digits 0 and 1.
use Rattle.std.specs.Prelude.{ℕ, ◌+◌, Bool, ◌&&◌, List, [], ◌∷◌, ◌++◌, eqb, leb, length, drop, get_or}
use Rattle.lists.specs.Search.{all_from}
use Rattle.texts.specs.Decimal.{decimal, number}
use Rattle.texts.specs.Lines.{same, word_length, word}
use Rattle.ports.specs.Lengths.{columns}

-- ".device" and ".device 1k"
abbrev pub device_word : List ℕ
device_word = 46 ∷ 100 ∷ 101 ∷ 118 ∷ 105 ∷ 99 ∷ 101 ∷ []

abbrev pub device_line : List ℕ
device_line = 46 ∷ 100 ∷ 101 ∷ 118 ∷ 105 ∷ 99 ∷ 101 ∷ 32 ∷ 49 ∷ 107 ∷ []

-- ".logic_tile with its two coordinates"; "single spaces part words; coordinates are decimal, 0 to 255, no leading zeros"
abbrev pub tile_word : List ℕ
tile_word = 46 ∷ 108 ∷ 111 ∷ 103 ∷ 105 ∷ 99 ∷ 95 ∷ 116 ∷ 105 ∷ 108 ∷ 101 ∷ []

abbrev pub tile_line : ℕ → ℕ → List ℕ
tile_line x y = tile_word ++ (32 ∷ (decimal x ++ (32 ∷ decimal y)))

-- ---- the other way

-- The two numbers of a line that begins as a tile's does, behind its first word and a space. Nothing is tested: a line that is no tile's gives some numbers,
-- and is not the line that these two spell.
abbrev pub behind_word : List ℕ → List ℕ
behind_word line = drop 12 line

unfoldable pub line_x : List ℕ → ℕ
line_x line = number (word (behind_word line))

unfoldable pub line_y : List ℕ → ℕ
line_y line = number (drop (word_length (behind_word line) + 1) (behind_word line))

-- the line is spelt as that of the tile at these two
unfoldable pub is_tile_line : List ℕ → Bool
is_tile_line line = leb (line_x line) 255 && (leb (line_y line) 255 && same line (tile_line (line_x line) (line_y line)))

-- "54 digits", each 0 or 1
abbrev pub is_binary : ℕ → Bool
is_binary c = leb 48 c && leb c 49

unfoldable pub is_row : List ℕ → Bool
is_row line = eqb (length line) columns && all_from (λ k. is_binary (get_or line k 0)) 0 (length line)
