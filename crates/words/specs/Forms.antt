-- The two forms of a tile's bits. Document 02, W7: "each tile row as one 64-bit number, column c at weight 2^c", sixteen a tile, and "in place of the
-- 108 bytes" of document 01, which stay "at the file edge". What is read of a tile is read through `TileBits`.
use Rattle.std.specs.Prelude.{ℕ, ◌*◌, ◌^◌, ◌<◌, ◌≡◌, Bool, false, List, leb, get_or}
use Rattle.lists.specs.Parts.{part}
use Rattle.ports.specs.Lengths.{rows, columns, tile_numbers, tile_bytes}
use Rattle.words.specs.Packed.{bit_in, packed, FitsIn}

abbrev pub byte_bits : ℕ
byte_bits = 8

-- a tile as it is read: the bit at position 54r + c, and whether row r has a set bit past its columns
pub record TileBits : Type 0 where
  pub bit : ℕ → ℕ
  pub past : ℕ → Bool

-- row r has a set bit in columns 54 to 63 (`stray_exact`)
abbrev pub past_columns : List ℕ → ℕ → Bool
past_columns words r = leb (2 ^ columns) (get_or words r 0)

abbrev pub of_words : List ℕ → TileBits
of_words words = record { bit = bit_in columns words; past = past_columns words }

abbrev pub of_bytes : List ℕ → TileBits
of_bytes bytes = record { bit = bit_in byte_bits bytes; past = λ (r : ℕ). false }

-- the tiles of a block, by their index
abbrev pub tiles_of_words : List ℕ → ℕ → TileBits
tiles_of_words words t = of_words (part tile_numbers t words)

abbrev pub tiles_of_bytes : List ℕ → ℕ → TileBits
tiles_of_bytes bytes t = of_bytes (part tile_bytes t bytes)

-- both forms of n tiles: the bit at each of their positions is the same, and the words have "columns 54 to 63 zero"
pub record SameBits (n : ℕ) (bytes words : List ℕ) : Type 0 where
  pub same : (p : ℕ) → p < rows * columns * n → bit_in columns words p ≡ bit_in byte_bits bytes p
  pub fits : FitsIn columns words

-- computed: n tiles' bytes as words, and their words as bytes
unfoldable pub words_of : ℕ → List ℕ → List ℕ
words_of n bytes = packed columns (bit_in byte_bits bytes) (tile_numbers * n)

unfoldable pub bytes_of : ℕ → List ℕ → List ℕ
bytes_of n words = packed byte_bits (bit_in columns words) (tile_bytes * n)
