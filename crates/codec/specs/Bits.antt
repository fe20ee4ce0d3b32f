-- The bits of a tile in the form in which they are lent: words, one for each row. Beside this file, Held.antt, `src/bits.rt`, `src/held.rt` and their
-- laws, these know that form: `bits_of` (Encode.antt), which makes it; `write_value` (src/cells.rt), which writes a cell's two rows; `is_past_at`
-- (src/fault.rt), which looks past a row's columns; `take_row` of `tile`, which goes through a tile row by row; and `asc`, whose rows are the same.
use Rattle.std.specs.Prelude.{ℕ, zero, suc, ◌/◌, ◌%◌, Bool, List, eqb, get_or, set}
use Rattle.lists.specs.Search.{all_from, count_below}
use Rattle.digits.specs.Digits.{digit, set_digit}
use Rattle.ports.specs.Lengths.{columns, tile_numbers}
use Rattle.words.specs.Packed.{bit_in, number_from, FitsIn}
use Rattle.words.specs.Forms.{TileBits, of_words}
use Rattle.routing.specs.LogicTile.{logic_tile}

-- how many positions stand in one lent number, a row; `tile_numbers` of them are a tile
abbrev pub unit : ℕ
unit = columns

-- the bit at position p of a tile that is lent as words
abbrev pub bit_at : List ℕ → ℕ → ℕ
bit_at bits p = bit_in unit bits p

-- a tile as reading sees it. What is read is stated over this, so the lent form can change behind `tile_of`.
abbrev pub tile_of : List ℕ → TileBits
tile_of bits = of_words bits

-- v written to position p
unfoldable pub set_bit_in : ℕ → List ℕ → ℕ → ℕ → List ℕ
set_bit_in u bits p v = set bits (p / u) (set_digit (get_or bits (p / u) 0) (p % u) v)

abbrev pub set_bit : List ℕ → ℕ → ℕ → List ℕ
set_bit bits p v = set_bit_in unit bits p v

-- the digits of v below n written to the positions `at`, the first with weight 1
unfoldable pub set_bits : List ℕ → (ℕ → ℕ) → ℕ → ℕ → List ℕ
set_bits bits at v zero = bits
set_bits bits at v (suc n) = set_bit (set_bits bits at v n) (at n) (digit v n)

-- the ten bits from position p on as one number, the first with weight 1
abbrev pub ten_from : (ℕ → ℕ) → ℕ → ℕ
ten_from bit p = number_from 10 bit p

-- each lent number has `unit` digits: "columns 54 to 63 zero"
abbrev pub Fits : List ℕ → Type 0
Fits bits = FitsIn unit bits

-- the bit at p is 1
abbrev pub is_set_at : (ℕ → ℕ) → ℕ → Bool
is_set_at bit p = eqb (bit p) 1

-- no bit is set, nor one past the columns
abbrev pub is_zero_at : List ℕ → ℕ → Bool
is_zero_at bits i = eqb (get_or bits i 0) 0

abbrev pub is_empty : List ℕ → Bool
is_empty bits = all_from (is_zero_at bits) 0 tile_numbers

-- "how many of its 864 bits are set"
abbrev pub bit_count : (ℕ → ℕ) → ℕ
bit_count bit = count_below (is_set_at bit) logic_tile.positions
