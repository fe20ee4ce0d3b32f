-- The logic tile as a kind of tile (document 01, 'The block and its sources', 'The routing table', 'Cells').
use Rattle.std.specs.Prelude.{ℕ, ◌+◌, ◌*◌, Bool, cond, not, ◌&&◌, ◌||◌, List, [], ◌∷◌, ltb, leb, get_or}
use Rattle.ports.specs.Lengths.{ports_per_tile, rows, columns}
use Rattle.routing.specs.TileKind.{TileKind}

-- "A tile has 16 rows of 54 bits. Br[c] is position 54r + c."
abbrev pub position : ℕ → ℕ → ℕ
position row column = columns * row + column

-- "LC_i[k] is at row 2i, column 36+k for k below 10, else row 2i+1, column 26+k."
abbrev pub lc_position : ℕ → ℕ → ℕ
lc_position i k = cond (ltb k 10) (position (2 * i) (36 + k)) (position (2 * i + 1) (26 + k))

-- "LUT_INIT 0 to 15 are LC bits 4, 14, 15, 5, 6, 16, 17, 7, 3, 13, 12, 2, 1, 11, 10, 0 [..]. Bit 8 enables carry, 9 the flip-flop, 18 sets rather
-- than resets, 19 makes that asynchronous." The order was compared with 000, entry by entry.
abbrev pub lc_bits : List ℕ
lc_bits =
    4 ∷ 14 ∷ 15 ∷ 5 ∷ 6 ∷ 16 ∷ 17 ∷ 7 ∷ 3 ∷ 13 ∷ 12 ∷ 2 ∷ 1 ∷ 11 ∷ 10 ∷ 0 ∷ 8 ∷ 9 ∷ 18 ∷ 19 ∷ []

-- the position of bit j of cell i: digit j of its value, the table first, then the flags
unfoldable pub cell_position : ℕ → ℕ → ℕ
cell_position i j = lc_position i (get_or lc_bits j 0)

-- "Destinations are ports 0 to 403 and 476 to 478"
unfoldable pub is_destination : ℕ → Bool
is_destination port = ltb port 404 || (leb 476 port && leb port 478)

-- "sources are all other ports and 0 to 371"
unfoldable pub is_source : ℕ → Bool
is_source port = ltb port 372 || (ltb port ports_per_tile && not (is_destination port))

-- 864 positions, eight cells, and "three fields (positions of NegClk, CarryInSet, and the switch from carry_in to carry_in_mux)"
abbrev pub logic_tile : TileKind
logic_tile = record {
  positions = rows * columns;
  cells = 8;
  cell_bit = cell_position;
  fields = 3;
  is_destination = is_destination;
  is_source = is_source;
}

-- which field is which
abbrev pub neg_clk : ℕ
neg_clk = 0

abbrev pub carry_in_set : ℕ
carry_in_set = 1

abbrev pub carry_chain : ℕ
carry_chain = 2
