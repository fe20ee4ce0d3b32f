-- What the rules of a routing table need to know of a kind of tile. A second kind of tile is a second value of this record.
use Rattle.std.specs.Prelude.{ℕ, ◌<◌, ◌≡◌, Bool}

-- a kind of tile
pub record TileKind : Type 0 where
  pub positions : ℕ  -- how many configuration bits a tile has
  pub cells : ℕ  -- how many logic cells, each with 20 bits of its own
  pub cell_bit : ℕ → ℕ → ℕ  -- the position of bit j of cell i: its table's 16 bits, then its flags
  pub fields : ℕ  -- how many single positions the table begins with
  pub is_destination : ℕ → Bool  -- a switch may end on this port
  pub is_source : ℕ → Bool  -- a switch may come from this port

-- bits of a cell
abbrev pub bits_per_cell : ℕ
bits_per_cell = 20

-- the cells' own bits are in the tile, and no two are one position; `proofs/LogicTileLaws.antt` shows it of the logic tile
pub record CellBitsOnce (K : TileKind) : Type 0 where
  pub within : (i j : ℕ) → i < K.cells → j < bits_per_cell → K.cell_bit i j < K.positions
  pub differ : (i j k l : ℕ) → i < K.cells → k < K.cells → j < bits_per_cell → l < bits_per_cell → K.cell_bit i j ≡ K.cell_bit k l → (i ≡ k) × (j ≡ l)
