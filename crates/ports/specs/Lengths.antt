-- The length of everything that is lent for a block: "Lengths: bits 108, values 506, state 8, list 3,542 numbers, each times W·H; those of
-- table, settings and work room stand in docs/"; document 02, W7: "the exact length is 16 numbers a tile". No other file has these figures.
--   bits_length, settings_total, state_length == of a size      ports, list_length == of a block      table_length == of any
use Rattle.std.specs.Prelude.{ℕ, ◌+◌, ◌*◌}
use Rattle.ports.specs.declared.size.Size.{Size}
use Rattle.ports.specs.declared.size.Block.{Block}

-- "Each tile has 506 ports."
abbrev pub ports_per_tile : ℕ
ports_per_tile = 506

-- "A tile has 16 rows of 54 bits."
abbrev pub rows : ℕ
rows = 16

abbrev pub columns : ℕ
columns = 54

-- "Br[c] is position 54r + c": as many as a tile has bits
abbrev pub positions : ℕ
positions = rows * columns

-- "Keep a block as 16 such numbers a tile" (document 02, W7): as it is lent
abbrev pub tile_numbers : ℕ
tile_numbers = rows

-- "A tile is 108 bytes": in files, frames 05
abbrev pub tile_bytes : ℕ
tile_bytes = 108

-- "its eight cells", a byte of state each
abbrev pub cells_per_tile : ℕ
cells_per_tile = 8

-- "three fields [..], at most 64 passive positions, at most 512 groups. A group has a destination, 1 to 8 positions and 1 to 32 entries"
abbrev pub field_count : ℕ
field_count = 3

abbrev pub max_passives : ℕ
max_passives = 64

abbrev pub max_groups : ℕ
max_groups = 512

abbrev pub max_positions : ℕ
max_positions = 8

abbrev pub max_entries : ℕ
max_entries = 32

-- a group in the lent table: destination, position count, positions, entry count, entries of pattern and source
abbrev pub group_length : ℕ
group_length = 3 + max_positions + 2 * max_entries

-- the lent table: the fields; the passive count and positions; the group count and groups
abbrev pub table_length : ℕ
table_length = field_count + (1 + max_passives) + (1 + group_length * max_groups)

-- a tile's settings: the fields, the passive bits, the groups' settings, and table and flags of each cell
abbrev pub settings_length : ℕ
settings_length = field_count + max_passives + max_groups + 2 * cells_per_tile

-- what a size asks for: bits, settings, state
abbrev pub bits_length : Size → ℕ
bits_length S = tile_numbers * (S.h * S.w)

-- the same bits as bytes
abbrev pub bytes_length : Size → ℕ
bytes_length S = tile_bytes * (S.h * S.w)

abbrev pub settings_total : Size → ℕ
settings_total S = settings_length * (S.h * S.w)

abbrev pub state_length : Size → ℕ
state_length S = cells_per_tile * (S.h * S.w)

-- what a block asks for: a number for each port (values, wires, sources, marks, ..), and a row of seven numbers for each
abbrev pub ports : Block → ℕ
ports B = ports_per_tile * (B.h * B.w)

abbrev pub list_length : Block → ℕ
list_length B = 7 * ports B
