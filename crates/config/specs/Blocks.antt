-- A block's bits and settings: those of its tiles, one after another, by the tiles' index.
use Rattle.std.specs.Prelude.{ℕ, ◌*◌, ◌/◌, ◌%◌, Bool, not, List}
use Rattle.lists.specs.Search.{first}
use Rattle.lists.specs.Parts.{part, joined}
use Rattle.routing.specs.LogicTile.{logic_tile}
use Rattle.ports.specs.Lengths.{tile_numbers, settings_length}
use Rattle.words.specs.Forms.{TileBits}
use Rattle.codec.specs.Bits.{tile_of}
use Rattle.codec.specs.Decode.{decode}
use Rattle.codec.specs.Encode.{encode}
use Rattle.codec.specs.Fault.{fault_at}
use Rattle.codec.specs.Limits.{settings_fit}

-- the bits, and the settings, of tile t
abbrev pub bits_at : List ℕ → ℕ → List ℕ
bits_at bits t = part tile_numbers t bits

abbrev pub settings_at : List ℕ → ℕ → List ℕ
settings_at settings t = part settings_length t settings

-- a block as its tiles are read
abbrev pub tiles_of : List ℕ → ℕ → TileBits
tiles_of bits t = tile_of (bits_at bits t)

-- the settings of the largest block, 64 tiles
abbrev pub room_length : ℕ
room_length = settings_length * 64

module _ (table : List ℕ) where
  -- position k % 864 of tile k / 864 is at fault
  unfoldable pub faulty_place : (ℕ → TileBits) → ℕ → Bool
  faulty_place tile k = fault_at table (tile (k / logic_tile.positions)) (k % logic_tile.positions)

  -- the place of ground 4: the lowest such k; 864n where all of the n tiles can be decoded
  abbrev pub fault_place : (ℕ → TileBits) → ℕ → ℕ
  fault_place tile n = first (faulty_place tile) 0 (logic_tile.positions * n)

  unfoldable pub decoded_at : (ℕ → TileBits) → ℕ → List ℕ
  decoded_at tile t = decode table (tile t).bit

  -- the settings of n tiles
  abbrev pub decoded : (ℕ → TileBits) → ℕ → List ℕ
  decoded tile n = joined (decoded_at tile) n

  -- no bits have the settings of tile t
  unfoldable pub bitless_at : List ℕ → ℕ → Bool
  bitless_at settings t = not (settings_fit table (settings_at settings t))

  -- "9: settings that no bits have: lowest tile"; n where some bits have those of each of the n tiles
  abbrev pub bitless_tile : List ℕ → ℕ → ℕ
  bitless_tile settings n = first (bitless_at settings) 0 n

  unfoldable pub encoded_at : List ℕ → ℕ → List ℕ
  encoded_at settings t = encode table (settings_at settings t)

  -- the bits of n tiles
  abbrev pub encoded : List ℕ → ℕ → List ℕ
  encoded settings n = joined (encoded_at settings) n
