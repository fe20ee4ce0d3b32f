-- The grounds of `wire_number`, `lookup`, `bit_count`, `read` and `write` in their orders (document 01, 'Grounds for a no'), over the number of an answer
-- and what comes with it.
use Rattle.std.specs.Prelude.{ℕ, ◌<◌, ◌≡◌, List, length}
use Rattle.digits.specs.Digits.{digit}
use Rattle.ports.specs.declared.size.Size.{Size}
use Rattle.ports.specs.declared.size.Block.{Block}
use Rattle.ports.specs.Block.{Allowed, Sized, tile_count, tiles, port_of}
use Rattle.ports.specs.Lengths.{ports_per_tile, bits_length}
use Rattle.fabric.specs.Joins.{Lowest}
use Rattle.routing.specs.LogicTile.{logic_tile}
use Rattle.routing.specs.Rules.{TableRules, FirstBroken}
use Rattle.words.specs.Forms.{TileBits}
use Rattle.codec.specs.Bits.{bit_count, bit_at}
use Rattle.codec.specs.Reading.{Decodable, HasBits}
use Rattle.config.specs.Blocks.{bits_at, settings_at, tiles_of}
use Rattle.config.specs.Facts.{ExactLengths, LowestFault, LowestBitless}
use Rattle.theorem.specs.Order.{Check, Yes, at, at0}

-- each of n tiles can be decoded; some bits have the settings of each
abbrev pub AllDecodable : List ℕ → (ℕ → TileBits) → ℕ → Type 0
AllDecodable table tile n = (T : ℕ) → T < n → Decodable table (tile T)

abbrev pub AllHaveBits : (table settings : List ℕ) → ℕ → Type 0
AllHaveBits table settings n = (T : ℕ) → T < n → HasBits table (settings_at settings T)

-- "a wire number 1, 20", place "that number, a tile's first"
abbrev pub WireGrounds : Block → (tile port : ℕ) → ℕ → ℕ → Type 0
WireGrounds B tile port =
    Check 1 (Sized B) at0
    (Check 20 (tile < tiles B) (at tile)
    (Check 20 (port < ports_per_tile) (at port)
    (Yes (Lowest B (port_of tile port)))))

-- "a lookup 20"
abbrev pub LookupGrounds : (table inputs : ℕ) → ℕ → ℕ → Type 0
LookupGrounds table inputs =
    Check 20 (inputs < 16) (at inputs)
    (Yes (at (digit table inputs)))

-- "a bit count 1, 2, 20"
abbrev pub CountGrounds : Size → (bits : List ℕ) → (tile : ℕ) → ℕ → ℕ → Type 0
CountGrounds S bits tile =
    Check 1 (Allowed S) at0
    (Check 2 (length bits ≡ bits_length S) at0
    (Check 20 (tile < tile_count S) (at tile)
    (Yes (at (bit_count (bit_at (bits_at bits tile)))))))

-- "Reading bits checks 1 to 4"
abbrev pub ReadGrounds : Size → (table bits settings : List ℕ) → ℕ → ℕ → Type 0
ReadGrounds S table bits settings =
    Check 1 (Allowed S) at0
    (Check 2 (ExactLengths S (length table) (length bits) (length settings)) at0
    (Check 3 (TableRules logic_tile table) (FirstBroken logic_tile table)
    (Check 4 (AllDecodable table (tiles_of bits) (tile_count S)) (LowestFault table (tiles_of bits) (tile_count S))
    (Yes at0))))

-- "writing bits 1, 2, 3, 9"
abbrev pub WriteGrounds : Size → (table settings bits : List ℕ) → ℕ → ℕ → Type 0
WriteGrounds S table settings bits =
    Check 1 (Allowed S) at0
    (Check 2 (ExactLengths S (length table) (length bits) (length settings)) at0
    (Check 3 (TableRules logic_tile table) (FirstBroken logic_tile table)
    (Check 9 (AllHaveBits table settings (tile_count S)) (LowestBitless table settings (tile_count S))
    (Yes at0))))
