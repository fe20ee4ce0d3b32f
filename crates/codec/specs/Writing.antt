-- A tile's bits while they are written, slot by slot: what the functions of `tile` that fill them promise each other.
use Rattle.std.specs.Prelude.{ℕ, ◌<◌, ◌≡◌, ◌≢◌, true, List, length}
use Rattle.routing.specs.LogicTile.{logic_tile}
use Rattle.routing.specs.Rules.{TableRules}
use Rattle.routing.specs.Slots.{Slots, slots_of}
use Rattle.ports.specs.Lengths.{tile_numbers, settings_length}
use Rattle.codec.specs.Bits.{bit_at, Fits}
use Rattle.codec.specs.Encode.{slot_value}
use Rattle.codec.specs.Limits.{settings_fit}

-- the first m slots hold their values, and every position that they do not claim is 0
pub record Written (S : Slots) (value : ℕ → ℕ) (m : ℕ) (bits : List ℕ) : Type 0 where
  pub long : length bits ≡ tile_numbers
  pub fits : Fits bits
  pub held : (s : ℕ) → s < m → S.used s ≡ true → bit_at bits (S.at s) ≡ value s
  pub clear : (p : ℕ) → p < logic_tile.positions → ((s : ℕ) → s < m → S.used s ≡ true → S.at s ≢ p) → bit_at bits p ≡ 0

abbrev pub TileWritten : List ℕ → List ℕ → ℕ → List ℕ → Type 0
TileWritten table settings m bits = Written (slots_of logic_tile table) (slot_value table settings) m bits

-- a table that breaks no rule, and settings that some bits have under it
pub record Writable (table settings : List ℕ) : Type 0 where
  pub rules : TableRules logic_tile table
  pub long : length settings ≡ settings_length
  pub fit : settings_fit table settings ≡ true
