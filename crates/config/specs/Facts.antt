-- What the grounds of `read` and `write` say, and what a yes says, sentence by sentence (document 01, 'Grounds for a no'). `LowestBitless`, ground 9,
-- serves `follow` and `step` too.
use Rattle.std.specs.Prelude.{ℕ, ◌+◌, ◌*◌, ◌<◌, ◌≡◌, List, length}
use Rattle.ports.specs.declared.size.Size.{Size}
use Rattle.ports.specs.Block.{Allowed}
use Rattle.routing.specs.LogicTile.{logic_tile}
use Rattle.ports.specs.Lengths.{table_length, bits_length, settings_total}
use Rattle.routing.specs.Rules.{TableRules, FirstBroken}
use Rattle.words.specs.Forms.{TileBits}
use Rattle.codec.specs.Reading.{Faulty, Decodable, ReadsTo, HasBits}
use Rattle.config.specs.Blocks.{settings_at}

-- "the exact length is 16 numbers a tile" (document 02, W7); "those of table, settings [..] stand in docs/": the exact lengths
pub record ExactLengths (S : Size) (table bits settings : ℕ) : Type 0 where
  pub table_long : table ≡ table_length
  pub bits_long : bits ≡ bits_length S
  pub settings_long : settings ≡ settings_total S

-- the grounds that `read` and `write` check first; `bits` and `settings` are lengths
module _ (S : Size) (table : List ℕ) (bits settings : ℕ) where
  -- "1: W or H not 1 to 8"
  abbrev pub NoSize : Type 0
  NoSize = Allowed S → ⊥

  -- "2: a lent length differs from the exact one"
  abbrev pub NoLength : Type 0
  NoLength = Allowed S × (ExactLengths S (length table) bits settings → ⊥)

  -- "3: table breaks a rule: first of fields, passive list, groups that does": part p
  abbrev pub NoTable : ℕ → Type 0
  NoTable p = Allowed S × ExactLengths S (length table) bits settings × FirstBroken logic_tile table p

  -- none of the three
  pub record Checked : Type 0 where
    pub size : Allowed S
    pub lengths : ExactLengths S (length table) bits settings
    pub rules : TableRules logic_tile table

-- "4: undecodable: lowest tile"; "Refusal 4 then has as its place 864 times the tile plus the lowest such position in that tile" (document 02, W5): tile
-- `faulty_tile` of n has a position at fault, no lower tile has one, and no lower position of that tile is at fault
pub record LowestFault (table : List ℕ) (tile : ℕ → TileBits) (n place : ℕ) : Type 0 where
  pub faulty_tile : ℕ
  pub position : ℕ
  pub is_place : place ≡ logic_tile.positions * faulty_tile + position
  pub within : faulty_tile < n
  pub faulty : Faulty table (tile faulty_tile) position
  pub lower_tile : (t : ℕ) → t < faulty_tile → Decodable table (tile t)
  pub lower_position : (p : ℕ) → p < position → Faulty table (tile faulty_tile) p → ⊥

-- "9: settings that no bits have: lowest tile"
pub record LowestBitless (table settings : List ℕ) (n t : ℕ) : Type 0 where
  pub within : t < n
  pub bitless : HasBits table (settings_at settings t) → ⊥
  pub lower : (s : ℕ) → s < t → HasBits table (settings_at settings s)

-- "Settings are read as the IceStorm tile documents and the lent routing table say": each of n tiles can be decoded and reads to its settings
pub record TilesRead (table : List ℕ) (tile : ℕ → TileBits) (settings : List ℕ) (n : ℕ) : Type 0 where
  pub decodable : (t : ℕ) → t < n → Decodable table (tile t)
  pub reads : (t : ℕ) → t < n → ReadsTo table (tile t).bit (settings_at settings t)
