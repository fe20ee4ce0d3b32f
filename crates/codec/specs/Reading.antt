-- Reading a tile, sentence by sentence (document 01, 'The routing table' and 'Cells'): which bits can be read, and to which settings.
-- `proofs/` shows that `decode` and `tile_fault` compute just this.
use Rattle.std.specs.Prelude.{ℕ, suc, ◌+◌, ◌*◌, ◌<◌, ◌≤◌, ◌^◌, ◌≡◌, true, List, length, get_or}
use Rattle.digits.specs.Digits.{digit}
use Rattle.routing.specs.LogicTile.{logic_tile, lc_bits, lc_position, carry_in_set, carry_chain}
use Rattle.ports.specs.Lengths.{rows, columns, max_passives, max_groups, tile_numbers, settings_length}
use Rattle.routing.specs.Table.{field_at, passive_count, passive_at, group_count, position_at, entry_count, pattern_at}
use Rattle.routing.specs.Rules.{Claimed}
use Rattle.words.specs.Forms.{TileBits}
use Rattle.codec.specs.Bits.{bit_at, tile_of}
use Rattle.codec.specs.Settings.{field_setting, passive_setting, group_setting, cell_table, cell_flags}
use Rattle.codec.specs.Groups.{group_pattern}

-- "a set bit that nothing claims", by logic cell bits, fields, passive list or groups
abbrev pub Unclaimed : List ℕ → ℕ → Type 0
Unclaimed table p = Claimed logic_tile table p → ⊥

module _ (table : List ℕ) (bit : ℕ → ℕ) where
  -- "A group of all zeros is off. A listed pattern is one enabled switch."
  abbrev pub Off : ℕ → Type 0
  Off g = group_pattern logic_tile table bit g ≡ 0

  -- group g has the pattern of its entry e
  pub record Listed (g e : ℕ) : Type 0 where
    pub entry : e < entry_count logic_tile table g
    pub pattern : group_pattern logic_tile table bit g ≡ pattern_at logic_tile table g e

  -- "CarryInSet together with the chain switch"
  abbrev pub CarryPair : Type 0
  CarryPair = (bit (field_at table carry_in_set) ≡ 1) × (bit (field_at table carry_chain) ≡ 1)

  -- the settings that the bits read to
  pub record ReadsTo (settings : List ℕ) : Type 0 where
    pub long : length settings ≡ settings_length
    pub field : (f : ℕ) → f < logic_tile.fields → field_setting settings f ≡ bit (field_at table f)
    pub passive : (j : ℕ) → j < passive_count logic_tile table → passive_setting logic_tile settings j ≡ bit (passive_at logic_tile table j)
    pub group_off : (g : ℕ) → g < group_count logic_tile table → Off g → group_setting logic_tile settings g ≡ 0
    pub group_entry : (g e : ℕ) → g < group_count logic_tile table → Listed g e → group_setting logic_tile settings g ≡ suc e
    -- "LUT_INIT 0 to 15 are LC bits 4, 14, 15 [..]": bit j of a cell's table, and after these its four flags, LC bits 8, 9, 18 and 19
    pub cell_table_lem : (i j : ℕ) → i < 8 → j < 16 → digit (cell_table logic_tile settings i) j ≡ bit (lc_position i (get_or lc_bits j 0))
    pub cell_flags_lem : (i j : ℕ) → i < 8 → j < 4 → digit (cell_flags logic_tile settings i) j ≡ bit (lc_position i (get_or lc_bits (16 + j) 0))
    pub table_fits : (i : ℕ) → i < 8 → cell_table logic_tile settings i < 2 ^ 16
    pub flags_fit : (i : ℕ) → i < 8 → cell_flags logic_tile settings i < 2 ^ 4
    pub passive_rest : (j : ℕ) → passive_count logic_tile table ≤ j → j < max_passives → passive_setting logic_tile settings j ≡ 0
    pub group_rest : (g : ℕ) → group_count logic_tile table ≤ g → g < max_groups → group_setting logic_tile settings g ≡ 0

module _ (table : List ℕ) (tile : TileBits) where
  -- "Any other is undecodable, and so is a set bit that nothing claims, and CarryInSet together with the chain switch."
  -- A position at fault: "the group's first position for an unlisted pattern, the set bit itself for an unclaimed one, the CarryInSet
  -- position for the carry pair" (document 02, W5).
  pub data Faulty : ℕ → Type 0 where
    unlisted : (g : ℕ) → g < group_count logic_tile table → (Off table tile.bit g → ⊥) → ((e : ℕ) → Listed table tile.bit g e → ⊥) → Faulty (position_at logic_tile table g 0)
    unclaimed : (p : ℕ) → p < logic_tile.positions → Unclaimed table p → tile.bit p ≡ 1 → Faulty p
    carry_pair_lem : CarryPair table tile.bit → Faulty (field_at table carry_in_set)
    -- "4 for a set bit in columns 54 to 63, at fault as column 53 of its row" (document 02, W7), whoever claims that position
    past_columns_lem : (r : ℕ) → r < rows → tile.past r ≡ true → Faulty (columns * r + 53)

  -- no position is at fault
  abbrev pub Decodable : Type 0
  Decodable = (p : ℕ) → Faulty p → ⊥

-- some bits read to these settings: the opposite of "settings that no bits have"
pub record HasBits (table settings : List ℕ) : Type 0 where
  pub bits : List ℕ
  pub long : length bits ≡ tile_numbers
  pub decodable : Decodable table (tile_of bits)
  pub reads : ReadsTo table (bit_at bits) settings
