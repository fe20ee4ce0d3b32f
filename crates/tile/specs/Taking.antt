-- A tile's settings while its set bits are taken one after another, in any order: each bit goes to the setting that it belongs to, and a group's
-- setting gathers the group's pattern, which is looked up when all bits are taken. What the functions that take them promise each other.
use Rattle.codec.specs.Bits.{unit, bit_at, tile_of}
use Rattle.std.specs.Prelude.{ℕ, ◌+◌, ◌*◌, ◌^◌, ◌<◌, ◌≤◌, ◌≡◌, ◌≢◌, true, List, length, get_or}
use Rattle.digits.specs.Digits.{digit}
use Rattle.routing.specs.LogicTile.{logic_tile}
use Rattle.routing.specs.Table.{group_count, width_of, position_at}
use Rattle.ports.specs.Lengths.{max_groups, max_positions, settings_length}
use Rattle.routing.specs.Slots.{slots_of, owner, field_slots, group_slot, slot_count}
use Rattle.codec.specs.Settings.{groups_from, group_setting}
use Rattle.codec.specs.Groups.{setting_of_pattern}
use Rattle.codec.specs.Fault.{is_unlisted}
use Rattle.codec.specs.Decode.{setting_at}
use Rattle.codec.specs.Reading.{Decodable}
use Rattle.codec.specs.declared.groups.GroupRead.TheVariants.{Setting}

-- group g of the table has a position k, and the bit there is set
pub record GroupBit (table bits : List ℕ) (g k : ℕ) : Type 0 where
  pub group : g < group_count logic_tile table
  pub narrow : k < width_of logic_tile table g
  pub one : bit_at bits (position_at logic_tile table g k) ≡ 1

-- what is gathered is right: a field or a passive bit that is not 0 is what the bits read to, and a set digit of a group's number is a set bit of that
-- group
pub record Gathered (table bits settings : List ℕ) : Type 0 where
  pub long : length settings ≡ settings_length
  pub single : (n : ℕ) → n < groups_from logic_tile → get_or settings n 0 ≢ 0 → get_or settings n 0 ≡ setting_at table (bit_at bits) n
  pub small : (g : ℕ) → g < max_groups → group_setting logic_tile settings g < 2 ^ max_positions
  pub group : (g k : ℕ) → g < max_groups → digit (group_setting logic_tile settings g) k ≡ 1 → GroupBit table bits g k

-- settings that have gathered all that those before had
pub record Learned (table bits before after : List ℕ) : Type 0 where
  pub gathered : Gathered table bits after
  pub kept : (n : ℕ) → n < groups_from logic_tile → get_or before n 0 ≢ 0 → get_or after n 0 ≢ 0
  pub grown : (g k : ℕ) → digit (group_setting logic_tile before g) k ≡ 1 → digit (group_setting logic_tile after g) k ≡ 1

-- the set bit at p is taken: something claims it, and the field, the passive bit or the group that it belongs to has it
pub record Taken (table settings : List ℕ) (p : ℕ) : Type 0 where
  pub claimed : owner (slots_of logic_tile table) p < slot_count logic_tile
  pub single : (n : ℕ) → owner (slots_of logic_tile table) p ≡ field_slots logic_tile + n → n < groups_from logic_tile → get_or settings n 0 ≢ 0
  pub group : (g k : ℕ) → owner (slots_of logic_tile table) p ≡ group_slot logic_tile g + k → k < max_positions
      → digit (group_setting logic_tile settings g) k ≡ 1

-- row i has nothing past its columns, and its set bits are taken
pub record TakenRow (table bits settings : List ℕ) (i : ℕ) : Type 0 where
  pub fits : get_or bits i 0 < 2 ^ unit
  pub taken : (k : ℕ) → k < unit → digit (get_or bits i 0) k ≡ 1 → Taken table settings (unit * i + k)

-- what is left of a row without its cell's columns, 36 to 45 (document 01, 'Cells'): all its other digits
pub record WithoutCell (row left : ℕ) : Type 0 where
  pub cell : (k : ℕ) → 36 ≤ k → k < 46 → digit left k ≡ 0
  pub below : (k : ℕ) → k < 36 → digit left k ≡ digit row k
  pub above : (k : ℕ) → 46 ≤ k → digit left k ≡ digit row k

-- what a set bit shows that cannot be taken
abbrev pub Undecodable : List ℕ → List ℕ → Type 0
Undecodable table bits = Decodable table (tile_of bits) → ⊥

-- the first m groups have, for the pattern that stood there before, the setting that the table gives it; all else is as before
pub record Found (table : List ℕ) (m : ℕ) (before after : List ℕ) : Type 0 where
  pub long : length after ≡ length before
  pub group : (g : ℕ) → g < m → setting_of_pattern logic_tile table g (group_setting logic_tile before g) ≡ Setting (group_setting logic_tile after g)
  pub below : (n : ℕ) → n < groups_from logic_tile → get_or after n 0 ≡ get_or before n 0
  pub past : (g : ℕ) → m ≤ g → group_setting logic_tile after g ≡ group_setting logic_tile before g

-- a group whose pattern the table does not list
pub record Unfound (table before : List ℕ) : Type 0 where
  pub at : ℕ
  pub within : at < group_count logic_tile table
  pub none : is_unlisted (setting_of_pattern logic_tile table at (group_setting logic_tile before at)) ≡ true
