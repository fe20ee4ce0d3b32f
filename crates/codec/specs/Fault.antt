-- Ground 4 for one tile, computed: the lowest position at fault.
use Rattle.std.specs.Prelude.{ℕ, ◌+◌, ◌-◌, ◌/◌, ◌%◌, Bool, true, false, cond, ◌&&◌, ◌||◌, List, eqb, ltb}
use Rattle.lists.specs.Search.{first}
use Rattle.routing.specs.LogicTile.{logic_tile, carry_in_set, carry_chain}
use Rattle.ports.specs.Lengths.{columns, max_positions}
use Rattle.routing.specs.Table.{field_at}
use Rattle.routing.specs.Slots.{slots_of, owner, field_slots, group_slots, slot_count}
use Rattle.words.specs.Forms.{TileBits}
use Rattle.codec.specs.Bits.{is_set_at}
use Rattle.codec.specs.Groups.{read_group}
use Rattle.codec.specs.declared.groups.GroupRead.{GroupRead}
use Rattle.codec.specs.declared.groups.GroupRead.TheVariants.{Setting, Unlisted}

abbrev pub is_unlisted : GroupRead → Bool
is_unlisted (Setting s) = false
is_unlisted (Unlisted first) = true

-- reading a group says that position p is at fault
abbrev pub points_to : ℕ → GroupRead → Bool
points_to p (Setting s) = false
points_to p (Unlisted first) = eqb first p

unfoldable pub carry_pair : List ℕ → (ℕ → ℕ) → Bool
carry_pair table bit = is_set_at bit (field_at table carry_in_set) && is_set_at bit (field_at table carry_chain)

-- p is column 53 of a row that has a set bit past it
unfoldable pub past_at : TileBits → ℕ → Bool
past_at tile p = eqb (p % columns) 53 && tile.past (p / columns)

module _ (table : List ℕ) (tile : TileBits) where
  -- position p is at fault, where slot s claims it: the CarryInSet field, if the chain switch is set too; a group's position, if reading the group
  -- says so; no other claimed position; and one that nothing claims, if it is set
  unfoldable pub slot_fault : ℕ → ℕ → Bool
  slot_fault p s =
      cond (eqb s (field_slots logic_tile + carry_in_set)) (carry_pair table tile.bit)
      (cond (ltb s (group_slots logic_tile)) false
      (cond (ltb s (slot_count logic_tile)) (points_to p (read_group logic_tile table tile.bit ((s - group_slots logic_tile) / max_positions)))
      (is_set_at tile.bit p)))

  unfoldable pub owned_fault : ℕ → Bool
  owned_fault p = slot_fault p (owner (slots_of logic_tile table) p)

  -- position p is at fault for what is past its row's columns, or by what claims it
  unfoldable pub fault_at : ℕ → Bool
  fault_at p = past_at tile p || owned_fault p

  -- the lowest position at fault; 864 where there is none
  abbrev pub tile_fault : ℕ
  tile_fault = first fault_at 0 logic_tile.positions
