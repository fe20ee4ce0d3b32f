-- Every claim on a position, by logic cell bits, fields, passive list or groups, is a slot of one sequence, in this order. So 'claimed
-- twice', who owns a position, writing and reading are each said once.
--   claims == slot s claims position p        Once == no position is claimed twice
--   owner_in == the first slot that claims p   Owned == a map of positions to their slots
--   slots_of == the slots of a tile's table
use Rattle.std.specs.Prelude.{ℕ, ◌+◌, ◌-◌, ◌*◌, ◌/◌, ◌%◌, ◌<◌, ◌≡◌, Bool, true, false, cond, List, eqb, ltb, length, get_or}
use Rattle.lists.specs.Search.{first}
use Rattle.routing.specs.TileKind.{TileKind, bits_per_cell}
use Rattle.ports.specs.Lengths.{max_passives, max_groups, max_positions}
use Rattle.routing.specs.Table.{field_at, passive_count, passive_at, group_count, width_of, position_at}

-- slot s, where it is used, claims the position `at s`
pub record Slots : Type 0 where
  pub count : ℕ
  pub used : ℕ → Bool
  pub at : ℕ → ℕ

abbrev pub claims : Slots → ℕ → ℕ → Bool
claims S p s = cond (S.used s) (eqb (S.at s) p) false

-- the first of the m first slots that claims p; m where none does
abbrev pub owner_in : Slots → ℕ → ℕ → ℕ
owner_in S m p = first (claims S p) 0 m

abbrev pub owner : Slots → ℕ → ℕ
owner S p = owner_in S S.count p

abbrev pub Once : Slots → Type 0
Once S = (s r : ℕ) → s < S.count → r < S.count → S.used s ≡ true → S.used r ≡ true → S.at s ≡ S.at r → s ≡ r

-- an ownership map: at position p one more than the slot that claims it, 0 where none of the m first slots does
abbrev pub owner_code : Slots → ℕ → ℕ → ℕ
owner_code S m p = cond (ltb (owner_in S m p) m) (owner_in S m p + 1) 0

pub record Owned (positions : ℕ) (S : Slots) (m : ℕ) (own : List ℕ) : Type 0 where
  pub map_long : length own ≡ positions
  pub map_at : (p : ℕ) → p < positions → get_or own p 0 ≡ owner_code S m p

-- ---- the slots of a tile: those of the cells, of the fields, 64 of the passive list, 8 for each of 512 groups

module _ (K : TileKind) where
  -- where the slots of the fields, of the passive list, of the groups and of group g begin, and how many slots there are
  abbrev pub field_slots : ℕ
  field_slots = bits_per_cell * K.cells

  abbrev pub passive_slots : ℕ
  passive_slots = field_slots + K.fields

  abbrev pub group_slots : ℕ
  group_slots = passive_slots + max_passives

  abbrev pub group_slot : ℕ → ℕ
  group_slot g = group_slots + max_positions * g

  abbrev pub slot_count : ℕ
  slot_count = group_slot max_groups

  -- the position that slot s stands at: a cell's bit, a field, a passive position or a group's position
  unfoldable pub slot_at : List ℕ → ℕ → ℕ
  slot_at table s =
      cond (ltb s field_slots) (K.cell_bit (s / bits_per_cell) (s % bits_per_cell))
      (cond (ltb s passive_slots) (field_at table (s - field_slots))
      (cond (ltb s group_slots) (passive_at K table (s - passive_slots))
      (position_at K table ((s - group_slots) / max_positions) ((s - group_slots) % max_positions))))

  -- whether slot s claims it: cells and fields always do, the others as far as the table's counts go
  unfoldable pub slot_used : List ℕ → ℕ → Bool
  slot_used table s =
      cond (ltb s passive_slots) true
      (cond (ltb s group_slots) (ltb (s - passive_slots) (passive_count K table))
      (cond (ltb ((s - group_slots) / max_positions) (group_count K table))
      (ltb ((s - group_slots) % max_positions) (width_of K table ((s - group_slots) / max_positions)))
      false))

  abbrev pub slots_of : List ℕ → Slots
  slots_of table = record { count = slot_count; used = slot_used table; at = slot_at table }
