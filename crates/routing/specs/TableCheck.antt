-- Ground 3, computed: "table breaks a rule: first of fields, passive list, groups that does, alone or with earlier ones, from 0; a group
-- count above 512: 514".
use Rattle.std.specs.Prelude.{Option, ℕ, ◌+◌, ◌-◌, ◌^◌, Bool, false, cond, not, ◌&&◌, List, eqb, ltb, leb}
use Rattle.lists.specs.Search.{first, all_from, below}
use Rattle.routing.specs.TileKind.{TileKind}
use Rattle.ports.specs.Lengths.{max_passives, max_groups, max_positions, max_entries}
use Rattle.routing.specs.Table.{passive_count, group_count, destination_of, width_of, entry_count, pattern_at, source_at, entry_of}
use Rattle.routing.specs.Slots.{slots_of, slot_at, owner_code, field_slots, passive_slots, group_slot}

module _ (K : TileKind) (table : List ℕ) where
  -- position k of the part whose slots start at `from` is in the tile, and no slot before it claims it
  unfoldable pub position_ok : ℕ → ℕ → Bool
  position_ok from k = ltb (slot_at K table (from + k)) K.positions && eqb (owner_code (slots_of K table) (from + k) (slot_at K table (from + k))) 0

  -- entry e of group g: its pattern is not zero, fits the positions and is no earlier entry's; its source is one
  unfoldable pub entry_ok : ℕ → ℕ → Bool
  entry_ok g e =
      not (eqb (pattern_at K table g e) 0)
      && (ltb (pattern_at K table g e) (2 ^ width_of K table g)
      && (eqb (entry_of K table g (pattern_at K table g e)) e && K.is_source (source_at K table g e)))

  -- what is asked of group g by itself
  unfoldable pub group_alone_ok : ℕ → Bool
  group_alone_ok g =
      K.is_destination (destination_of K table g)
      && ((leb 1 (width_of K table g) && leb (width_of K table g) max_positions)
      && ((leb 1 (entry_count K table g) && leb (entry_count K table g) max_entries) && all_from (entry_ok g) 0 (entry_count K table g)))

  unfoldable pub fields_ok : Bool
  fields_ok = all_from (position_ok (field_slots K)) 0 K.fields

  unfoldable pub passives_ok : Bool
  passives_ok = leb (passive_count K table) max_passives && all_from (position_ok (passive_slots K)) 0 (passive_count K table)

  unfoldable pub group_ok : ℕ → Bool
  group_ok g = group_alone_ok g && all_from (position_ok (group_slot K g)) 0 (width_of K table g)

  -- the parts: 0 the fields, 1 the passive list, 2 + g group g; there is no part 514, so a group count above 512 breaks a rule there
  unfoldable pub part_ok : ℕ → Bool
  part_ok i = cond (eqb i 0) fields_ok (cond (eqb i 1) passives_ok (cond (ltb i (2 + max_groups)) (group_ok (i - 2)) false))

  abbrev pub breaks : ℕ → Bool
  breaks i = not (part_ok i)

  abbrev pub part_count : ℕ
  part_count = 2 + group_count K table

  -- the first part that breaks a rule; the number of parts where none does
  abbrev pub faulty_part : ℕ
  faulty_part = first breaks 0 part_count

  -- that part, where there is one
  abbrev pub broken_part : Option ℕ
  broken_part = below part_count faulty_part

  abbrev pub table_ok : Bool
  table_ok = eqb faulty_part part_count
