-- The rules of the routing table (document 01, 'The routing table'), sentence by sentence, for a kind of tile. `proofs/TableCheckLaws.antt`
-- shows that a part passes the computed check exactly if it keeps them.
use Rattle.std.specs.Prelude.{ℕ, ◌+◌, ◌^◌, ◌<◌, ◌≤◌, ◌≡◌, ◌≢◌, true, List, length}
use Rattle.routing.specs.TileKind.{TileKind, bits_per_cell}
use Rattle.ports.specs.Lengths.{max_passives, max_groups, max_positions, max_entries, table_length}
use Rattle.routing.specs.Table.{field_at, passive_count, passive_at, group_count, destination_of, width_of, position_at, entry_count, pattern_at, source_at}
use Rattle.routing.specs.Slots.{slot_at, slot_used, field_slots, passive_slots, group_slot}

module _ (K : TileKind) (table : List ℕ) where
  -- "Positions are below 864, and none is claimed twice, by logic cell bits, fields, passive list or groups": position k of the part whose
  -- slots start at `from`, held against all that was claimed before it. `claims_exact` (proofs/ClaimsOnceLaws.antt): of all parts together this says that
  -- no two claims are of one position (`ClaimedOnce`, specs/Claims.antt), and nothing else.
  pub record PositionRules (from k : ℕ) : Type 0 where
    pub below : slot_at K table (from + k) < K.positions
    pub unclaimed : (s : ℕ) → s < from + k → slot_used K table s ≡ true → slot_at K table s ≢ slot_at K table (from + k)

  -- "claimed [..] by logic cell bits, fields, passive list or groups"
  pub data Claimed : ℕ → Type 0 where
    by_cell : (i j : ℕ) → i < K.cells → j < bits_per_cell → Claimed (K.cell_bit i j)
    by_field : (f : ℕ) → f < K.fields → Claimed (field_at table f)
    by_passive : (j : ℕ) → j < passive_count K table → Claimed (passive_at K table j)
    by_group : (g k : ℕ) → g < group_count K table → k < width_of K table g → Claimed (position_at K table g k)

  -- "three fields (positions of ..)"
  abbrev pub FieldRules : Type 0
  FieldRules = (k : ℕ) → k < K.fields → PositionRules (field_slots K) k

  -- "at most 64 passive positions"
  pub record PassiveRules : Type 0 where
    pub few : passive_count K table ≤ max_passives
    pub places : (k : ℕ) → k < passive_count K table → PositionRules (passive_slots K) k

  -- "A group has a destination, 1 to 8 positions and 1 to 32 entries of pattern and source. [..] Patterns are nonzero, fit the positions and
  -- differ within the group."
  pub record GroupRules (g : ℕ) : Type 0 where
    pub destination : K.is_destination (destination_of K table g) ≡ true
    pub some_positions : 1 ≤ width_of K table g
    pub few_positions : width_of K table g ≤ max_positions
    pub some_entries : 1 ≤ entry_count K table g
    pub few_entries : entry_count K table g ≤ max_entries
    pub nonzero : (e : ℕ) → e < entry_count K table g → pattern_at K table g e ≢ 0
    pub fits : (e : ℕ) → e < entry_count K table g → pattern_at K table g e < 2 ^ width_of K table g
    pub differ : (e f : ℕ) → e < entry_count K table g → f < entry_count K table g → pattern_at K table g e ≡ pattern_at K table g f → e ≡ f
    pub source : (e : ℕ) → e < entry_count K table g → K.is_source (source_at K table g e) ≡ true
    pub places : (k : ℕ) → k < width_of K table g → PositionRules (group_slot K g) k

  -- a table that breaks no rule; "at most 512 groups". Its length, which is ground 2's, stands with it: the rules read it within that.
  pub record TableRules : Type 0 where
    pub long : length table ≡ table_length
    pub fields : FieldRules
    pub passives : PassiveRules
    pub few_groups : group_count K table ≤ max_groups
    pub groups : (g : ℕ) → g < group_count K table → GroupRules g

  -- part i keeps its rules: 0 is the fields, 1 the passive list, 2 + g group g; there is no part past the 512 groups
  pub record PartRules (i : ℕ) : Type 0 where
    pub there : i < 2 + max_groups
    pub fields : i ≡ 0 → FieldRules
    pub passives : i ≡ 1 → PassiveRules
    pub group : (g : ℕ) → i ≡ 2 + g → GroupRules g

  -- "first of fields, passive list, groups that does [..]; a group count above 512: 514": part i of the table is the first that breaks a rule
  pub record FirstBroken (i : ℕ) : Type 0 where
    pub counted : i < 2 + group_count K table
    pub broken : PartRules i → ⊥
    pub earlier : (j : ℕ) → j < i → PartRules j
