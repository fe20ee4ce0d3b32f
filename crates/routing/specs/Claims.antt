-- "none is claimed twice, by logic cell bits, fields, passive list or groups", over who claims. The rules (specs/Rules.antt) say it of positions in the
-- order of their slots; `claims_exact` (proofs/ClaimsOnceLaws.antt) shows that this is the same.
use Rattle.std.specs.Prelude.{ℕ, ◌<◌, ◌≤◌, ◌≡◌, List}
use Rattle.ports.specs.Lengths.{max_passives, max_groups, max_positions}
use Rattle.routing.specs.TileKind.{TileKind, bits_per_cell}
use Rattle.routing.specs.Table.{field_at, passive_count, passive_at, group_count, width_of, position_at}
use Rattle.routing.specs.Slots.{passive_slots, group_slot}
use Rattle.routing.specs.Rules.{FieldRules, PositionRules}

-- bit j of cell i, field f, number j of the passive list, position k of group g
pub data Claim : Type 0 where
  of_cell_lem : ℕ → ℕ → Claim
  of_field : ℕ → Claim
  of_passive : ℕ → Claim
  of_group : ℕ → ℕ → Claim

module _ (K : TileKind) (table : List ℕ) where
  -- the tile or the table has it
  abbrev pub Made : Claim → Type 0
  Made (of_cell_lem i j) = (i < K.cells) × (j < bits_per_cell)
  Made (of_field f) = f < K.fields
  Made (of_passive j) = j < passive_count K table
  Made (of_group g k) = (g < group_count K table) × (k < width_of K table g)

  -- the position that it claims
  abbrev pub claimed_at : Claim → ℕ
  claimed_at (of_cell_lem i j) = K.cell_bit i j
  claimed_at (of_field f) = field_at table f
  claimed_at (of_passive j) = passive_at K table j
  claimed_at (of_group g k) = position_at K table g k

  -- "Positions are below 864, and none is claimed twice"
  pub record ClaimedOnce : Type 0 where
    pub below : (a : Claim) → Made a → claimed_at a < K.positions
    pub once : (a b : Claim) → Made a → Made b → claimed_at a ≡ claimed_at b → a ≡ b

  -- "at most 64 passive positions, at most 512 groups", at most 8 positions each
  pub record FewClaims : Type 0 where
    pub few_passives : passive_count K table ≤ max_passives
    pub few_groups : group_count K table ≤ max_groups
    pub few_positions : (g : ℕ) → g < group_count K table → width_of K table g ≤ max_positions

  -- what the rules of specs/Rules.antt ask of positions
  pub record PlaceRules : Type 0 where
    pub fields : FieldRules K table
    pub passives : (k : ℕ) → k < passive_count K table → PositionRules K table (passive_slots K) k
    pub groups : (g k : ℕ) → g < group_count K table → k < width_of K table g → PositionRules K table (group_slot K g) k
