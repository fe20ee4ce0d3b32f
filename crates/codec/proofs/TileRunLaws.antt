-- The runs of slots of a tile: a cell, a field, a passive position, a group. Main laws: `cell_run`, `field_run`, `passive_run`,
-- `group_run`; `field_position_lt`, `passive_position_lt`, `group_position_lt`. Assumes nothing.
use mathlib.Core.Path.{◌≡◌, ◌∙◌, subst}
use mathlib.Core.Bool.{Bool, true, false, cond}
use mathlib.Core.List.{List}
use Prim.Native.Nat.{ℕ, ◌+◌, ◌-◌, ◌*◌, ◌/◌, ◌%◌, ◌<◌, ◌≤◌}
use native.Mathlib.Omega.{arith}
use borrow.Author.Tests.{lt-ltb, le-ltb}
use lib.Dec.{ltb}
use Rattle.digits.specs.Digits.{digit}
use Rattle.routing.specs.TileKind.{bits_per_cell}
use Rattle.routing.specs.LogicTile.{logic_tile, cell_position}
use Rattle.ports.specs.Lengths.{max_passives, max_positions}
use Rattle.routing.specs.Table.{field_at, passive_count, passive_at, group_count, width_of, position_at}
use Rattle.routing.specs.Rules.{TableRules}
use Rattle.routing.specs.Slots.{slots_of, slot_at, slot_used, field_slots, passive_slots, group_slots, group_slot, slot_count}
use Rattle.routing.proofs.SlotLaws.{slot_at_cell, slot_used_cell, slot_at_field, slot_used_field, slot_at_passive, slot_used_passive, slot_at_group, slot_used_group}
use Rattle.routing.proofs.LogicTileLaws.{cell_position_lt}
use Rattle.codec.specs.Settings.{field_setting, passive_setting, group_setting, cell_table, cell_flags}
use Rattle.codec.specs.Groups.{pattern_of}
use Rattle.codec.specs.Cells.{cell_value}
use Rattle.codec.specs.Encode.{slot_value}
use Rattle.codec.proofs.RunLaws.{Run}

-- what holds of a run's only slot
one_slot : (P : ℕ → Type 0) (m k : ℕ) → k < 1 → P m → P (m + k)
one_slot P m k h x = subst P (omega arith) x

-- ---- every position is in the tile

module _ (table : List ℕ) (T : TableRules logic_tile table) where
  pub field_position_lt : (f : ℕ) → f < 3 → field_at table f < 864
  field_position_lt f h = subst (λ (p : ℕ). p < 864) (slot_at_field logic_tile table f h) (T.fields f h).below

  pub passive_position_lt : (j : ℕ) → j < passive_count logic_tile table → passive_at logic_tile table j < 864
  passive_position_lt j h =
      subst (λ (p : ℕ). p < 864) (slot_at_passive logic_tile table j (omega (arith, T.passives.few))) (T.passives.places j h).below

  pub group_position_lt : (g k : ℕ) → g < group_count logic_tile table → k < width_of logic_tile table g → position_at logic_tile table g k < 864
  group_position_lt g k h l =
      subst (λ (p : ℕ). p < 864) (slot_at_group logic_tile table g k (omega (arith, (T.groups g h).few_positions))) ((T.groups g h).places k l).below

module _ (table settings : List ℕ) where
  pub slot_value_lt : (s : ℕ) → slot_value table settings s < 2
  unfolding slot_value
  slot_value_lt s = go (ltb s (field_slots logic_tile)) (ltb s (passive_slots logic_tile)) (ltb s (group_slots logic_tile)) _ _ _ _ _ _
    where
      go : (a b c : Bool) (v w x y k l : ℕ) → cond a (digit v k) (cond b (digit w 0) (cond c (digit x 0) (digit y l))) < 2
      go true b c v w x y k l = omega arith
      go false true c v w x y k l = omega arith
      go false false true v w x y k l = omega arith
      go false false false v w x y k l = omega arith

  -- ---- what each slot holds

  value_cell : (i k : ℕ) → i < 8 → k < bits_per_cell
      → slot_value table settings (bits_per_cell * i + k) ≡ digit (cell_value (cell_table logic_tile settings i) (cell_flags logic_tile settings i)) k
  unfolding slot_value
  value_cell i k h l =
      let d : (bits_per_cell * i + k) / bits_per_cell ≡ i = omega arith in
      let e : (bits_per_cell * i + k) % bits_per_cell ≡ k = omega arith in
      rw (lt-ltb (bits_per_cell * i + k) (field_slots logic_tile) (omega arith), d, e)

  value_field : (f : ℕ) → f < 3 → slot_value table settings (field_slots logic_tile + f) ≡ digit (field_setting settings f) 0
  unfolding slot_value
  value_field f h =
      let e : field_slots logic_tile + f - field_slots logic_tile ≡ f = omega arith in
      rw (le-ltb (field_slots logic_tile + f) (field_slots logic_tile) (omega arith), lt-ltb (field_slots logic_tile + f) (passive_slots logic_tile) (omega arith), e)

  value_passive : (j : ℕ) → j < max_passives → slot_value table settings (passive_slots logic_tile + j) ≡ digit (passive_setting logic_tile settings j) 0
  unfolding slot_value
  value_passive j h =
      let e : passive_slots logic_tile + j - passive_slots logic_tile ≡ j = omega arith in
      rw (
        le-ltb (passive_slots logic_tile + j) (field_slots logic_tile) (omega arith),
        le-ltb (passive_slots logic_tile + j) (passive_slots logic_tile) (omega arith),
        lt-ltb (passive_slots logic_tile + j) (group_slots logic_tile) (omega arith),
        e,
      )

  value_group : (g k : ℕ) → k < max_positions
      → slot_value table settings (group_slot logic_tile g + k) ≡ digit (pattern_of logic_tile table g (group_setting logic_tile settings g)) k
  unfolding slot_value
  value_group g k h =
      let d : (group_slot logic_tile g + k - group_slots logic_tile) / max_positions ≡ g = omega arith in
      let e : (group_slot logic_tile g + k - group_slots logic_tile) % max_positions ≡ k = omega arith in
      rw (
        le-ltb (group_slot logic_tile g + k) (field_slots logic_tile) (omega arith),
        le-ltb (group_slot logic_tile g + k) (passive_slots logic_tile) (omega arith),
        le-ltb (group_slot logic_tile g + k) (group_slots logic_tile) (omega arith),
        d,
        e,
      )

  -- ---- the runs

  pub cell_run : (i : ℕ) → i < 8
      → Run (slots_of logic_tile table) (slot_value table settings) (bits_per_cell * i) bits_per_cell bits_per_cell (cell_position i)
      (cell_value (cell_table logic_tile settings i) (cell_flags logic_tile settings i))
  cell_run i h = record {
    within = omega arith;
    some = omega arith;
    on = λ k l. slot_used_cell logic_tile table i k h l;
    off = λ k a b. absurd (omega arith);
    stands = λ k l. slot_at_cell logic_tile table i k h l;
    in_tile = λ k l. cell_position_lt i k h l;
    holds = λ k l. value_cell i k h l;
  }

  module _ (T : TableRules logic_tile table) where
    -- a run of one slot
    single : (s p v : ℕ) → s < slot_count logic_tile → slot_used logic_tile table s ≡ true → slot_at logic_tile table s ≡ p → p < 864
        → slot_value table settings s ≡ digit v 0 → Run (slots_of logic_tile table) (slot_value table settings) s 1 1 (λ (k : ℕ). p) v
    single s p v h u at below holds = record {
      within = omega arith;
      some = omega arith;
      on = λ k l. one_slot (λ (x : ℕ). slot_used logic_tile table x ≡ true) s k l u;
      off = λ k a b. absurd (omega arith);
      stands = λ k l. one_slot (λ (x : ℕ). slot_at logic_tile table x ≡ p) s k l at;
      in_tile = λ k l. below;
      holds = λ k l. let e : 0 ≡ k = omega arith in one_slot (λ (x : ℕ). slot_value table settings x ≡ digit v k) s k l
          (subst (λ (x : ℕ). slot_value table settings s ≡ digit v x) e holds);
    }

    pub field_run : (f : ℕ) → f < 3
        → Run (slots_of logic_tile table) (slot_value table settings) (field_slots logic_tile + f) 1 1 (λ (k : ℕ). field_at table f) (field_setting settings f)
    field_run f h =
        single (field_slots logic_tile + f) (field_at table f) (field_setting settings f) (omega arith) (slot_used_field logic_tile table f h)
        (slot_at_field logic_tile table f h)
        (field_position_lt table T f h) (value_field f h)

    pub passive_run : (j : ℕ) → j < passive_count logic_tile table
        → Run (slots_of logic_tile table) (slot_value table settings) (passive_slots logic_tile + j) 1 1 (λ (k : ℕ). passive_at logic_tile table j)
        (passive_setting logic_tile settings j)
    passive_run j h =
        let few : j < max_passives = omega (arith, T.passives.few) in
        single (passive_slots logic_tile + j) (passive_at logic_tile table j) (passive_setting logic_tile settings j) (omega arith)
        (slot_used_passive logic_tile table j few ∙ lt-ltb j (passive_count logic_tile table) h) (slot_at_passive logic_tile table j few)
        (passive_position_lt table T j h) (value_passive j few)

    pub group_run : (g : ℕ) → g < group_count logic_tile table
        → Run (slots_of logic_tile table) (slot_value table settings) (group_slot logic_tile g) max_positions (width_of logic_tile table g)
        (position_at logic_tile table g)
        (pattern_of logic_tile table g (group_setting logic_tile settings g))
    group_run g h = record {
      within = omega (arith, T.few_groups);
      some = few;
      on = λ k l. slot_used_group logic_tile table g k (omega (arith, few)) h ∙ lt-ltb k (width_of logic_tile table g) l;
      off = λ k a b. slot_used_group logic_tile table g k a h ∙ le-ltb k (width_of logic_tile table g) b;
      stands = λ k l. slot_at_group logic_tile table g k (omega (arith, few));
      in_tile = λ k l. group_position_lt table T g k h l;
      holds = λ k l. value_group g k (omega (arith, few));
    }
      where
        few : width_of logic_tile table g ≤ max_positions
        few = (T.groups g h).few_positions
