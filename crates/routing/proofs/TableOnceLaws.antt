-- A table that keeps the rules: no position is claimed twice, and every claimed one is in the tile. Main law: `table_once`.
-- Assumes nothing.
use mathlib.Core.Path.{◌≡◌, sym, ◌∙◌}
use mathlib.Core.Bool.{true}
use mathlib.Core.List.{List}
use Prim.Native.Nat.{ℕ, ◌/◌, ◌%◌, ◌<◌}
use native.Mathlib.Omega.{arith}
use Rattle.routing.specs.TileKind.{TileKind, CellBitsOnce, bits_per_cell}
use Rattle.routing.specs.Slots.{Once, owner_code, slots_of, slot_at, slot_used, field_slots, passive_slots, group_slot}
use Rattle.routing.specs.Rules.{TableRules}
use Rattle.routing.proofs.OwnerLaws.{claims_not, code_zero, once_of_free}
use Rattle.routing.proofs.SlotLaws.{slot_at_bit, slot_cases}
use Rattle.routing.proofs.PositionLaws.{position_free_code}

module _ (K : TileKind) (table : List ℕ) (C : CellBitsOnce K) where
  -- no cell bit is claimed before its own slot
  pub cell_free : (s : ℕ) → s < field_slots K → owner_code (slots_of K table) s (slot_at K table s) ≡ 0
  cell_free s h = code_zero (slots_of K table) s (slot_at K table s) (λ r l. claims_not (slots_of K table) (slot_at K table s) r (λ u e. other r l e))
    where
      other : (r : ℕ) → r < s → slot_at K table r ≡ slot_at K table s → ⊥
      other r l e =
          let q =
          C.differ (r / bits_per_cell) (r % bits_per_cell) (s / bits_per_cell) (s % bits_per_cell) (omega arith) (omega arith) (omega arith) (omega arith)
          (sym (slot_at_bit K table r (omega arith)) ∙ e ∙ slot_at_bit K table s h) in
          omega arith

  pub cell_below : (s : ℕ) → s < field_slots K → slot_at K table s < K.positions
  cell_below s h = omega (arith, slot_at_bit K table s h, C.within (s / bits_per_cell) (s % bits_per_cell) (omega arith) (omega arith))

  module _ (T : TableRules K table) where
    -- "and none is claimed twice"
    pub table_once : Once (slots_of K table)
    table_once = once_of_free (slots_of K table) (λ s h u. free s u)
      where
        free : (s : ℕ) → slot_used K table s ≡ true → owner_code (slots_of K table) s (slot_at K table s) ≡ 0
        free =
            slot_cases K table (λ s. owner_code (slots_of K table) s (slot_at K table s) ≡ 0) cell_free
            (λ f h. position_free_code K table (field_slots K) f (T.fields f h))
            (λ j a h. position_free_code K table (passive_slots K) j (T.passives.places j h))
            (λ g k h a l. position_free_code K table (group_slot K g) k ((T.groups g h).places k l))
