-- What the paper calls claimed is what some used slot stands at. Main law: `claimed_exact`. Assumes nothing.
use mathlib.Core.Path.{◌≡◌, sym, subst, ◌∙◌}
use mathlib.Core.Logic.{◌↔◌}
use mathlib.Core.Bool.{true}
use mathlib.Core.List.{List}
use Prim.Native.Nat.{ℕ, ◌+◌, ◌*◌, ◌/◌, ◌%◌, ◌<◌}
use native.Mathlib.Omega.{arith}
use borrow.Author.Tests.{lt-ltb}
use Rattle.routing.specs.TileKind.{TileKind, bits_per_cell}
use Rattle.ports.specs.Lengths.{max_passives, max_groups, max_positions}
use Rattle.routing.specs.Table.{passive_count, width_of}
use Rattle.routing.specs.Slots.{slot_at, slot_used, slot_count, field_slots, passive_slots, group_slot}
use Rattle.routing.specs.Rules.{TableRules, Claimed, by_cell, by_field, by_passive, by_group}
use Rattle.routing.proofs.SlotLaws.{slot_at_bit, slot_at_cell, slot_used_cell, slot_at_field, slot_used_field, slot_at_passive, slot_used_passive, slot_at_group, slot_used_group, slot_cases}

-- some used slot stands at p
pub record SlotAt (K : TileKind) (table : List ℕ) (p : ℕ) : Type 0 where
  pub slot : ℕ
  pub within : slot < slot_count K
  pub used : slot_used K table slot ≡ true
  pub at : slot_at K table slot ≡ p

module _ (K : TileKind) (table : List ℕ) (T : TableRules K table) where
  pub claimed_slot : {p : ℕ} → Claimed K table p → SlotAt K table p
  claimed_slot (by_cell i j hi hj) = record {
    slot = bits_per_cell * i + j;
    within = omega arith;
    used = slot_used_cell K table i j hi hj;
    at = slot_at_cell K table i j hi hj;
  }
  claimed_slot (by_field f h) = record { slot = field_slots K + f; within = omega arith; used = slot_used_field K table f h; at = slot_at_field K table f h }
  claimed_slot (by_passive j h) =
      let few : j < max_passives = omega (arith, T.passives.few) in
      record {
        slot = passive_slots K + j;
        within = omega arith;
        used = slot_used_passive K table j few ∙ lt-ltb j (passive_count K table) h;
        at = slot_at_passive K table j few;
      }
  claimed_slot (by_group g k hg hk) =
      let few : k < max_positions = omega (arith, (T.groups g hg).few_positions) in
      let below : g < max_groups = omega (arith, T.few_groups) in
      record {
        slot = group_slot K g + k;
        within = omega arith;
        used = slot_used_group K table g k few hg ∙ lt-ltb k (width_of K table g) hk;
        at = slot_at_group K table g k few;
      }

  slot_claimed : (s : ℕ) → slot_used K table s ≡ true → Claimed K table (slot_at K table s)
  slot_claimed =
      slot_cases K table (λ s. Claimed K table (slot_at K table s))
      (λ s h. subst (Claimed K table) (sym (slot_at_bit K table s h)) (by_cell (s / bits_per_cell) (s % bits_per_cell) (omega arith) (omega arith)))
      (λ f h. subst (Claimed K table) (sym (slot_at_field K table f h)) (by_field f h))
      (λ j few h. subst (Claimed K table) (sym (slot_at_passive K table j few)) (by_passive j h))
      (λ g k hg few hk. subst (Claimed K table) (sym (slot_at_group K table g k few)) (by_group g k hg hk))

  pub claimed_exact : (p : ℕ) → Claimed K table p ↔ SlotAt K table p
  claimed_exact p = (claimed_slot, λ s. subst (Claimed K table) s.at (slot_claimed s.slot s.used))
