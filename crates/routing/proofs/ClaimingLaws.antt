-- What claiming the parts one after another needs: each part is a run of slots (`field_run`, `passive_run`, `group_run`), and the map passes
-- over the slots that no part uses (`owned_passives`, `owned_group`, `owned_all`). Assumes nothing.
use mathlib.Core.Path.{◌≡◌, sym, ap, ◌∙◌, subst}
use mathlib.Core.Bool.{false}
use mathlib.Core.List.{List}
use Prim.Native.Nat.{ℕ, ◌+◌, ◌-◌, ◌/◌, ◌%◌, ◌<◌, ◌≤◌}
use native.Mathlib.Omega.{arith}
use native.Mathlib.Nat.{zero-add}
use borrow.Author.Tests.{lt-ltb, le-ltb}
use lib.ListN.{length, get_or, set}
use Rattle.routing.specs.TileKind.{TileKind, CellBitsOnce, bits_per_cell}
use Rattle.ports.specs.Lengths.{max_passives, max_groups, max_positions}
use Rattle.routing.specs.Table.{group_start, passive_count, group_count, width_of}
use Rattle.routing.specs.Slots.{field_slots, passive_slots, group_slots, group_slot, slot_count, slot_at, slot_used, slots_of}
use Rattle.routing.specs.Claiming.{TableOwned, SlotRun}
use Rattle.routing.proofs.OwnerLaws.{owned_claim, owned_skips}
use Rattle.routing.proofs.SlotLaws.{slot_at_bit, slot_used_bit, slot_at_field, slot_used_field, slot_at_passive, slot_used_passive, slot_unused_passive, slot_at_group, slot_used_group, slot_unused_group}
use Rattle.routing.proofs.TableOnceLaws.{cell_free, cell_below}

module _ (K : TileKind) (table : List ℕ) where
  -- ---- the cells

  -- a cell's bit always finds its position free
  pub cell_claimed : CellBitsOnce K → (s p : ℕ) (own : List ℕ) → TableOwned K table s own → s < field_slots K
      → p ≡ K.cell_bit (s / bits_per_cell) (s % bits_per_cell) → TableOwned K table (s + 1) (set own p (s + 1))
  cell_claimed C s p own O h e =
      let l = cell_below K table C s h in
      subst (λ (x : ℕ). TableOwned K table (s + 1) (set own x (s + 1))) (slot_at_bit K table s h ∙ sym e)
      (owned_claim K.positions (slots_of K table) s own O (slot_used_bit K table s h) l (O.map_at (slot_at K table s) l ∙ cell_free K table C s h))

  -- ---- the parts as runs

  module _ (long : group_start K max_groups ≤ length table) where
    pub field_run : SlotRun K table 0 K.fields (field_slots K)
    field_run = record {
      in_table = omega arith;
      in_slots = omega arith;
      run_used = slot_used_field K table;
      run_at = λ k l. slot_at_field K table k l ∙ ap (λ (x : ℕ). get_or table x 0) (sym (zero-add k));
    }

    pub passive_run : (n : ℕ) → n ≡ passive_count K table → n ≤ max_passives → SlotRun K table (K.fields + 1) n (passive_slots K)
    passive_run n e h = record {
      in_table = omega arith;
      in_slots = omega arith;
      run_used = λ k l. slot_used_passive K table k (omega arith) ∙ lt-ltb k (passive_count K table) (omega arith);
      run_at = λ k l. slot_at_passive K table k (omega arith);
    }

    pub group_run : (g w start : ℕ) → g < group_count K table → g < max_groups → w ≡ width_of K table g → w ≤ max_positions → start ≡ group_start K g + 2
        → SlotRun K table start w (group_slot K g)
    group_run g w start h m e v s = record {
      in_table = omega arith;
      in_slots = omega arith;
      run_used = λ k l. slot_used_group K table g k (omega arith) h ∙ lt-ltb k (width_of K table g) (omega arith);
      run_at = λ k l. slot_at_group K table g k (omega arith) ∙ ap (λ (x : ℕ). get_or table (x + k) 0) (sym s);
    }

  -- ---- the map between the parts

  -- a map of m slots, of which those from n on are not used
  owned_moved : (n m : ℕ) (own : List ℕ) → n ≤ m → ((s : ℕ) → n ≤ s → s < m → slot_used K table s ≡ false) → TableOwned K table n own → TableOwned K table m own
  owned_moved n m own h off O =
      subst (λ (x : ℕ). TableOwned K table x own) (let e : n + (m - n) ≡ m = omega arith in e)
      (owned_skips K.positions (slots_of K table) n (m - n) own (λ s a b. off s a (omega arith)) O)

  pub owned_passives : (n : ℕ) (own : List ℕ) → n ≡ passive_count K table → n ≤ max_passives → TableOwned K table (passive_slots K + n) own
      → TableOwned K table (group_slots K) own
  owned_passives n own e h = owned_moved (passive_slots K + n) (group_slots K) own (omega arith) (λ s a b. slot_unused_passive K table s (omega arith) b)

  pub owned_group : (g w : ℕ) (own : List ℕ) → g < group_count K table → w ≡ width_of K table g → w ≤ max_positions
      → TableOwned K table (group_slot K g + w) own → TableOwned K table (group_slot K (g + 1)) own
  owned_group g w own h e v =
      owned_moved (group_slot K g + w) (group_slot K (g + 1)) own (omega arith)
      (λ s a b. subst (λ (x : ℕ). slot_used K table x ≡ false) (let q : group_slot K g + (s - group_slot K g) ≡ s = omega arith in q)
      (slot_used_group K table g (s - group_slot K g) (omega arith) h ∙ le-ltb (s - group_slot K g) (width_of K table g) (omega arith)))

  pub owned_all : (g : ℕ) (own : List ℕ) → g ≡ group_count K table → g ≤ max_groups → TableOwned K table (group_slot K g) own
      → TableOwned K table (slot_count K) own
  owned_all g own e h = owned_moved (group_slot K g) (slot_count K) own (omega arith) (λ s a b. slot_unused_group K table s (omega arith))
