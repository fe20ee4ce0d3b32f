-- Which slot is whose: a cell's bit, a field, a passive position, a group's position. Main laws: `slot_at_cell`, `-field`, `-passive`,
-- `-group`; `slot-used-..`; `slot_cases`: what holds of each kind of slot holds of every used one. Assumes nothing.
use mathlib.Core.Path.{◌≡◌, ◌∙◌, subst}
use mathlib.Core.Logic.{⊎_elim}
use mathlib.Core.Bool.{true, false}
use mathlib.Core.List.{List}
use Prim.Native.Nat.{ℕ, ◌+◌, ◌-◌, ◌*◌, ◌/◌, ◌%◌, ◌<◌, ◌≤◌}
use native.Mathlib.Omega.{arith}
use borrow.Author.Tests.{lt-ltb, le-ltb, ltb-true}
use lib.Dec.{ltb}
use Rattle.lists.proofs.CaseLaws.{cond_true, lt_or_le}
use Rattle.routing.specs.TileKind.{TileKind, bits_per_cell}
use Rattle.ports.specs.Lengths.{max_passives, max_positions}
use Rattle.routing.specs.Table.{field_at, passive_count, passive_at, group_count, width_of, position_at}
use Rattle.routing.specs.Slots.{field_slots, passive_slots, group_slots, group_slot, slot_at, slot_used}

module _ (K : TileKind) (table : List ℕ) where
  -- ---- the cells

  pub slot_at_bit : (s : ℕ) → s < field_slots K → slot_at K table s ≡ K.cell_bit (s / bits_per_cell) (s % bits_per_cell)
  unfolding slot_at
  slot_at_bit s h = rw (lt-ltb s (field_slots K) h)

  pub slot_used_bit : (s : ℕ) → s < field_slots K → slot_used K table s ≡ true
  unfolding slot_used
  slot_used_bit s h = rw (lt-ltb s (passive_slots K) (omega arith))

  module _ (i j : ℕ) (hi : i < K.cells) (hj : j < bits_per_cell) where
    cell_slot_lt : bits_per_cell * i + j < field_slots K
    cell_slot_lt = omega arith

    pub slot_at_cell : slot_at K table (bits_per_cell * i + j) ≡ K.cell_bit i j
    slot_at_cell =
        let d : (bits_per_cell * i + j) / bits_per_cell ≡ i = omega arith in
        let m : (bits_per_cell * i + j) % bits_per_cell ≡ j = omega arith in
        slot_at_bit (bits_per_cell * i + j) cell_slot_lt ∙ rw (d, m)

    pub slot_used_cell : slot_used K table (bits_per_cell * i + j) ≡ true
    slot_used_cell = slot_used_bit (bits_per_cell * i + j) cell_slot_lt

  -- ---- the fields

  module _ (f : ℕ) (h : f < K.fields) where
    pub slot_at_field : slot_at K table (field_slots K + f) ≡ field_at table f
    unfolding slot_at
    slot_at_field =
        let e : field_slots K + f - field_slots K ≡ f = omega arith in
        rw (le-ltb (field_slots K + f) (field_slots K) (omega arith), lt-ltb (field_slots K + f) (passive_slots K) (omega arith), e)

    pub slot_used_field : slot_used K table (field_slots K + f) ≡ true
    unfolding slot_used
    slot_used_field = rw (lt-ltb (field_slots K + f) (passive_slots K) (omega arith))

  -- ---- the passive list

  module _ (j : ℕ) (h : j < max_passives) where
    pub slot_at_passive : slot_at K table (passive_slots K + j) ≡ passive_at K table j
    unfolding slot_at
    slot_at_passive =
        let e : passive_slots K + j - passive_slots K ≡ j = omega arith in
        rw (
          le-ltb (passive_slots K + j) (field_slots K) (omega arith),
          le-ltb (passive_slots K + j) (passive_slots K) (omega arith),
          lt-ltb (passive_slots K + j) (group_slots K) (omega arith),
          e,
        )

    pub slot_used_passive : slot_used K table (passive_slots K + j) ≡ ltb j (passive_count K table)
    unfolding slot_used
    slot_used_passive =
        let e : passive_slots K + j - passive_slots K ≡ j = omega arith in
        rw (le-ltb (passive_slots K + j) (passive_slots K) (omega arith), lt-ltb (passive_slots K + j) (group_slots K) (omega arith), e)

  -- the slots past the list's count
  pub slot_unused_passive : (s : ℕ) → passive_slots K + passive_count K table ≤ s → s < group_slots K → slot_used K table s ≡ false
  unfolding slot_used
  slot_unused_passive s a b =
      rw (le-ltb s (passive_slots K) (omega arith), lt-ltb s (group_slots K) b, le-ltb (s - passive_slots K) (passive_count K table) (omega arith))

  -- ---- the groups

  module _ (g k : ℕ) (h : k < max_positions) where
    group_div : (group_slot K g + k - group_slots K) / max_positions ≡ g
    group_div = omega arith

    group_mod : (group_slot K g + k - group_slots K) % max_positions ≡ k
    group_mod = omega arith

    pub slot_at_group : slot_at K table (group_slot K g + k) ≡ position_at K table g k
    unfolding slot_at
    slot_at_group =
        rw (
          le-ltb (group_slot K g + k) (field_slots K) (omega arith),
          le-ltb (group_slot K g + k) (passive_slots K) (omega arith),
          le-ltb (group_slot K g + k) (group_slots K) (omega arith),
          group_div,
          group_mod,
        )

    pub slot_used_group : g < group_count K table → slot_used K table (group_slot K g + k) ≡ ltb k (width_of K table g)
    unfolding slot_used
    slot_used_group l =
        rw (
          le-ltb (group_slot K g + k) (passive_slots K) (omega arith),
          le-ltb (group_slot K g + k) (group_slots K) (omega arith),
          group_div,
          group_mod,
          lt-ltb g (group_count K table) l,
        )

  -- the slots past the last group
  pub slot_unused_group : (s : ℕ) → group_slot K (group_count K table) ≤ s → slot_used K table s ≡ false
  unfolding slot_used
  slot_unused_group s a =
      rw (
        le-ltb s (passive_slots K) (omega arith),
        le-ltb s (group_slots K) (omega arith),
        le-ltb ((s - group_slots K) / max_positions) (group_count K table) (omega arith),
      )

  -- ---- every used slot is one of these

  used_passive : (s : ℕ) → passive_slots K ≤ s → s < group_slots K → slot_used K table s ≡ true → s - passive_slots K < passive_count K table
  unfolding slot_used
  used_passive s a b u = ltb-true (s - passive_slots K) (passive_count K table) (rw (le-ltb s (passive_slots K) a, lt-ltb s (group_slots K) b) at u)

  used_group : (s : ℕ) → group_slots K ≤ s → slot_used K table s ≡ true
      → ((s - group_slots K) / max_positions < group_count K table) × ((s - group_slots K) % max_positions < width_of K table ((s - group_slots K) / max_positions))
  unfolding slot_used
  used_group s a u =
      let p =
      cond_true (ltb ((s - group_slots K) / max_positions) (group_count K table)) _ (rw (le-ltb s (passive_slots K) (omega arith), le-ltb s (group_slots K) a) at u) in
      (ltb-true _ _ p.0, ltb-true _ _ p.1)

  pub slot_cases : (P : ℕ → Type 0)
      → ((s : ℕ) → s < field_slots K → P s)
      → ((f : ℕ) → f < K.fields → P (field_slots K + f))
      → ((j : ℕ) → j < max_passives → j < passive_count K table → P (passive_slots K + j))
      → ((g k : ℕ) → g < group_count K table → k < max_positions → k < width_of K table g → P (group_slot K g + k))
      → (s : ℕ) → slot_used K table s ≡ true → P s
  slot_cases P cell field passive group s u =
      ⊎_elim
      (cell s)
      (λ (a : field_slots K ≤ s). ⊎_elim
      (λ (b : s < passive_slots K). subst P (omega arith) (field (s - field_slots K) (omega arith)))
      (λ (b : passive_slots K ≤ s). ⊎_elim
      (λ (d : s < group_slots K). subst P (omega arith) (passive (s - passive_slots K) (omega arith) (used_passive s b d u)))
      (λ (d : group_slots K ≤ s). let p = used_group s d u in
      subst P (omega arith) (group ((s - group_slots K) / max_positions) ((s - group_slots K) % max_positions) p.0 (omega arith) p.1))
      (lt_or_le s (group_slots K))) (lt_or_le s (passive_slots K))) (lt_or_le s (field_slots K))
