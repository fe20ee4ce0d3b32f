-- "None is claimed twice", over slots and over who claims: the same. Main laws: `claims_exact`, `table_claimed_once`. Assumes nothing.
use mathlib.Core.Path.{◌≡◌, refl, sym, ap, ◌∙◌}
use mathlib.Core.Logic.{◌↔◌}
use mathlib.Core.Bool.{true}
use mathlib.Core.List.{List}
use Prim.Native.Nat.{ℕ, ◌+◌, ◌*◌, ◌/◌, ◌%◌, ◌<◌}
use native.Mathlib.Omega.{arith}
use borrow.Author.Tests.{lt-ltb}
use Rattle.ports.specs.Lengths.{max_passives, max_groups, max_positions}
use Rattle.routing.specs.TileKind.{TileKind, CellBitsOnce, bits_per_cell}
use Rattle.routing.specs.Table.{passive_count, width_of}
use Rattle.routing.specs.Slots.{Once, owner_code, slots_of, slot_at, slot_used, slot_count, field_slots, passive_slots, group_slot}
use Rattle.routing.specs.Rules.{PositionRules, TableRules}
use Rattle.routing.specs.Claims.{Claim, of_cell_lem, of_field, of_passive, of_group, Made, claimed_at, ClaimedOnce, FewClaims, PlaceRules}
use Rattle.routing.proofs.OwnerLaws.{once_of_free}
use Rattle.routing.proofs.SlotLaws.{slot_at_cell, slot_used_cell, slot_at_field, slot_used_field, slot_at_passive, slot_used_passive, slot_at_group, slot_used_group, slot_cases}
use Rattle.routing.proofs.PositionLaws.{position_free_code}
use Rattle.routing.proofs.TableOnceLaws.{cell_free}

module _ (K : TileKind) (table : List ℕ) (few : FewClaims K table) where
  -- ---- the slot of a claim

  abbrev slot_of : Claim → ℕ
  slot_of (of_cell_lem i j) = bits_per_cell * i + j
  slot_of (of_field f) = field_slots K + f
  slot_of (of_passive j) = passive_slots K + j
  slot_of (of_group g k) = group_slot K g + k

  record Stands (a : Claim) : Type 0 where
    within : slot_of a < slot_count K
    used : slot_used K table (slot_of a) ≡ true
    at : slot_at K table (slot_of a) ≡ claimed_at K table a

  stands : (a : Claim) → Made K table a → Stands a
  stands (of_cell_lem i j) m = record {
    within = let li = m.0 in let lj = m.1 in omega arith;
    used = slot_used_cell K table i j m.0 m.1;
    at = slot_at_cell K table i j m.0 m.1;
  }
  stands (of_field f) m = record { within = omega arith; used = slot_used_field K table f m; at = slot_at_field K table f m }
  stands (of_passive j) m =
      let l : j < max_passives = omega (arith, few.few_passives) in
      record {
        within = omega arith;
        used = slot_used_passive K table j l ∙ lt-ltb j (passive_count K table) m;
        at = slot_at_passive K table j l;
      }
  stands (of_group g k) m =
      let lk : k < max_positions = omega (arith, few.few_positions g m.0, m.1) in
      let lg : g < max_groups = omega (arith, few.few_groups, m.0) in
      record {
        within = omega arith;
        used = slot_used_group K table g k lk m.0 ∙ lt-ltb k (width_of K table g) m.1;
        at = slot_at_group K table g k lk;
      }

  -- one slot, one claim
  same_claim : (a b : Claim) → Made K table a → Made K table b → slot_of a ≡ slot_of b → a ≡ b
  same_claim (of_cell_lem i j) (of_cell_lem k l) m n e =
      let lj = m.1 in
      let ll = n.1 in
      let p : i ≡ k = omega arith in
      let q : j ≡ l = omega arith in
      rw (p, q)
  same_claim (of_cell_lem i j) (of_field f) m n e = let li = m.0 in let lj = m.1 in absurd (omega arith)
  same_claim (of_cell_lem i j) (of_passive f) m n e = let li = m.0 in let lj = m.1 in absurd (omega arith)
  same_claim (of_cell_lem i j) (of_group g k) m n e = let li = m.0 in let lj = m.1 in absurd (omega arith)
  same_claim (of_field f) (of_cell_lem i j) m n e = let li = n.0 in let lj = n.1 in absurd (omega arith)
  same_claim (of_field f) (of_field g) m n e = let p : f ≡ g = omega arith in rw p
  same_claim (of_field f) (of_passive j) m n e = absurd (omega arith)
  same_claim (of_field f) (of_group g k) m n e = absurd (omega arith)
  same_claim (of_passive j) (of_cell_lem i k) m n e = let li = n.0 in let lj = n.1 in absurd (omega arith)
  same_claim (of_passive j) (of_field f) m n e = absurd (omega arith)
  same_claim (of_passive j) (of_passive k) m n e = let p : j ≡ k = omega arith in rw p
  same_claim (of_passive j) (of_group g k) m n e = let l = few.few_passives in absurd (omega arith)
  same_claim (of_group g k) (of_cell_lem i j) m n e = let li = n.0 in let lj = n.1 in absurd (omega arith)
  same_claim (of_group g k) (of_field f) m n e = absurd (omega arith)
  same_claim (of_group g k) (of_passive j) m n e = let l = few.few_passives in absurd (omega arith)
  same_claim (of_group g k) (of_group f l) m n e =
      let lk : k < max_positions = omega (arith, few.few_positions g m.0, m.1) in
      let ll : l < max_positions = omega (arith, few.few_positions f n.0, n.1) in
      let p : g ≡ f = omega arith in
      let q : k ≡ l = omega arith in
      rw (p, q)

  -- a used slot is that of a claim
  claim_of : (s : ℕ) → slot_used K table s ≡ true → (a : Claim) × Made K table a × (slot_of a ≡ s)
  claim_of =
      slot_cases K table (λ s. (a : Claim) × Made K table a × (slot_of a ≡ s))
      (λ s h. (of_cell_lem (s / bits_per_cell) (s % bits_per_cell), (omega arith, omega arith), omega arith))
      (λ f h. (of_field f, h, refl))
      (λ j l h. (of_passive j, h, refl))
      (λ g k h l u. (of_group g k, (h, u), refl))

  -- ---- both ways

  places_once : CellBitsOnce K → PlaceRules K table → Once (slots_of K table)
  places_once C P = once_of_free (slots_of K table) (λ s h u. free s u)
    where
      free : (s : ℕ) → slot_used K table s ≡ true → owner_code (slots_of K table) s (slot_at K table s) ≡ 0
      free =
          slot_cases K table (λ s. owner_code (slots_of K table) s (slot_at K table s) ≡ 0) (cell_free K table C)
          (λ f h. position_free_code K table (field_slots K) f (P.fields f h))
          (λ j a h. position_free_code K table (passive_slots K) j (P.passives j h))
          (λ g k h a l. position_free_code K table (group_slot K g) k (P.groups g k h l))

  claim_below : CellBitsOnce K → PlaceRules K table → (a : Claim) → Made K table a → claimed_at K table a < K.positions
  claim_below C P (of_cell_lem i j) m = C.within i j m.0 m.1
  claim_below C P (of_field f) m = omega (arith, (P.fields f m).below, (stands (of_field f) m).at)
  claim_below C P (of_passive j) m = omega (arith, (P.passives j m).below, (stands (of_passive j) m).at)
  claim_below C P (of_group g k) m = omega (arith, (P.groups g k m.0 m.1).below, (stands (of_group g k) m).at)

  place_of : ClaimedOnce K table → (a : Claim) → Made K table a → (from k : ℕ) → slot_of a ≡ from + k → PositionRules K table from k
  place_of O a m from k e =
      let S = stands a m in
      record {
        below = omega (arith, O.below a m, S.at, ap (slot_at K table) e);
        unclaimed = λ s l u q.
            let b = claim_of s u in
            let same = O.once b.0 a b.1 m (sym (stands b.0 b.1).at ∙ ap (slot_at K table) b.2 ∙ q ∙ ap (slot_at K table) (sym e) ∙ S.at) in
            let slots = ap slot_of same in
            omega (arith, b.2);
      }

  -- the rules of positions say that no two claims are of one position, and that all are in the tile; and nothing else
  pub claims_exact : CellBitsOnce K → PlaceRules K table ↔ ClaimedOnce K table
  claims_exact C = (
    λ P. record {
      below = claim_below C P;
      once = λ a b m n e.
          let S = stands a m in
          let T = stands b n in
          same_claim a b m n (places_once C P (slot_of a) (slot_of b) S.within T.within S.used T.used (S.at ∙ e ∙ sym T.at));
    },
    λ O. record {
      fields = λ f h. place_of O (of_field f) h (field_slots K) f refl;
      passives = λ j h. place_of O (of_passive j) h (passive_slots K) j refl;
      groups = λ g k h l. place_of O (of_group g k) (h, l) (group_slot K g) k refl;
    },
  )

-- a table that keeps the rules
pub table_claimed_once : (K : TileKind) (table : List ℕ) → CellBitsOnce K → TableRules K table → ClaimedOnce K table
table_claimed_once K table C T =
    (claims_exact K table
    (record { few_passives = T.passives.few; few_groups = T.few_groups; few_positions = λ g h. (T.groups g h).few_positions })
    C).0 (record { fields = T.fields; passives = T.passives.places; groups = λ g k h l. (T.groups g h).places k l })
