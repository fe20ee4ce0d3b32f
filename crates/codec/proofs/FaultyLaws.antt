-- Ground 4 for one tile is what the paper says: the computed test of a position, and of a tile, against the sentences of specs/Reading.antt.
-- Main laws: `fault_exact`; `tile_fault_exact`, `tile_fault_lowest`; `faulty_lt`. Assumes nothing.
use mathlib.Core.Path.{◌≡◌, refl, sym, ap, ◌∙◌, subst}
use mathlib.Core.Logic.{◌≢◌, ◌↔◌, ⊎_elim}
use mathlib.Core.Bool.{true}
use mathlib.Core.List.{List}
use Prim.Native.Nat.{ℕ, ◌+◌, ◌-◌, ◌*◌, ◌/◌, ◌%◌, ◌<◌, ◌≤◌}
use native.Mathlib.Omega.{arith}
use borrow.Author.Tests.{eq-eqb, lt-ltb, eqb-true}
use lib.Dec.{eqb}
use Rattle.lists.proofs.CaseLaws.{cases, clash, lt_or_le, eq_or_ne, and_left, and_right, and_true, or_left, or_right, or_is}
use Rattle.lists.proofs.SearchLaws.{first_le, first_true, first_before, first_none}
use Rattle.routing.specs.LogicTile.{logic_tile, carry_in_set}
use Rattle.ports.specs.Lengths.{columns, max_passives, max_positions}
use Rattle.routing.specs.Table.{field_at, passive_count, passive_at, group_count, width_of, position_at}
use Rattle.routing.specs.Rules.{TableRules}
use Rattle.routing.specs.Slots.{claims, owner, Once, slots_of, slot_at, slot_used, field_slots, passive_slots, group_slots, group_slot, slot_count}
use Rattle.routing.proofs.OwnerLaws.{claims_used, claims_at, claims_it, claims_not, owner_is}
use Rattle.routing.proofs.SlotLaws.{slot_at_field, slot_used_field, slot_at_passive, slot_used_passive, slot_at_group, slot_used_group}
use Rattle.routing.proofs.LogicTileLaws.{logic_tile_once}
use Rattle.routing.proofs.TableOnceLaws.{table_once}
use Rattle.routing.proofs.ClaimLaws.{claimed_exact}
use Rattle.codec.specs.Bits.{is_set_at, bit_at, tile_of}
use Rattle.codec.specs.Groups.{read_group}
use Rattle.codec.specs.Fault.{points_to, carry_pair, past_at, owned_fault, fault_at, tile_fault}
use Rattle.codec.specs.Reading.{Unclaimed, CarryPair, Faulty, unlisted, unclaimed, carry_pair_lem, past_columns_lem, Decodable}
use Rattle.codec.proofs.FaultLaws.{used_group, fault_stray, fault_carry, fault_low, fault_group}
use Rattle.codec.proofs.TileRunLaws.{field_position_lt, group_position_lt}
use Rattle.codec.proofs.ListedLaws.{points_exact}

-- ---- who owns a position

module _ (table : List ℕ) (T : TableRules logic_tile table) where
  pub unclaimed_owner : (p : ℕ) → Unclaimed table p → owner (slots_of logic_tile table) p ≡ slot_count logic_tile
  unclaimed_owner p n =
      first_none (claims (slots_of logic_tile table) p) (slot_count logic_tile)
      (λ s h. claims_not (slots_of logic_tile table) p s (λ u e. n ((claimed_exact logic_tile table T p).1 (record { slot = s; within = h; used = u; at = e }))))

  pub owner_unclaimed : (p : ℕ) → slot_count logic_tile ≤ owner (slots_of logic_tile table) p → Unclaimed table p
  owner_unclaimed p l claimed =
      let S = (claimed_exact logic_tile table T p).0 claimed in
      clash (claims_it (slots_of logic_tile table) p S.slot S.used S.at)
      (first_before (claims (slots_of logic_tile table) p) 0 (slot_count logic_tile) S.slot (omega arith) (omega (arith, S.within)))

  once : Once (slots_of logic_tile table)
  once = table_once logic_tile table logic_tile_once T

  -- a used slot owns its position
  slot_owner : (s p : ℕ) → s < slot_count logic_tile → slot_used logic_tile table s ≡ true → slot_at logic_tile table s ≡ p → owner (slots_of logic_tile table) p ≡ s
  slot_owner s p h u e = subst (λ (x : ℕ). owner (slots_of logic_tile table) x ≡ s) e (owner_is (slots_of logic_tile table) once s h u)

  pub field_owner : (f : ℕ) → f < 3 → owner (slots_of logic_tile table) (field_at table f) ≡ field_slots logic_tile + f
  field_owner f h =
      slot_owner (field_slots logic_tile + f) (field_at table f) (omega arith) (slot_used_field logic_tile table f h) (slot_at_field logic_tile table f h)

  pub passive_owner : (j : ℕ) → j < passive_count logic_tile table → owner (slots_of logic_tile table) (passive_at logic_tile table j) ≡ passive_slots logic_tile + j
  passive_owner j h =
      let few : j < max_passives = omega (arith, T.passives.few) in
      slot_owner (passive_slots logic_tile + j) (passive_at logic_tile table j) (omega arith)
      (slot_used_passive logic_tile table j few ∙ lt-ltb j (passive_count logic_tile table) h) (slot_at_passive logic_tile table j few)

  pub group_owner : (g k : ℕ) → g < group_count logic_tile table → k < width_of logic_tile table g
      → owner (slots_of logic_tile table) (position_at logic_tile table g k) ≡ group_slot logic_tile g + k
  group_owner g k h l =
      let few : k < max_positions = omega (arith, (T.groups g h).few_positions) in
      slot_owner (group_slot logic_tile g + k) (position_at logic_tile table g k) (omega (arith, T.few_groups))
      (slot_used_group logic_tile table g k few h ∙ lt-ltb k (width_of logic_tile table g) l) (slot_at_group logic_tile table g k few)

  pub group_position_once : (g i j : ℕ) → g < group_count logic_tile table → i < width_of logic_tile table g → j < width_of logic_tile table g
      → position_at logic_tile table g i ≡ position_at logic_tile table g j → i ≡ j
  group_position_once g i j h a b e = omega (arith, group_owner g i h a, group_owner g j h b, ap (owner (slots_of logic_tile table)) e)

-- ---- a position

module _ (table bits : List ℕ) (T : TableRules logic_tile table) where
  pub carry_exact : (carry_pair table (bit_at bits) ≡ true) ↔ CarryPair table (bit_at bits)
  unfolding carry_pair
  carry_exact = (
    λ e. (eqb-true _ 1 (and_left (is_set_at (bit_at bits) (field_at table carry_in_set)) _ e), eqb-true _ 1 (and_right (is_set_at (bit_at bits) (field_at table carry_in_set)) _ e)),
    λ q. and_true (eq-eqb _ 1 q.0) (eq-eqb _ 1 q.1),
  )

  fault_of : (p : ℕ) → Faulty table (tile_of bits) p → fault_at table (tile_of bits) p ≡ true
  unfolding fault_at past_at
  fault_of p (unlisted g h n m) =
      or_right (past_at (tile_of bits) (position_at logic_tile table g 0)) _
      (fault_group table bits (position_at logic_tile table g 0) (max_positions * g) (group_owner table T g 0 h (T.groups g h).some_positions ∙ omega arith)
      (omega (arith, T.few_groups))
      ∙ ap (λ (x : ℕ). points_to (position_at logic_tile table g 0) (read_group logic_tile table (bit_at bits) x))
      (let e : max_positions * g / max_positions ≡ g = omega arith in e)
      ∙ (points_exact table bits g (T.groups g h) (position_at logic_tile table g 0)).1 (n, m, refl))
  fault_of p (unclaimed q h n e) = or_right (past_at (tile_of bits) p) _ (fault_stray table bits p (unclaimed_owner table T p n) ∙ eq-eqb _ 1 e)
  fault_of p (carry_pair_lem q) =
      or_right (past_at (tile_of bits) (field_at table carry_in_set)) _
      (fault_carry table bits (field_at table carry_in_set) (field_owner table T carry_in_set (omega arith)) ∙ carry_exact.1 q)
  fault_of p (past_columns_lem r h e) =
      let row : (columns * r + 53) / columns ≡ r = omega arith in
      let column : (columns * r + 53) % columns ≡ 53 = omega arith in
      or_left (past_at (tile_of bits) (columns * r + 53)) _ (and_true (eq-eqb _ 53 column) (ap (λ (x : ℕ). (tile_of bits).past x) row ∙ e))

  of_owned : (p : ℕ) → p < 864 → owned_fault table (tile_of bits) p ≡ true → Faulty table (tile_of bits) p
  of_owned p h f = ⊎_elim owned free (lt_or_le mine (slot_count logic_tile))
    where
      mine : ℕ
      mine = owner (slots_of logic_tile table) p

      free : slot_count logic_tile ≤ mine → Faulty table (tile_of bits) p
      free l =
          let e : mine ≡ slot_count logic_tile = omega (arith, first_le (claims (slots_of logic_tile table) p) 0 (slot_count logic_tile)) in
          unclaimed p h (owner_unclaimed table T p l) (eqb-true _ 1 (sym (fault_stray table bits p e) ∙ f))

      owned : mine < slot_count logic_tile → Faulty table (tile_of bits) p
      owned l = ⊎_elim low high (lt_or_le mine (group_slots logic_tile))
        where
          claim : claims (slots_of logic_tile table) p mine ≡ true
          claim = first_true (claims (slots_of logic_tile table) p) 0 (slot_count logic_tile) (omega arith)

          at : slot_at logic_tile table mine ≡ p
          at = claims_at (slots_of logic_tile table) p mine claim

          low : mine < group_slots logic_tile → Faulty table (tile_of bits) p
          low a =
              ⊎_elim
              (λ (e : mine ≡ field_slots logic_tile + carry_in_set).
              subst (Faulty table (tile_of bits)) (sym (slot_at_field logic_tile table carry_in_set (omega arith)) ∙ ap (slot_at logic_tile table) (sym e) ∙ at)
              (carry_pair_lem (carry_exact.0 (sym (fault_carry table bits p e) ∙ f))))
              (λ (n : mine ≢ field_slots logic_tile + carry_in_set). clash f (fault_low table bits p n a))
              (eq_or_ne mine (field_slots logic_tile + carry_in_set))

          high : group_slots logic_tile ≤ mine → Faulty table (tile_of bits) p
          high a =
              let g : ℕ = (mine - group_slots logic_tile) / max_positions in
              let within = (used_group table mine a (claims_used (slots_of logic_tile table) p mine claim)).0 in
              let n = (points_exact table bits g (T.groups g within) p).0
              (sym (fault_group table bits p (mine - group_slots logic_tile) (omega arith) (omega arith)) ∙ f) in
              subst (Faulty table (tile_of bits)) n.2 (unlisted g within n.0 n.1)

  of_fault : (p : ℕ) → p < 864 → fault_at table (tile_of bits) p ≡ true → Faulty table (tile_of bits) p
  unfolding fault_at past_at
  of_fault p h f = ⊎_elim past (of_owned p h) (or_is (past_at (tile_of bits) p) _ f)
    where
      past : past_at (tile_of bits) p ≡ true → Faulty table (tile_of bits) p
      past e =
          let column : p % columns ≡ 53 = eqb-true (p % columns) 53 (and_left _ _ e) in
          subst (Faulty table (tile_of bits)) (let q : columns * (p / columns) + 53 ≡ p = omega arith in q)
          (past_columns_lem (p / columns) (omega arith) (and_right (eqb (p % columns) 53) _ e))

  -- the computed test of a position is the paper's
  pub fault_exact : (p : ℕ) → p < 864 → (fault_at table (tile_of bits) p ≡ true) ↔ Faulty table (tile_of bits) p
  fault_exact p h = (of_fault p h, fault_of p)

  pub faulty_lt : (p : ℕ) → Faulty table (tile_of bits) p → p < 864
  faulty_lt p (unlisted g h n m) = group_position_lt table T g 0 h (T.groups g h).some_positions
  faulty_lt p (unclaimed q h n e) = h
  faulty_lt p (past_columns_lem r h e) = omega arith
  faulty_lt p (carry_pair_lem q) = field_position_lt table T carry_in_set (omega arith)

  -- ---- a tile

  -- below 864 the answer is a position at fault, and nothing lower is
  pub tile_fault_lowest : tile_fault table (tile_of bits) < 864 → Faulty table (tile_of bits) (tile_fault table (tile_of bits)) × ((q : ℕ) → q < tile_fault table (tile_of bits) → Faulty table (tile_of bits) q → ⊥)
  tile_fault_lowest h = (
    of_fault (tile_fault table (tile_of bits)) h (first_true (fault_at table (tile_of bits)) 0 864 (omega arith)),
    λ q l F. clash (fault_of q F) (first_before (fault_at table (tile_of bits)) 0 864 q (omega arith) l),
  )

  -- the answer is 864 exactly if the tile can be decoded
  pub tile_fault_exact : (tile_fault table (tile_of bits) ≡ 864) ↔ Decodable table (tile_of bits)
  tile_fault_exact = (
    λ e p F. clash (fault_of p F) (first_before (fault_at table (tile_of bits)) 0 864 p (omega arith) (omega (arith, faulty_lt p F))),
    λ D. first_none (fault_at table (tile_of bits)) 864 (λ p h. ⊎_elim (λ f. absurd (D p (of_fault p h f))) (λ f. f) (cases (fault_at table (tile_of bits) p))),
  )
