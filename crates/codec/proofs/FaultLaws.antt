-- A position at fault, by the slot that claims it and by the ownership map. Main laws: `fault_stray`, `-carry`, `-low`, `-group`;
-- the same by the map: `map_stray`, .. `map_group`; past a row's columns: `fault_past`, `fault_inside`. Assumes nothing.
use mathlib.Core.Path.{◌≡◌, sym, ◌∙◌, subst}
use mathlib.Core.Logic.{◌≢◌, ⊎_elim}
use mathlib.Core.Bool.{true, false}
use mathlib.Core.List.{List}
use Prim.Native.Nat.{ℕ, ◌+◌, ◌-◌, ◌/◌, ◌%◌, ◌<◌, ◌≤◌}
use native.Mathlib.Omega.{arith}
use borrow.Author.Tests.{eq-eqb, ne_eqb, lt-ltb, le-ltb}
use lib.Dec.{leb}
use lib.ListN.{get_or}
use Rattle.lists.proofs.CaseLaws.{lt_or_le}
use Rattle.lists.proofs.SearchLaws.{first_le, first_true}
use Rattle.routing.specs.LogicTile.{logic_tile, carry_in_set}
use Rattle.ports.specs.Lengths.{columns, max_positions}
use Rattle.routing.specs.Table.{group_count, width_of}
use Rattle.routing.specs.Slots.{claims, owner, owner_code, Owned, slots_of, slot_used, field_slots, group_slots, group_slot, slot_count}
use Rattle.routing.proofs.OwnerLaws.{claims_used}
use Rattle.routing.proofs.SlotLaws.{slot_cases}
use Rattle.words.specs.Forms.{TileBits}
use Rattle.codec.specs.Bits.{is_set_at, bit_at, tile_of}
use Rattle.codec.specs.Groups.{read_group}
use Rattle.codec.specs.Fault.{points_to, carry_pair, past_at, slot_fault, owned_fault, fault_at}

-- what the ownership map has for the CarryInSet field, and for the first position of group 0
abbrev pub carry_code : ℕ
carry_code = field_slots logic_tile + carry_in_set + 1

abbrev pub group_code : ℕ
group_code = group_slots logic_tile + 1

-- a used slot past the passive list is a group's
pub used_group : (table : List ℕ) (s : ℕ) → group_slots logic_tile ≤ s → slot_used logic_tile table s ≡ true
    → ((s - group_slots logic_tile) / max_positions < group_count logic_tile table)
    × ((s - group_slots logic_tile) % max_positions < width_of logic_tile table ((s - group_slots logic_tile) / max_positions))
used_group table s a u =
    slot_cases logic_tile table
    (λ (x : ℕ). group_slots logic_tile ≤ x
    → ((x - group_slots logic_tile) / max_positions < group_count logic_tile table)
    × ((x - group_slots logic_tile) % max_positions < width_of logic_tile table ((x - group_slots logic_tile) / max_positions)))
    (λ x h l. absurd (omega arith))
    (λ f h l. absurd (omega arith))
    (λ j h m l. absurd (omega arith))
    (λ g k h m l b.
    let d : (group_slot logic_tile g + k - group_slots logic_tile) / max_positions ≡ g = omega arith in
    let e : (group_slot logic_tile g + k - group_slots logic_tile) % max_positions ≡ k = omega arith in
    rw (d, e) (h, l))
    s u a

module _ (table bits : List ℕ) (p : ℕ) where
  abbrev mine : ℕ
  mine = owner (slots_of logic_tile table) p

  -- ---- by the owner

  pub fault_stray : owner (slots_of logic_tile table) p ≡ slot_count logic_tile → owned_fault table (tile_of bits) p ≡ is_set_at (bit_at bits) p
  unfolding owned_fault slot_fault
  fault_stray e = rw e

  pub fault_carry : owner (slots_of logic_tile table) p ≡ field_slots logic_tile + carry_in_set → owned_fault table (tile_of bits) p ≡ carry_pair table (bit_at bits)
  unfolding owned_fault slot_fault
  fault_carry e = rw e

  pub fault_low : owner (slots_of logic_tile table) p ≢ field_slots logic_tile + carry_in_set → owner (slots_of logic_tile table) p < group_slots logic_tile
      → owned_fault table (tile_of bits) p ≡ false
  unfolding owned_fault slot_fault
  fault_low n h = rw (ne_eqb mine (field_slots logic_tile + carry_in_set) n, lt-ltb mine (group_slots logic_tile) h)

  module _ (s : ℕ) (e : owner (slots_of logic_tile table) p ≡ group_slots logic_tile + s) (h : group_slots logic_tile + s < slot_count logic_tile) where
    pub fault_group : owned_fault table (tile_of bits) p ≡ points_to p (read_group logic_tile table (bit_at bits) (s / max_positions))
    unfolding owned_fault slot_fault
    fault_group =
        let q : group_slots logic_tile + s - group_slots logic_tile ≡ s = omega arith in
        rw (
          e,
          ne_eqb (group_slots logic_tile + s) (field_slots logic_tile + carry_in_set) (λ z. omega arith),
          le-ltb (group_slots logic_tile + s) (group_slots logic_tile) (omega arith),
          lt-ltb (group_slots logic_tile + s) (slot_count logic_tile) h,
          q,
        )

  -- ---- by the map, whose number is one more than the slot's

  module _ (own : List ℕ) (O : Owned 864 (slots_of logic_tile table) (slot_count logic_tile) own) (h : p < 864) where
    pub owner_none : get_or own p 0 ≡ 0 → owner (slots_of logic_tile table) p ≡ slot_count logic_tile
    owner_none z =
        ⊎_elim
        (λ (l : mine < slot_count logic_tile).
        let q : owner_code (slots_of logic_tile table) (slot_count logic_tile) p ≡ mine + 1 = rw (lt-ltb mine (slot_count logic_tile) l) in
        absurd (omega (arith, O.map_at p h)))
        (λ (l : slot_count logic_tile ≤ mine). omega (arith, first_le (claims (slots_of logic_tile table) p) 0 (slot_count logic_tile)))
        (lt_or_le mine (slot_count logic_tile))

    pub owner_some : get_or own p 0 ≢ 0 → (owner (slots_of logic_tile table) p + 1 ≡ get_or own p 0) × (owner (slots_of logic_tile table) p < slot_count logic_tile)
    owner_some n =
        ⊎_elim
        (λ (l : mine < slot_count logic_tile).
        let q : owner_code (slots_of logic_tile table) (slot_count logic_tile) p ≡ mine + 1 = rw (lt-ltb mine (slot_count logic_tile) l) in
        (sym (O.map_at p h ∙ q), l))
        (λ (l : slot_count logic_tile ≤ mine).
        let q : owner_code (slots_of logic_tile table) (slot_count logic_tile) p ≡ 0 = rw (le-ltb mine (slot_count logic_tile) l) in absurd (n (O.map_at p h ∙ q)))
        (lt_or_le mine (slot_count logic_tile))

    pub map_stray : get_or own p 0 ≡ 0 → owned_fault table (tile_of bits) p ≡ is_set_at (bit_at bits) p
    map_stray z = fault_stray (owner_none z)

    pub map_carry : get_or own p 0 ≡ carry_code → owned_fault table (tile_of bits) p ≡ carry_pair table (bit_at bits)
    map_carry z = fault_carry (omega (arith, (owner_some (λ y. omega arith)).0))

    module _ (n : get_or own p 0 ≢ 0) where
      pub map_low : get_or own p 0 ≢ carry_code → get_or own p 0 < group_code → owned_fault table (tile_of bits) p ≡ false
      map_low m l = fault_low (λ e. m (omega (arith, (owner_some n).0))) (omega (arith, (owner_some n).0))

      module _ (l : group_code ≤ get_or own p 0) where
        pub map_group : owned_fault table (tile_of bits) p ≡ points_to p (read_group logic_tile table (bit_at bits) ((get_or own p 0 - group_code) / max_positions))
        map_group = fault_group (get_or own p 0 - group_code) (omega (arith, (owner_some n).0)) (omega (arith, (owner_some n).0, (owner_some n).1))

        pub map_within : (get_or own p 0 - group_code) / max_positions < group_count logic_tile table
        map_within =
            let u : slot_used logic_tile table mine ≡ true =
            claims_used (slots_of logic_tile table) p mine (first_true (claims (slots_of logic_tile table) p) 0 (slot_count logic_tile)
            (omega (arith, (owner_some n).1))) in
            let e : mine - group_slots logic_tile ≡ get_or own p 0 - group_code = omega (arith, (owner_some n).0) in
            subst (λ (x : ℕ). x / max_positions < group_count logic_tile table) e (used_group table mine (omega (arith, (owner_some n).0)) u).0

-- ---- past a row's columns

module _ (table : List ℕ) (tile : TileBits) (p : ℕ) where
  pub fault_past : past_at tile p ≡ true → true ≡ fault_at table tile p
  unfolding fault_at
  fault_past e = rw e

  pub fault_inside : past_at tile p ≡ false → owned_fault table tile p ≡ fault_at table tile p
  unfolding fault_at
  fault_inside e = rw e

-- as the code tests it
module _ (bits : List ℕ) (p : ℕ) where
  pub past_last : p % columns ≡ 53 → leb 18014398509481984 (get_or bits (p / columns) 0) ≡ past_at (tile_of bits) p
  unfolding past_at
  past_last e = rw (eq-eqb (p % columns) 53 e)

  pub past_other : p % columns ≢ 53 → false ≡ past_at (tile_of bits) p
  unfolding past_at
  past_other n = rw (ne_eqb (p % columns) 53 n)
