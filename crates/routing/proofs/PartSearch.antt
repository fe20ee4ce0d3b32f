-- The search for the first part that breaks a rule, as the functions make it: fields, passive list, then the groups in a loop. `Seen` is the
-- loop's invariant, with `seen_start`, `-over`, `-broken`, `-step`, `-end`. Assumes nothing.
use mathlib.Core.Path.{◌≡◌, sym, ap, ◌∙◌, subst}
use mathlib.Core.Bool.{Bool, true, false}
use mathlib.Core.List.{List}
use Prim.Native.Nat.{ℕ, zero, suc, ◌+◌, ◌-◌, ◌<◌, ◌≤◌}
use native.Mathlib.Omega.{arith}
use borrow.Author.Tests.{eq-eqb, eqb-true, le-leb, lt-leb}
use Rattle.std.specs.Prelude.{Some, None}
use Rattle.lists.proofs.BelowLaws.{below_is, below_past, below_some, below_none}
use Rattle.lists.specs.Search.{first, all_from}
use Rattle.lists.proofs.SearchLaws.{first_le, first_at, first_from, first_turn_hit, first_turn_skip, first_turn_end}
use Rattle.routing.specs.TileKind.{TileKind}
use Rattle.ports.specs.Lengths.{max_passives, max_groups}
use Rattle.routing.specs.Table.{passive_count, group_count}
use Rattle.routing.specs.Slots.{field_slots, passive_slots}
use Rattle.routing.specs.TableCheck.{position_ok, fields_ok, passives_ok, group_ok, breaks, part_count, faulty_part, broken_part, table_ok}
use Rattle.routing.proofs.TableCheckLaws.{part_fields, part_passives, part_group, part_over}

module _ (K : TileKind) (table : List ℕ) where
  -- a part that is named is no yes
  pub faulty_not_ok : {A : Type 0} (i : ℕ) → i ≡ faulty_part K table → i < part_count K table → table_ok K table ≡ true → A
  faulty_not_ok i e h ok = absurd (omega (arith, eqb-true (faulty_part K table) (part_count K table) ok))

  -- what a search that ends at a part, or behind the last one, says
  pub part_named : (i : ℕ) → i ≡ faulty_part K table → i < part_count K table → Some i ≡ broken_part K table
  part_named i e h = ap Some e ∙ sym (below_is (part_count K table) (faulty_part K table) (omega arith))

  pub parts_pass : (n : ℕ) → n ≡ part_count K table → n ≡ faulty_part K table → None ≡ broken_part K table
  parts_pass n q e = sym (below_past (part_count K table) (faulty_part K table) (omega arith))

  -- and what its answer says
  pub broken_some : (i : ℕ) → Some i ≡ broken_part K table → (i ≡ faulty_part K table) × (i < part_count K table)
  broken_some i e = let s = below_some (part_count K table) (faulty_part K table) i (sym e) in (s.0, omega (arith, s.0, s.1))

  pub broken_none : None ≡ broken_part K table → table_ok K table ≡ true
  broken_none e =
      eq-eqb (faulty_part K table) (part_count K table)
      (omega (arith, below_none (part_count K table) (faulty_part K table) (sym e), first_le (breaks K table) 0 (part_count K table)))

  -- what claiming the fields' positions answered
  pub fields_claimed : (b : Bool) → b ≡ all_from (position_ok K table (field_slots K)) 0 K.fields → fields_ok K table ≡ b
  unfolding fields_ok
  fields_claimed b q = sym q

  pub passives_many : max_passives < passive_count K table → passives_ok K table ≡ false
  unfolding passives_ok
  passives_many h = rw (lt-leb (passive_count K table) max_passives h)

  -- what claiming the list's n positions answered
  pub passives_claimed : (n : ℕ) → n ≡ passive_count K table → n ≤ max_passives → (b : Bool)
      → b ≡ all_from (position_ok K table (passive_slots K)) 0 n → passives_ok K table ≡ b
  unfolding passives_ok
  passives_claimed n e h b q = rw (le-leb (passive_count K table) max_passives (omega arith)) (ap (all_from (position_ok K table (passive_slots K)) 0) (sym e) ∙ sym q)

  -- ---- fields and passive list

  pub faulty_fields : fields_ok K table ≡ false → 0 ≡ faulty_part K table
  faulty_fields e = sym (first_at (breaks K table) 0 (part_count K table) (omega arith) (rw (part_fields K table, e)) (λ k l. absurd (omega arith)))

  module _ (f : fields_ok K table ≡ true) where
    fields_pass : breaks K table 0 ≡ false
    fields_pass = rw (part_fields K table, f)

    pub faulty_passives : passives_ok K table ≡ false → 1 ≡ faulty_part K table
    faulty_passives e =
        sym (first_at (breaks K table) 1 (part_count K table) (omega arith) (rw (part_passives K table, e)) (λ k l. before k l))
      where
        before : (k : ℕ) → k < 1 → breaks K table k ≡ false
        before k l = subst (λ (x : ℕ). breaks K table x ≡ false) (let z : 0 ≡ k = omega arith in z) fields_pass

  -- ---- the groups

  -- of n groups the first g pass
  abbrev pub Seen : ℕ → ℕ → Type 0
  Seen n g = first (breaks K table) (2 + g) (2 + n - (2 + g)) ≡ faulty_part K table

  pub seen_start : (n : ℕ) → n ≡ group_count K table → fields_ok K table ≡ true → passives_ok K table ≡ true → Seen n 0
  seen_start n e f p =
      subst (λ (m : ℕ). Seen m 0) (sym e) (first_from (breaks K table) (part_count K table) 2 (omega arith) before)
    where
      before : (k : ℕ) → k < 2 → breaks K table k ≡ false
      before zero h = fields_pass f
      before (suc zero) h = rw (part_passives K table, p)
      before (suc (suc k)) h = absurd (omega arith)

  module _ (n g : ℕ) (inv : Seen n g) where
    pub seen_over : g < n → g ≡ max_groups → 2 + max_groups ≡ faulty_part K table
    seen_over h e =
        (let q : 2 + max_groups ≡ 2 + g = omega arith in q)
        ∙ first_turn_hit (breaks K table) (2 + g) (2 + n) (faulty_part K table) inv (omega arith) (rw (part_over K table (2 + g) (omega arith)))

    module _ (h : g < n) (l : g < max_groups) where
      pub seen_broken : group_ok K table g ≡ false → 2 + g ≡ faulty_part K table
      seen_broken e = first_turn_hit (breaks K table) (2 + g) (2 + n) (faulty_part K table) inv (omega arith) (rw (part_group K table g l, e))

      pub seen_step : group_ok K table g ≡ true → Seen n (g + 1)
      seen_step e =
          subst (λ (x : ℕ). first (breaks K table) x (2 + n - x) ≡ faulty_part K table) (let q : 2 + g + 1 ≡ 2 + (g + 1) = omega arith in q)
          (first_turn_skip (breaks K table) (2 + g) (2 + n) (faulty_part K table) inv (omega arith) (rw (part_group K table g l, e)))

    pub seen_end : n ≤ g → g ≤ n → 2 + n ≡ faulty_part K table
    seen_end h l =
        (let q : 2 + n ≡ 2 + g = omega arith in q) ∙ first_turn_end (breaks K table) (2 + g) (2 + n) (faulty_part K table) inv (omega arith)
