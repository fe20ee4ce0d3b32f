-- The computed check of a table and the paper's rules, part by part and as a whole. Main laws: `table_exact`;
-- `faulty_part_exact`: the place of ground 3 is the first part that breaks a rule; `faulty_part_over`: 514; `table_broken`. Assumes nothing.
use mathlib.Core.Path.{◌≡◌, refl, sym, ap, ◌∙◌, subst}
use mathlib.Core.Logic.{◌↔◌, ⊎_elim}
use mathlib.Core.Bool.{true, false}
use mathlib.Core.List.{List}
use Prim.Native.Nat.{ℕ, zero, suc, ◌+◌, ◌-◌, ◌<◌, ◌≤◌}
use native.Mathlib.Omega.{arith}
use borrow.Author.Tests.{eq-eqb, ne_eqb, lt-ltb, le-ltb, le-leb, leb-true, eqb-true, eqb-false, not-true, not-false}
use lib.Dec.{leb}
use lib.ListN.{length}
use Rattle.lists.specs.Search.{all_from}
use Rattle.lists.proofs.CaseLaws.{cases, clash, and_left, and_right, and_true, lt_or_le}
use Rattle.lists.proofs.SearchLaws.{first_le, first_at, first_none, first_true, first_before}
use Rattle.routing.specs.TileKind.{TileKind}
use Rattle.ports.specs.Lengths.{max_passives, max_groups, table_length}
use Rattle.routing.specs.Table.{passive_count, group_count}
use Rattle.routing.specs.Slots.{field_slots, passive_slots}
use Rattle.routing.specs.Rules.{FieldRules, PassiveRules, PartRules, FirstBroken, TableRules}
use Rattle.routing.specs.TableCheck.{position_ok, fields_ok, passives_ok, group_ok, part_ok, breaks, part_count, faulty_part, table_ok}
use Rattle.routing.proofs.PositionLaws.{places_exact}
use Rattle.routing.proofs.GroupLaws.{group_exact}

module _ (K : TileKind) (table : List ℕ) where
  -- ---- fields and passive list

  pub fields_exact : (fields_ok K table ≡ true) ↔ FieldRules K table
  unfolding fields_ok
  fields_exact = places_exact K table (field_slots K) K.fields

  passives_keep : passives_ok K table ≡ true → PassiveRules K table
  unfolding passives_ok
  passives_keep h =
      let places = all_from (position_ok K table (passive_slots K)) 0 (passive_count K table) in
      record {
        few = leb-true (passive_count K table) max_passives (and_left (leb (passive_count K table) max_passives) places h);
        places = (places_exact K table (passive_slots K) (passive_count K table)).0 (and_right (leb (passive_count K table) max_passives) places h);
      }

  passives_pass : PassiveRules K table → passives_ok K table ≡ true
  unfolding passives_ok
  passives_pass P =
      and_true (le-leb (passive_count K table) max_passives P.few) ((places_exact K table (passive_slots K) (passive_count K table)).1 P.places)

  pub passives_exact : (passives_ok K table ≡ true) ↔ PassiveRules K table
  passives_exact = (passives_keep, passives_pass)

  -- ---- a part

  pub part_fields : part_ok K table 0 ≡ fields_ok K table
  unfolding part_ok
  part_fields = refl

  pub part_passives : part_ok K table 1 ≡ passives_ok K table
  unfolding part_ok
  part_passives = refl

  pub part_group : (g : ℕ) → g < max_groups → part_ok K table (2 + g) ≡ group_ok K table g
  unfolding part_ok
  part_group g h =
      let e : 2 + g - 2 ≡ g = omega arith in
      rw (ne_eqb (2 + g) 0 (λ z. omega arith), ne_eqb (2 + g) 1 (λ z. omega arith), lt-ltb (2 + g) (2 + max_groups) (omega arith), e)

  pub part_over : (i : ℕ) → 2 + max_groups ≤ i → part_ok K table i ≡ false
  unfolding part_ok
  part_over i h = rw (ne_eqb i 0 (λ z. omega arith), ne_eqb i 1 (λ z. omega arith), le-ltb i (2 + max_groups) h)

  part_keeps : (i : ℕ) → part_ok K table i ≡ true → PartRules K table i
  part_keeps i h = record {
    there = ⊎_elim (λ (l : i < 2 + max_groups). l) (λ (l : 2 + max_groups ≤ i). clash h (part_over i l)) (lt_or_le i (2 + max_groups));
    fields = λ e. fields_exact.0 (sym part_fields ∙ at e);
    passives = λ e. passives_exact.0 (sym part_passives ∙ at e);
    group = λ g e. ⊎_elim
        (λ (l : g < max_groups). (group_exact K table g).0 (sym (part_group g l) ∙ at e))
        (λ (l : max_groups ≤ g). clash h (part_over i (omega arith)))
        (lt_or_le g max_groups);
  }
    where
      at : {j : ℕ} → i ≡ j → part_ok K table j ≡ true
      at e = subst (λ (x : ℕ). part_ok K table x ≡ true) e h

  part_passes : (i : ℕ) → PartRules K table i → part_ok K table i ≡ true
  part_passes zero P = part_fields ∙ fields_exact.1 (P.fields refl)
  part_passes (suc zero) P = part_passives ∙ passives_exact.1 (P.passives refl)
  part_passes (suc (suc g)) P =
      let e : suc (suc g) ≡ 2 + g = omega arith in
      ap (part_ok K table) e ∙ part_group g (omega (arith, P.there)) ∙ (group_exact K table g).1 (P.group g e)

  -- ---- ground 3's place

  -- part i breaks a rule exactly if it does not pass
  breaks_exact : (i : ℕ) → (breaks K table i ≡ true) ↔ (PartRules K table i → ⊥)
  breaks_exact i = (
    λ b P. clash (part_passes i P) (not-true (part_ok K table i) b),
    λ n. ⊎_elim (λ (h : part_ok K table i ≡ true). absurd (n (part_keeps i h))) (λ (h : part_ok K table i ≡ false). rw h) (cases (part_ok K table i)),
  )

  kept : (i : ℕ) → PartRules K table i → breaks K table i ≡ false
  kept i P = rw (part_passes i P)

  pub faulty_part_exact : (i : ℕ) → ((faulty_part K table ≡ i) × (i < part_count K table)) ↔ FirstBroken K table i
  faulty_part_exact i = (
    λ f. record {
      counted = f.1;
      broken = (breaks_exact i).0 (subst (λ (x : ℕ). breaks K table x ≡ true) f.0 (first_true (breaks K table) 0 (part_count K table) (omega arith)));
      earlier = λ j h. part_keeps j (not-false (part_ok K table j) (first_before (breaks K table) 0 (part_count K table) j (omega arith) (omega arith)));
    },
    λ F. (first_at (breaks K table) i (part_count K table) F.counted ((breaks_exact i).1 F.broken) (λ j h. kept j (F.earlier j h)), F.counted),
  )

  -- where the check fails, the part that it names is the first that breaks a rule
  pub table_broken : table_ok K table ≡ false → FirstBroken K table (faulty_part K table)
  table_broken e =
      let differ = eqb-false (faulty_part K table) (part_count K table) e in
      let less : faulty_part K table < part_count K table = omega (arith, first_le (breaks K table) 0 (part_count K table)) in
      (faulty_part_exact (faulty_part K table)).0 (refl, less)

  -- "a group count above 512: 514", unless an earlier part breaks a rule
  pub faulty_part_over : max_groups < group_count K table → ((i : ℕ) → i < 2 + max_groups → PartRules K table i) → faulty_part K table ≡ 514
  faulty_part_over h every = ((faulty_part_exact 514).1 (record { counted = omega arith; broken = λ P. omega (arith, P.there); earlier = every })).0

  -- ---- the whole table

  pub table_part : table_ok K table ≡ true → (i : ℕ) → i < part_count K table → PartRules K table i
  table_part h i l =
      let e = eqb-true (faulty_part K table) (part_count K table) h in
      part_keeps i (not-false (part_ok K table i) (first_before (breaks K table) 0 (part_count K table) i (omega arith) (omega arith)))

  pub table_exact : length table ≡ table_length → (table_ok K table ≡ true) ↔ TableRules K table
  table_exact long = (keeps, passes)
    where
      keeps : table_ok K table ≡ true → TableRules K table
      keeps h = record {
        long = long;
        fields = (table_part h 0 (omega arith)).fields refl;
        passives = (table_part h 1 (omega arith)).passives refl;
        few_groups = ⊎_elim
            (λ (l : max_groups < group_count K table). absurd (omega (arith, (table_part h (2 + max_groups) (omega arith)).there)))
            (λ (l : group_count K table ≤ max_groups). l)
            (lt_or_le max_groups (group_count K table));
        groups = λ g l. (table_part h (2 + g) (omega arith)).group g refl;
      }

      part_of : TableRules K table → (i : ℕ) → i < part_count K table → PartRules K table i
      part_of T i l = record {
        there = omega (arith, T.few_groups);
        fields = λ e. T.fields;
        passives = λ e. T.passives;
        group = λ g e. T.groups g (omega arith);
      }

      passes : TableRules K table → table_ok K table ≡ true
      passes T = eq-eqb (faulty_part K table) (part_count K table) (first_none (breaks K table) (part_count K table) (λ i l. kept i (part_of T i l)))
