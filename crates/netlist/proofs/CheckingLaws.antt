-- The computed test of ground 12 says what its sentence says. Main laws: `good_exact`, `stands_exact`, `first_bad_exact`.
use mathlib.Core.Path.{◌≡◌, refl, sym, ap, ◌∙◌}
use mathlib.Core.Bool.{Bool, true, not}
use mathlib.Core.Logic.{◌⊎◌, inl, inr, ⊎_elim, ◌↔◌}
use mathlib.Core.List.{List}
use Prim.Native.Nat.{ℕ, ◌<◌, ◌≤◌}
use native.Mathlib.Omega.{arith}
use borrow.Author.Tests.{ltb-true, lt-ltb, le-ltb, eqb-true, eq-eqb, not-true, not-false}
use lib.Dec.{eqb, ltb}
use lib.ListN.{length}
use Rattle.lists.specs.Search.{first}
use Rattle.lists.proofs.CaseLaws.{cases, clash, lt_or_le, eq_or_ne}
use Rattle.lists.proofs.SearchLaws.{first_le, first_true, first_before}
use Rattle.netlist.specs.Kinds.{lookup_kind}
use Rattle.netlist.specs.Marks.{listed}
use Rattle.netlist.specs.Rows.{row_at, operand_of}
use Rattle.netlist.specs.Running.{Earlier}
use Rattle.netlist.specs.Checking.{RowGood, RowStands, FirstBad, wire_count, earlier, zero_test, good_at, stands, first_bad_row}
use Rattle.netlist.specs.declared.row.Row.{Row}
use Rattle.netlist.proofs.OperandLaws.{operand_of_cell, operand_good_wire, operand_good_cell, operand_good_unused, used_operand_good}
use Rattle.netlist.proofs.GoodLaws.{GoodParts, good_parts, good_of_parts, zero_exact}

-- ---- earlier

module _ (list : List ℕ) (i w : ℕ) where
  abbrev named : ℕ → Bool
  named k = eqb (row_at list k).wire w

  pub earlier_exact : earlier list i w ≡ true ↔ Earlier list i w
  unfolding earlier
  earlier_exact = (to, λ e. lt-ltb _ _ (from e (lt_or_le (first named 0 i) i)))
    where
      to : ltb (first named 0 i) i ≡ true → Earlier list i w
      to t = let l = ltb-true _ _ t in (first named 0 i, l, eqb-true _ _ (first_true named 0 i (omega arith)))

      from : Earlier list i w → (first named 0 i < i) ⊎ (i ≤ first named 0 i) → first named 0 i < i
      from e (inl l) = l
      from e (inr l) = let a = e.1 in clash (eq-eqb _ _ e.2) (first_before named 0 i e.0 (omega arith) (omega arith))

-- ---- a row among the first

module _ (list : List ℕ) (cells : ℕ) (wires : List ℕ) (i : ℕ) where
  abbrev row : Row
  row = row_at list i

  abbrev Parts : Type 0
  Parts = GoodParts row cells (listed wires) (earlier list i)

  good_to : Parts → RowGood list cells wires i
  good_to h = record {
    kind_low = let k = h.kind_nonzero in omega arith;
    kind_high = h.kind_high;
    wire = h.in_block;
    fresh = λ e. clash ((earlier_exact list i row.wire).1 e) h.new;
    operands = λ j l.
        (earlier_exact list i (operand_of row j)).0 (operand_good_wire row cells (earlier list i) j _ refl l ∙ h.operands j ((operand_of_cell row).1 j l));
    cell = λ k.
        ltb-true _ _ (ap (λ (a : ℕ). ltb a cells) (operand_of_cell row).0
        ∙ operand_good_cell row cells (earlier list i) 0 _ refl ((operand_of_cell row).2 k) k refl ∙ h.operands 0 (omega arith));
    unused = λ j l u. eqb-true _ _ (operand_good_unused row cells (earlier list i) j _ refl u ∙ h.operands j l);
    no_table = λ k. ⊎_elim (λ e. absurd (k e)) (λ z. z) h.table;
  }

  good_from : RowGood list cells wires i → Parts
  good_from h = record {
    kind_nonzero = λ e. let k = h.kind_low in absurd (omega arith);
    kind_high = h.kind_high;
    in_block = h.wire;
    new = ⊎_elim (λ t. absurd (h.fresh ((earlier_exact list i row.wire).0 t))) (λ f. f) (cases (earlier list i row.wire));
    operands = λ j l.
        used_operand_good row cells (earlier list i) j (λ a. (earlier_exact list i (operand_of row j)).1 (h.operands j a)) h.cell (h.unused j l);
    table = ⊎_elim inl (λ ne. inr (h.no_table ne)) (eq_or_ne row.kind lookup_kind);
  }

  pub good_exact : good_at list cells wires i ≡ true ↔ RowGood list cells wires i
  good_exact = (
    λ t. good_to (good_parts row cells (listed wires) (earlier list i) t),
    λ h. good_of_parts row cells (listed wires) (earlier list i) (good_from h),
  )

  -- ---- any row

  pub stands_good : i < wire_count wires → stands list cells wires i ≡ good_at list cells wires i
  unfolding stands
  stands_good l = rw (lt-ltb _ _ l)

  pub stands_zero : wire_count wires ≤ i → stands list cells wires i ≡ zero_test (row_at list i)
  unfolding stands
  stands_zero l = rw (le-ltb _ _ l)

  pub stands_exact : stands list cells wires i ≡ true ↔ RowStands list cells wires i
  stands_exact = (
    λ t. record {
      good = λ l. good_exact.0 (sym (stands_good l) ∙ t);
      zero_past = λ l. (zero_exact (row_at list i)).0 (sym (stands_zero l) ∙ t);
    },
    λ h.
        ⊎_elim (λ (l : i < wire_count wires). stands_good l ∙ good_exact.1 (h.good l))
        (λ (l : wire_count wires ≤ i). stands_zero l ∙ (zero_exact (row_at list i)).1 (h.zero_past l)) (lt_or_le i (wire_count wires)),
  )

-- ---- the first that does not stand

module _ (list : List ℕ) (cells : ℕ) (wires : List ℕ) where
  abbrev bad : ℕ → Bool
  bad i = not (stands list cells wires i)

  pub first_bad_exact : FirstBad list cells wires (length wires) (first_bad_row list cells wires)
  unfolding first_bad_row
  first_bad_exact = record {
    within = let l = first_le bad 0 (length wires) in omega arith;
    before = λ i l. (stands_exact list cells wires i).0 (not-false _ (first_before bad 0 (length wires) i (omega arith) l));
    here = λ l h. clash ((stands_exact list cells wires _).1 h) (not-true _ (first_true bad 0 (length wires) (omega arith)));
  }

  pub first_bad_unique : (n r s : ℕ) → FirstBad list cells wires n r → FirstBad list cells wires n s → r ≡ s
  first_bad_unique n r s a b =
      let p = a.within in
      let q = b.within in
      ⊎_elim (λ (l : r < s). absurd (a.here (omega arith) (b.before r l)))
      (λ (l : s ≤ r). ⊎_elim (λ (k : s < r). absurd (b.here (omega arith) (a.before s k))) (λ (k : r ≤ s). omega arith) (lt_or_le s r)) (lt_or_le r s)
