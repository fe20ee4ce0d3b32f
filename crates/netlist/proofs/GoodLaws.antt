-- A good row by its parts, and a zero row by its numbers. Main laws: `good_parts`, `good_of_parts`, `zero_exact`.
use mathlib.Core.Path.{◌≡◌, refl, sym, ◌∙◌}
use mathlib.Core.Bool.{Bool, true, false, not, ◌&&◌, ◌||◌}
use mathlib.Core.Logic.{◌⊎◌, inl, inr, ⊎_elim, ◌≢◌, ◌↔◌}
use Prim.Native.Nat.{ℕ, ◌<◌, ◌≤◌}
use native.Mathlib.Omega.{arith}
use borrow.Author.Tests.{leb-true, le-leb, eqb-true, eqb-false, eq-eqb, ne_eqb, not-true}
use lib.Dec.{eqb, leb}
use Rattle.lists.specs.Search.{all_from}
use Rattle.lists.proofs.CaseLaws.{cases, eq_or_ne, and_left, and_right, and_true, or_is}
use Rattle.lists.proofs.SearchLaws.{all_at, all_of}
use Rattle.netlist.specs.Kinds.{lookup_kind, majority_kind}
use Rattle.netlist.specs.Rows.{zero_row}
use Rattle.netlist.specs.Checking.{operand_good, row_good, zero_test}
use Rattle.netlist.specs.declared.row.Row.{Row}

-- ---- the conjunction

pub record GoodParts (row : Row) (cells : ℕ) (block came : ℕ → Bool) : Type 0 where
  pub kind_nonzero : row.kind ≢ 0
  pub kind_high : row.kind ≤ majority_kind
  pub in_block : block row.wire ≡ true
  pub new : came row.wire ≡ false
  pub operands : (j : ℕ) → j < 4 → operand_good row cells came j ≡ true
  pub table : (row.kind ≡ lookup_kind) ⊎ (row.table ≡ 0)

module _ (row : Row) (cells : ℕ) (block came : ℕ → Bool) where
  abbrev none : Bool
  none = not (eqb row.kind 0)

  abbrev operands_test : Bool
  operands_test = all_from (operand_good row cells came) 0 4

  abbrev table_test : Bool
  table_test = eqb row.kind lookup_kind || eqb row.table 0

  pub good_parts : row_good row cells block came ≡ true → GoodParts row cells block came
  unfolding row_good
  good_parts t =
      let t1 = and_right none _ t in
      let t2 = and_right (leb row.kind majority_kind) _ t1 in
      let t3 = and_right (block row.wire) _ t2 in
      let t4 = and_right (not (came row.wire)) (operands_test && table_test) t3 in
      record {
        kind_nonzero = eqb-false _ _ (not-true _ (and_left none _ t));
        kind_high = leb-true _ _ (and_left (leb row.kind majority_kind) _ t1);
        in_block = and_left (block row.wire) _ t2;
        new = not-true _ (and_left (not (came row.wire)) (operands_test && table_test) t3);
        operands = λ j l. all_at (operand_good row cells came) 0 4 j (and_left operands_test table_test t4) (omega arith) (omega arith);
        table = ⊎_elim (λ a. inl (eqb-true _ _ a)) (λ a. inr (eqb-true _ _ a)) (or_is (eqb row.kind lookup_kind) (eqb row.table 0) (and_right operands_test table_test t4));
      }

  pub good_of_parts : GoodParts row cells block came → row_good row cells block came ≡ true
  unfolding row_good
  good_of_parts h =
      and_true {a = none} (rw (ne_eqb _ _ h.kind_nonzero))
      (and_true (le-leb _ _ h.kind_high)
      (and_true h.in_block
      (and_true {a = not (came row.wire)} (rw h.new)
      (and_true {a = operands_test} {b = table_test} (all_of (operand_good row cells came) 0 4 (λ j a b. h.operands j (omega arith))) (last h.table)))))
    where
      last : (row.kind ≡ lookup_kind) ⊎ (row.table ≡ 0) → table_test ≡ true
      last (inl e) = rw (eq-eqb _ _ e)
      last (inr e) = either (eqb row.kind lookup_kind) (eq-eqb _ _ e)
        where
          either : (b : Bool) {c : Bool} → c ≡ true → b || c ≡ true
          either true e = refl
          either false e = e

  -- a row that lacks a part is not good
  pub good_false : (GoodParts row cells block came → ⊥) → false ≡ row_good row cells block came
  good_false h = ⊎_elim (λ t. absurd (h (good_parts t))) (λ f. sym f) (cases (row_good row cells block came))

  -- with all other parts there, the table decides
  pub good_last : row.kind ≢ 0 → row.kind ≤ majority_kind → block row.wire ≡ true → came row.wire ≡ false → ((j : ℕ) → j < 4 → operand_good row cells came j ≡ true)
      → (row.kind ≡ lookup_kind → true ≡ row_good row cells block came) × (row.kind ≢ lookup_kind → eqb row.table 0 ≡ row_good row cells block came)
  good_last k l b n o = (
    λ e. sym (good_of_parts (record { kind_nonzero = k; kind_high = l; in_block = b; new = n; operands = o; table = inl e })),
    λ ne. ⊎_elim (λ (e : row.table ≡ 0). eq-eqb _ _ e ∙ sym (good_of_parts (record { kind_nonzero = k; kind_high = l; in_block = b; new = n; operands = o; table = inr e })))
        (λ z. ne_eqb _ _ z ∙ good_false (λ h. ⊎_elim ne z h.table)) (eq_or_ne row.table 0),
  )

-- ---- zeros

pub zero_exact : (row : Row) → zero_test row ≡ true ↔ (row ≡ zero_row)
unfolding zero_test
zero_exact row = (to, λ e. rw e)
  where
    to : zero_test row ≡ true → row ≡ zero_row
    to t =
        let t1 = and_right (eqb row.kind 0) _ t in
        let t2 = and_right (eqb row.wire 0) _ t1 in
        let t3 = and_right (eqb row.a 0) _ t2 in
        let t4 = and_right (eqb row.b 0) _ t3 in
        let t5 = and_right (eqb row.c 0) _ t4 in
        let k = eqb-true _ _ (and_left (eqb row.kind 0) _ t) in
        let w = eqb-true _ _ (and_left (eqb row.wire 0) _ t1) in
        let a = eqb-true _ _ (and_left (eqb row.a 0) _ t2) in
        let b = eqb-true _ _ (and_left (eqb row.b 0) _ t3) in
        let c = eqb-true _ _ (and_left (eqb row.c 0) _ t4) in
        let d = eqb-true _ _ (and_left (eqb row.d 0) (eqb row.table 0) t5) in
        let e = eqb-true _ _ (and_right (eqb row.d 0) (eqb row.table 0) t5) in
        λ s. record { kind = k s; wire = w s; a = a s; b = b s; c = c s; d = d s; table = e s }

pub zero_false : (row : Row) → row ≢ zero_row → false ≡ zero_test row
zero_false row ne = ⊎_elim (λ t. absurd (ne ((zero_exact row).0 t))) (λ f. sym f) (cases (zero_test row))

-- with the other six numbers 0 the last decides
pub zero_last : (row : Row) → row.kind ≡ 0 → row.wire ≡ 0 → row.a ≡ 0 → row.b ≡ 0 → row.c ≡ 0 → row.d ≡ 0 → eqb row.table 0 ≡ zero_test row
unfolding zero_test
zero_last row k w a b c d = rw (eq-eqb _ _ k, eq-eqb _ _ w, eq-eqb _ _ a, eq-eqb _ _ b, eq-eqb _ _ c, eq-eqb _ _ d)
