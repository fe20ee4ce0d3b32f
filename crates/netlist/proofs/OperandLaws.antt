-- An operand by its use: a wire that came before, a cell, or 0. Main law: `used_operand_good`.
use mathlib.Core.Path.{◌≡◌, refl, sym, ap, ◌∙◌}
use mathlib.Core.Bool.{Bool, true, false, ◌&&◌, ◌||◌, cond}
use mathlib.Core.Logic.{◌⊎◌, inl, inr, ⊎_elim, ◌≢◌}
use Prim.Native.Nat.{ℕ, ◌<◌, ◌≤◌}
use native.Mathlib.Omega.{arith}
use borrow.Author.Tests.{lt-ltb, le-ltb, eqb-true, eq-eqb, ne_eqb}
use lib.Dec.{eqb, ltb}
use Rattle.lists.proofs.CaseLaws.{cases, clash, lt_or_le, and_left, and_right, and_false_right}
use Rattle.netlist.specs.Kinds.{flip_flop_kind}
use Rattle.netlist.specs.Rows.{operand_of, arity_of}
use Rattle.netlist.specs.Checking.{uses, operand_good}
use Rattle.netlist.specs.declared.row.Row.{Row}
use Rattle.netlist.proofs.ValueLaws.{arity_le}

-- ---- an operand, o

module _ (row : Row) (cells : ℕ) (came : ℕ → Bool) (j o : ℕ) (is : o ≡ operand_of row j) where
  pub operand_good_wire : j < arity_of row → came o ≡ operand_good row cells came j
  unfolding operand_good
  operand_good_wire l = rw (lt-ltb _ _ l, is)

  pub operand_good_cell : arity_of row ≤ j → row.kind ≡ flip_flop_kind → j ≡ 0 → ltb o cells ≡ operand_good row cells came j
  unfolding operand_good
  operand_good_cell l k z = simp (le-ltb _ _ l, eq-eqb _ _ k, eq-eqb _ _ z, is)

  pub operand_good_zero : arity_of row ≤ j → (row.kind ≢ flip_flop_kind) ⊎ (j ≢ 0) → eqb o 0 ≡ operand_good row cells came j
  unfolding operand_good
  operand_good_zero l (inl k) = simp (le-ltb _ _ l, ne_eqb _ _ k, is)
  operand_good_zero l (inr z) = simp (le-ltb _ _ l, and_false_right (eqb row.kind flip_flop_kind) (eqb j 0) (ne_eqb _ _ z), is)

  pub operand_good_unused : uses row j ≡ false → eqb o 0 ≡ operand_good row cells came j
  unfolding operand_good
  operand_good_unused u = go (ltb j (arity_of row)) (eqb row.kind flip_flop_kind && eqb j 0) u
    where
      go : (a b : Bool) → a || b ≡ false → eqb o 0 ≡ cond a (came (operand_of row j)) (cond b (ltb (operand_of row j) cells) (eqb (operand_of row j) 0))
      go true b e = clash refl e
      go false true e = clash refl e
      go false false e = rw is

-- operand 0 is the cell of a flip-flop, and an operand that is read is one of four
pub operand_of_cell : (row : Row) → (row.a ≡ operand_of row 0) × ((j : ℕ) → j < arity_of row → j < 4) × (row.kind ≡ flip_flop_kind → arity_of row ≤ 0)
unfolding operand_of arity_of
operand_of_cell row = (refl, λ j l. let a = arity_le row in omega arith, none)
  where
    none : row.kind ≡ flip_flop_kind → arity_of row ≤ 0
    none e = rw e (omega arith)

-- an operand is good if it is as its use asks
pub used_operand_good : (row : Row) (cells : ℕ) (came : ℕ → Bool) (j : ℕ) → (j < arity_of row → came (operand_of row j) ≡ true)
    → (row.kind ≡ flip_flop_kind → row.a < cells) → (uses row j ≡ false → operand_of row j ≡ 0) → operand_good row cells came j ≡ true
used_operand_good row cells came j wires cell unused =
    ⊎_elim (λ (l : j < arity_of row). sym (operand_good_wire row cells came j _ refl l) ∙ wires l) (λ (l : arity_of row ≤ j). past l (cases (eqb row.kind flip_flop_kind && eqb j 0))) (lt_or_le j (arity_of row))
  where
    past : arity_of row ≤ j → (eqb row.kind flip_flop_kind && eqb j 0 ≡ true) ⊎ (eqb row.kind flip_flop_kind && eqb j 0 ≡ false) → operand_good row cells came j ≡ true
    past l (inl t) =
        let k = eqb-true _ _ (and_left (eqb row.kind flip_flop_kind) (eqb j 0) t) in
        let z : j ≡ 0 = eqb-true _ _ (and_right (eqb row.kind flip_flop_kind) (eqb j 0) t) in
        sym (operand_good_cell row cells came j _ refl l k z)
        ∙ lt-ltb (operand_of row j) cells (let e = ap (operand_of row) z in let a = (operand_of_cell row).0 in let b = cell k in omega arith)
    past l (inr f) =
        let u : uses row j ≡ false = rw (le-ltb _ _ l, f) in
        sym (operand_good_unused row cells came j _ refl u) ∙ eq-eqb _ _ (unused u)
