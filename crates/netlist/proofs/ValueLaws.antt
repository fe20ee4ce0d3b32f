-- What a row gives: it depends only on the wires that it reads (`value_local`), and is a bit where they are (`value_lt`).
use mathlib.Core.Path.{◌≡◌, refl}
use mathlib.Core.Bool.{Bool, true, false, cond}
use mathlib.Core.List.{List}
use Prim.Native.Nat.{ℕ, ◌<◌, ◌≤◌}
use native.Mathlib.Omega.{arith}
use borrow.Author.Tests.{eqb-true}
use lib.Dec.{eqb}
use lib.ListN.{get_or}
use Rattle.cell.specs.Lookup.{lookup_bit, majority}
use Rattle.cell.proofs.LookupLaws.{lookup_bit_lt, majority_lt}
use Rattle.netlist.specs.Kinds.{lent_kind, zero_kind, one_kind, flip_flop_kind, copy_kind, lookup_kind, majority_kind}
use Rattle.netlist.specs.Equations.{Local}
use Rattle.netlist.specs.Rows.{row_at, operand_of, arity_of, graph_of}
use Rattle.netlist.specs.Running.{row_value, input_of, Bits}
use Rattle.netlist.specs.declared.row.Row.{Row}

-- ---- how many operands a row reads

cond_le : (b : Bool) (x y : ℕ) → x ≤ 4 → y ≤ 4 → cond b x y ≤ 4
cond_le true x y p q = p
cond_le false x y p q = q

module _ (row : Row) where
  pub arity_le : arity_of row ≤ 4
  unfolding arity_of
  arity_le =
      cond_le (eqb row.kind copy_kind) _ _ (omega arith)
      (cond_le (eqb row.kind lookup_kind) _ _ (omega arith) (cond_le (eqb row.kind majority_kind) _ _ (omega arith) (omega arith)))

  pub arity_of_copy : row.kind ≡ copy_kind → arity_of row ≡ 1
  unfolding arity_of
  arity_of_copy e = rw e

  pub arity_of_lookup : row.kind ≡ lookup_kind → arity_of row ≡ 4
  unfolding arity_of
  arity_of_lookup e = rw e

  pub arity_of_majority : row.kind ≡ majority_kind → arity_of row ≡ 3
  unfolding arity_of
  arity_of_majority e = rw e

-- ---- what each kind gives

module _ (row : Row) (state lent x : List ℕ) where
  pub value_of_lent : row.kind ≡ lent_kind → row_value row state lent x ≡ get_or lent row.wire 0
  unfolding row_value
  value_of_lent e = rw e

  pub value_of_flip_flop : row.kind ≡ flip_flop_kind → row_value row state lent x ≡ get_or state row.a 0
  unfolding row_value
  value_of_flip_flop e = rw e

  pub value_of_copy : row.kind ≡ copy_kind → row_value row state lent x ≡ input_of row x 0
  unfolding row_value
  value_of_copy e = rw e

  pub value_of_lookup : row.kind ≡ lookup_kind
      → row_value row state lent x ≡ lookup_bit row.table (input_of row x 0) (input_of row x 1) (input_of row x 2) (input_of row x 3)
  unfolding row_value
  value_of_lookup e = rw e

  pub value_of_majority : row.kind ≡ majority_kind → row_value row state lent x ≡ majority (input_of row x 0) (input_of row x 1) (input_of row x 2)
  unfolding row_value
  value_of_majority e = rw e

-- ---- a chain of tests on the kind

branch : (b : Bool) (x x' y y' : ℕ) → (b ≡ true → x ≡ x') → y ≡ y' → cond b x y ≡ cond b x' y'
branch true x x' y y' p q = p refl
branch false x x' y y' p q = q

bounded : (b : Bool) (x y : ℕ) → (b ≡ true → x < 2) → y < 2 → cond b x y < 2
bounded true x y p q = p refl
bounded false x y p q = q

pub row_value_local : (row : Row) (state lent x y : List ℕ) → ((j : ℕ) → j < arity_of row → input_of row x j ≡ input_of row y j)
    → row_value row state lent x ≡ row_value row state lent y
unfolding row_value
row_value_local row state lent x y h =
    branch (eqb row.kind lent_kind) _ _ _ _ (λ e. refl)
    (branch (eqb row.kind zero_kind) _ _ _ _ (λ e. refl)
    (branch (eqb row.kind one_kind) _ _ _ _ (λ e. refl)
    (branch (eqb row.kind flip_flop_kind) _ _ _ _ (λ e. refl)
    (branch (eqb row.kind copy_kind) _ _ _ _ (λ e. let n = arity_of_copy row (eqb-true _ _ e) in h 0 (omega arith))
    (branch (eqb row.kind lookup_kind) _ _ _ _
    (λ e. let n = arity_of_lookup row (eqb-true _ _ e) in rw (h 0 (omega arith), h 1 (omega arith), h 2 (omega arith), h 3 (omega arith)))
    (branch (eqb row.kind majority_kind) _ _ _ _
    (λ e. let n = arity_of_majority row (eqb-true _ _ e) in rw (h 0 (omega arith), h 1 (omega arith), h 2 (omega arith))) refl))))))

-- a row that is not lent gives the same for all lent values
pub row_value_lent : (row : Row) (state lent other x : List ℕ) → (row.kind ≡ lent_kind → get_or lent row.wire 0 ≡ get_or other row.wire 0)
    → row_value row state lent x ≡ row_value row state other x
unfolding row_value
row_value_lent row state lent other x h = branch (eqb row.kind lent_kind) _ _ _ _ (λ e. h (eqb-true _ _ e)) refl

pub value_local : (rows state lent : List ℕ) → Local (graph_of rows) (λ x w. row_value (row_at rows w) state lent x)
value_local rows state lent w x y h = row_value_local (row_at rows w) state lent x y (λ j l. h (operand_of (row_at rows w) j) (j, l, refl))

-- "Every wire has a value of 0 or 1"
pub value_lt : (row : Row) (state lent x : List ℕ) → Bits state → Bits lent → ((j : ℕ) → j < arity_of row → input_of row x j < 2) → row_value row state lent x < 2
unfolding row_value
value_lt row state lent x bs bl bx =
    bounded (eqb row.kind lent_kind) _ _ (λ e. bl _)
    (bounded (eqb row.kind zero_kind) _ _ (λ e. omega arith)
    (bounded (eqb row.kind one_kind) _ _ (λ e. omega arith)
    (bounded (eqb row.kind flip_flop_kind) _ _ (λ e. bs _)
    (bounded (eqb row.kind copy_kind) _ _ (λ e. let n = arity_of_copy row (eqb-true _ _ e) in bx 0 (omega arith))
    (bounded (eqb row.kind lookup_kind) _ _ (λ e. lookup_bit_lt row.table _ _ _ _)
    (bounded (eqb row.kind majority_kind) _ _ (λ e. majority_lt _ _ _) (omega arith)))))))
