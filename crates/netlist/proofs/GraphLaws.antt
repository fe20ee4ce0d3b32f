-- What a row that was read says of the graph: whether it is a wire's, and what it reads.
use mathlib.Core.Path.{◌≡◌, refl, sym, ap, ◌∙◌}
use mathlib.Core.Bool.{true, false}
use mathlib.Core.Logic.{◌≢◌}
use mathlib.Core.List.{List}
use Prim.Native.Nat.{ℕ, ◌<◌}
use native.Mathlib.Omega.{arith}
use borrow.Author.Tests.{eq-eqb, ne_eqb}
use Rattle.netlist.specs.Graph.{Closed, Reads}
use Rattle.netlist.specs.Rows.{row_at, operand_of, arity_of, graph_of}
use Rattle.netlist.specs.declared.row.Row.{Row}

module _ (rows : List ℕ) (w : ℕ) (row : Row) (is : row ≡ row_at rows w) where
  pub row_wire_true : row.kind ≢ 0 → (graph_of rows).wire w ≡ true
  row_wire_true k = rw (← is, ne_eqb _ _ k)

  pub row_wire_false : row.kind ≡ 0 → (graph_of rows).wire w ≡ false
  row_wire_false k = rw (← is, eq-eqb _ _ k)

  module _ (count : ℕ) (many : count ≡ arity_of row) where
    pub row_arity : count ≡ (graph_of rows).arity w
    row_arity = many ∙ ap arity_of is

    pub row_reads : (j d : ℕ) → j < count → d ≡ operand_of row j → Reads (graph_of rows) w d
    row_reads j d l e = (j, (let q = row_arity in omega arith), ap (λ (r : Row). operand_of r j) (sym is) ∙ sym e)

  -- what it reads is below the bound of a closed graph
  pub row_reads_lt : (n : ℕ) → Closed (graph_of rows) n → (j : ℕ) → j < arity_of row → operand_of row j < n
  row_reads_lt n closed j l = closed.below w _ (row_reads (arity_of row) refl j (operand_of row j) l refl)
