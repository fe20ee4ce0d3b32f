-- Rows that a caller can hand over: a test that computes shows `Closed` (`closed_test_lem`). And the definitions at three wires: 0 copies 2, 1 is lent, and
-- 2 is the majority of 1, 1 and 1; turned to a loop, 2 reads 0.
use mathlib.Core.Path.{◌≡◌, refl, subst}
use mathlib.Core.Bool.{Bool, true, ◌&&◌}
use mathlib.Core.Logic.{⊎_elim}
use mathlib.Core.List.{List, [], ◌∷◌}
use Prim.Native.Nat.{ℕ, ◌*◌, ◌<◌, ◌≤◌}
use native.Mathlib.Omega.{arith}
use borrow.Author.Tests.{ltb-true}
use lib.Dec.{ltb}
use lib.ListN.{length, get_or-eq_default}
use Rattle.lists.specs.Search.{first, all_from}
use Rattle.lists.specs.Parts.{joined}
use Rattle.lists.proofs.CaseLaws.{and_left, and_right, lt_or_le}
use Rattle.lists.proofs.SearchLaws.{all_at}
use Rattle.cell.specs.Lookup.{majority}
use Rattle.netlist.specs.Graph.{Graph, Reads, Closed, DependsOn, reads, via}
use Rattle.netlist.specs.Order.{ready, next, order_from, order}
use Rattle.netlist.specs.Rows.{row_length, row_at, operand_of, arity_of, graph_of}
use Rattle.netlist.specs.Running.{row_value, run_from}
use Rattle.netlist.specs.OrderedRows.{row_in_order, list_of}

abbrev pub closed_test : Graph → ℕ → Bool
closed_test g n = all_from (λ w. all_from (λ j. ltb (g.operand w j) n && g.wire (g.operand w j)) 0 (g.arity w)) 0 n

-- past the rows nothing is read
past : (rows : List ℕ) (w : ℕ) → length rows ≤ row_length * w → arity_of (row_at rows w) ≡ 0
unfolding arity_of row_at
past rows w l = rw (get_or-eq_default rows 0 l)

-- the readings of w pass the test
module _ (rows : List ℕ) (n : ℕ) (t : closed_test (graph_of rows) n ≡ true) where
  abbrev good : ℕ → ℕ → Bool
  good w j = ltb ((graph_of rows).operand w j) n && (graph_of rows).wire ((graph_of rows).operand w j)

  good_at_lem : (w d : ℕ) → w < n → Reads (graph_of rows) w d → ltb d n && (graph_of rows).wire d ≡ true
  good_at_lem w d l r =
      subst (λ (x : ℕ). ltb x n && (graph_of rows).wire x ≡ true) r.2
      (all_at (good w) 0 ((graph_of rows).arity w) r.0
      (all_at (λ v. all_from (good v) 0 ((graph_of rows).arity v)) 0 n w t (omega arith) (omega arith)) (omega arith) (let q = r.1 in omega arith))

  reads_at : length rows ≡ row_length * n → (w d : ℕ) → Reads (graph_of rows) w d → ltb d n && (graph_of rows).wire d ≡ true
  reads_at len w d r =
      ⊎_elim (λ (l : w < n). good_at_lem w d l r)
      (λ (l : n ≤ w). let z = past rows w (omega arith) in let q = r.1 in absurd (omega arith)) (lt_or_le w n)

  pub closed_test_lem : length rows ≡ row_length * n → Closed (graph_of rows) n
  closed_test_lem len = record {
    below = λ w d r. ltb-true d n (and_left (ltb d n) ((graph_of rows).wire d) (reads_at len w d r));
    wires = λ w d r. and_right (ltb d n) ((graph_of rows).wire d) (reads_at len w d r);
  }

three : List ℕ
three = 5 ∷ 0 ∷ 2 ∷ 0 ∷ 0 ∷ 0 ∷ 0 ∷ 1 ∷ 1 ∷ 0 ∷ 0 ∷ 0 ∷ 0 ∷ 0 ∷ 7 ∷ 2 ∷ 1 ∷ 1 ∷ 1 ∷ 0 ∷ 0 ∷ []

three_closed : Closed (graph_of three) 3
unfolding three arity_of operand_of row_at all_from
three_closed = closed_test_lem three 3 refl refl

-- 1 first, which 2 reads, then 2, which 0 reads
three_order : order (graph_of three) 3 ≡ 1 ∷ 2 ∷ 0 ∷ []
unfolding three arity_of operand_of row_at all_from first order order_from next ready
three_order = refl

three_list : list_of three 3 ≡ 1 ∷ 1 ∷ 0 ∷ 0 ∷ 0 ∷ 0 ∷ 0 ∷ 7 ∷ 2 ∷ 1 ∷ 1 ∷ 1 ∷ 0 ∷ 0 ∷ 5 ∷ 0 ∷ 2 ∷ 0 ∷ 0 ∷ 0 ∷ 0 ∷ []
unfolding three arity_of operand_of row_at all_from first order order_from next ready row_in_order joined
three_list = refl

-- with 1 lent as 1, all are 1, whatever stood there
three_run : run_from (list_of three 3) [] (0 ∷ 1 ∷ 0 ∷ []) 0 3 (9 ∷ 9 ∷ 9 ∷ []) ≡ 1 ∷ 1 ∷ 1 ∷ []
unfolding three arity_of operand_of row_at all_from first order order_from next ready row_in_order joined run_from row_value majority
three_run = refl

-- 2 reads 0 instead: 0 and 2 depend on themselves, and only 1 is listed
looped : List ℕ
looped = 5 ∷ 0 ∷ 2 ∷ 0 ∷ 0 ∷ 0 ∷ 0 ∷ 1 ∷ 1 ∷ 0 ∷ 0 ∷ 0 ∷ 0 ∷ 0 ∷ 7 ∷ 2 ∷ 1 ∷ 0 ∷ 1 ∷ 0 ∷ 0 ∷ []

looped_order : order (graph_of looped) 3 ≡ 1 ∷ []
unfolding looped arity_of operand_of row_at all_from first order order_from next ready
looped_order = refl

looped_self : DependsOn (graph_of looped) 0 0
unfolding looped arity_of operand_of row_at
looped_self = via {w = 0} {m = 2} {d = 0} (0, omega arith, refl) (reads {w = 2} {d = 0} (1, omega arith, refl))
