-- What the code that builds the list needs: whether a wire is left over, and that the rows written are those of the order.
use mathlib.Core.Path.{◌≡◌, sym, ap, fun_ext, ◌∙◌}
use mathlib.Core.Bool.{Bool, not, ◌&&◌}
use mathlib.Core.Logic.{◌⊎◌, inl, inr}
use mathlib.Core.List.{List, ◌++◌}
use Prim.Native.Nat.{ℕ, ◌*◌, ◌<◌, ◌≤◌}
use native.Mathlib.Omega.{arith}
use borrow.Author.Tests.{lt-ltb, le-ltb, not-true, not-false}
use lib.ListN.{length, get_or, length-append, get_or-append}
use Rattle.std.specs.Prelude.{Option, Some, None, Result, Ok, Err}
use Rattle.lists.specs.Search.{first, below}
use Rattle.lists.proofs.BelowLaws.{below_first_some, below_first_none}
use Rattle.lists.proofs.CaseLaws.{lt_or_le, and_left, and_right}
use Rattle.netlist.specs.Graph.{Graph, DependsOn, Closed}
use Rattle.netlist.specs.Marks.{listed}
use Rattle.netlist.specs.Order.{order, order_marks, AllListed}
use Rattle.netlist.specs.Rows.{row_length, row_at, zero_row, Inside, rows_of, graph_of}
use Rattle.netlist.specs.OrderedRows.{row_in_order, list_of}
use Rattle.scheduling.specs.Scheduling.{Answers}
use Rattle.netlist.specs.declared.row.Row.{Row}
use Rattle.netlist.proofs.LoopLaws.{Looped, stuck_loop, order_ended}
use Rattle.netlist.proofs.OrderLaws.{listed_no_loop, lowest_loop_unique, order_placed}

-- what building promises determines its answer
pub answers_unique : (g : Graph) (n : ℕ) (r s : Result ℕ ℕ) → Answers g n r → Answers g n s → r ≡ s
answers_unique g n (Ok k) (Ok l) p q = ap Ok (p.0 ∙ sym q.0)
answers_unique g n (Ok k) (Err w) p q = absurd (p.1.1 w q.0 (q.1.here q.0))
answers_unique g n (Err v) (Ok l) p q = absurd (q.1.1 v p.0 (p.1.here p.0))
answers_unique g n (Err v) (Err w) p q = ap Err (lowest_loop_unique g n v w p.1 q.1)

-- ---- the first wire that is left over

module _ (g : Graph) (n many : ℕ) (m : List ℕ) (cl : Closed g n) (is : m ≡ order_marks g n) (long : many ≡ n) where
  abbrev over : ℕ → Bool
  over w = g.wire w && not (listed (order_marks g n) w)

  found : (r : Option ℕ) → r ≡ below many (first (λ w. g.wire w && not (listed m w)) 0 many) → below n (first over 0 n) ≡ r
  found r at =
      sym
      (at ∙ ap (λ (k : ℕ). below k (first (λ w. g.wire w && not (listed m w)) 0 k)) long
      ∙ ap (λ (t : List ℕ). below n (first (λ w. g.wire w && not (listed t w)) 0 n)) is)

  pub none_left : None ≡ below many (first (λ w. g.wire w && not (listed m w)) 0 many) → AllListed g n × ((v : ℕ) → v < n → DependsOn g v v → ⊥)
  none_left at = (all, listed_no_loop g n cl all)
    where
      all : AllListed g n
      all w l iw = not-false _ (rw iw at (below_first_none over n (found None at) w l))

  pub one_left : {r : ℕ} → Some r ≡ below many (first (λ w. g.wire w && not (listed m w)) 0 many) → Looped g n
  one_left {r} at =
      let h = below_first_some over n r (found (Some r) at) in
      stuck_loop g n (order_marks g n) cl (order_ended g n).1 r h.0 (and_left (g.wire r) _ h.1) (not-true _ (and_right (g.wire r) _ h.1))

-- ---- the rows of a list, from the wires in order

module _ (rows wires : List ℕ) (count k : ℕ) where
  pub row_in_order_at : k < count → row_in_order rows wires count k ≡ row_at rows (get_or wires k 0)
  unfolding row_in_order
  row_in_order_at l = rw (lt-ltb _ _ l)

  pub row_in_order_past : count ≤ k → row_in_order rows wires count k ≡ zero_row
  unfolding row_in_order
  row_in_order_past l = rw (le-ltb _ _ l)

-- ---- the order, with whatever stands behind it in the queue

module _ (rows : List ℕ) (n : ℕ) (queue behind : List ℕ) (count : ℕ) (is : queue ≡ order (graph_of rows) n ++ behind) (many : count ≡ length (order (graph_of rows) n)) where
  abbrev wires : List ℕ
  wires = order (graph_of rows) n

  pub queue_long : count ≤ length queue
  queue_long = let e = ap length is ∙ length-append wires behind in omega arith

  queue_at : (k : ℕ) → k < count → get_or queue k 0 ≡ get_or wires k 0
  queue_at k l = ap (λ (t : List ℕ). get_or t k 0) is ∙ get_or-append wires behind 0 k (omega arith)

  pub queue_inside : length rows ≡ row_length * n → (k : ℕ) → k < count → Inside rows (get_or queue k 0)
  queue_inside e k l =
      let q = queue_at k l in
      let b = (order_placed (graph_of rows) n).wire_lt k (omega arith) in
      omega arith

  -- the rows written from the queue are those of the order
  pub queue_list : rows_of (row_in_order rows queue count) n ≡ list_of rows n
  unfolding row_in_order
  queue_list = ap (λ (f : ℕ → Row). rows_of f n) (fun_ext (λ k. same k (lt_or_le k count)) ∙ ap (row_in_order rows wires) many)
    where
      same : (k : ℕ) → (k < count) ⊎ (count ≤ k) → row_in_order rows queue count k ≡ row_in_order rows wires count k
      same k (inl l) = rw (lt-ltb _ _ l, queue_at k l)
      same k (inr l) = rw (le-ltb _ _ l)
