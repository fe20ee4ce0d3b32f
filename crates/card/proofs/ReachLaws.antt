-- One pass over the list, from its last row down, marks what the marked wires depend on: a row reads only wires of earlier rows, so the mark of a row's
-- wire is final when the pass comes to it. Main law: `reach_exact`. Assumes nothing.
use Prim.Native.Nat.{ℕ, zero, suc, ◌≤◌, ◌<◌}
use mathlib.Core.Path.{◌≡◌, sym, ap, subst, ◌∙◌}
use mathlib.Core.Bool.{true}
use mathlib.Core.Logic.{◌⊎◌, inl, inr, ⊎_elim, ◌↔◌}
use mathlib.Core.List.{List}
use native.Mathlib.Omega.{arith}
use native.Mathlib.Nat.{eq-or-lt_of_le, le_of_suc-le-suc}
use lib.ListN.{length, get_or}
use Rattle.lists.proofs.CaseLaws.{clash}
use Rattle.netlist.specs.declared.row.Row.{Row}
use Rattle.netlist.specs.Graph.{Graph, Reads, DependsOn, reads, via, Closed}
use Rattle.netlist.specs.Marks.{listed}
use Rattle.netlist.specs.Order.{order, AllListed}
use Rattle.netlist.specs.Rows.{row_at, arity_of, operand_of, graph_of}
use Rattle.netlist.specs.OrderedRows.{list_of}
use Rattle.netlist.proofs.MarkLaws.{zeros_unlisted, listed_lt}
use Rattle.netlist.proofs.OrderLaws.{order_placed, order_member}
use Rattle.netlist.proofs.ListLaws.{list_row, list_wire}
use Rattle.card.specs.Marks.{read_marks, touched, reach}
use Rattle.card.proofs.MarkingLaws.{Marked, marked_none, marked_one, marked_both, marked_as, marked_if}

-- ---- one row

-- one of the first n operands of a row
abbrev Operand : Row → ℕ → ℕ → Type 0
Operand row n d = (j : ℕ) × (j < n) × (operand_of row j ≡ d)

reads_marked : (row : Row) (n : ℕ) (m : List ℕ) → ((j : ℕ) → j < n → operand_of row j < length m) → Marked (Operand row n) m (read_marks row n m)
unfolding read_marks
reads_marked row zero m there = marked_none {P = Operand row zero} m (λ w p. let z = p.1 in absurd (omega arith))
reads_marked row (suc n) m there =
    let M = reads_marked row n m (λ j l. there j (omega arith)) in
    let e = M.long in
    let l = there n (omega arith) in
    marked_as
    (λ w p. ⊎_elim (λ (r : Operand row n w). let z = r.1 in (r.0, omega arith, r.2)) (λ (q : operand_of row n ≡ w). (n, omega arith, q)) p)
    (λ w p.
    ⊎_elim (λ (q : p.0 ≡ n). inr (subst (λ (i : ℕ). operand_of row i ≡ w) q p.2)) (λ (z : p.0 < n). inl (p.0, z, p.2))
    (eq-or-lt_of_le (le_of_suc-le-suc p.1)))
    (marked_both M (marked_one (read_marks row n m) (operand_of row n) (omega arith)))

touched_marked : (row : Row) (m : List ℕ) → ((j : ℕ) → j < arity_of row → operand_of row j < length m)
    → Marked (λ d. (listed m row.wire ≡ true) × Operand row (arity_of row) d) m (touched row m)
unfolding touched
touched_marked row m there = marked_if (listed m row.wire) (reads_marked row (arity_of row) m there)

-- ---- the rows of a list in order

module _ (rows : List ℕ) (n : ℕ) (named : (w : ℕ) → (graph_of rows).wire w ≡ true → (row_at rows w).wire ≡ w) (closed : Closed (graph_of rows) n)
    (all : AllListed (graph_of rows) n) where
  abbrev g : Graph
  g = graph_of rows

  abbrev ws : List ℕ
  ws = order (graph_of rows) n

  abbrev list : List ℕ
  list = list_of rows n

  -- row k touches what its wire reads, if that wire is marked
  row_marked : (k : ℕ) (m : List ℕ) → k < length (order (graph_of rows) n) → length m ≡ n
      → Marked (λ d. (listed m (get_or (order (graph_of rows) n) k 0) ≡ true) × Reads (graph_of rows) (get_or (order (graph_of rows) n) k 0) d) m
      (touched (row_at (list_of rows n) k) m)
  row_marked k m l e =
      let r = list_row rows n named all k l in
      let w = list_wire rows n named all k l in
      marked_as
      (λ d p. (rw w at p.0, let (j, h, o) = p.1 in (j, rw r at h, ap (λ (x : Row). operand_of x j) (sym r) ∙ o)))
      (λ d p. (rw w p.0, let (j, h, o) = p.1 in (j, rw r h, ap (λ (x : Row). operand_of x j) r ∙ o)))
      (touched_marked (row_at list k) m
      (λ j h. rw e (closed.below (get_or ws k 0) (operand_of (row_at list k) j) (j, rw r at h, ap (λ (x : Row). operand_of x j) (sym r)))))

  -- from row k on, what marked wires read is marked
  abbrev Done : ℕ → List ℕ → Type 0
  Done k m =
      (i : ℕ) → k ≤ i → i < length (order (graph_of rows) n) → listed m (get_or (order (graph_of rows) n) i 0) ≡ true → (d : ℕ)
      → Reads (graph_of rows) (get_or (order (graph_of rows) n) i 0) d → listed m d ≡ true

  -- a wire of a later row is not read by row k, so its mark stays as it is
  later_same : (k i : ℕ) (m : List ℕ) → k < i → i < length (order (graph_of rows) n) → length m ≡ n
      → listed (touched (row_at (list_of rows n) k) m) (get_or (order (graph_of rows) n) i 0) ≡ true → listed m (get_or (order (graph_of rows) n) i 0) ≡ true
  later_same k i m l h e t =
      let P = order_placed g n in
      ⊎_elim (λ z. z)
      (λ p.
      ⊎_elim (λ z. clash z (zeros_unlisted n (get_or ws i 0)))
      (λ s. let b = s.1 in absurd (P.distinct s.0 i (omega arith) h s.2))
      (P.reads_before k (get_or ws i 0) (omega arith) p.1))
      ((row_marked k m (omega arith) e).only (get_or ws i 0) t)

  done_step : (k : ℕ) (m : List ℕ) → k < length (order (graph_of rows) n) → length m ≡ n → Done (suc k) m → Done k (touched (row_at (list_of rows n) k) m)
  done_step k m l e D i ki li h d r =
      let M = row_marked k m l e in
      ⊎_elim
      (λ (q : k ≡ i).
      let own : listed m (get_or ws k 0) ≡ true =
      ⊎_elim (λ z. z)
      (λ p.
      ⊎_elim (λ z. clash z (zeros_unlisted n (get_or ws k 0)))
      (λ s. let b = s.1 in absurd ((order_placed g n).distinct s.0 k b l s.2))
      ((order_placed g n).reads_before k (get_or ws k 0) l p.1))
      (M.only (get_or ws k 0) (subst (λ (x : ℕ). listed (touched (row_at list k) m) (get_or ws x 0) ≡ true) (sym q) h)) in
      M.all d (own, subst (λ (x : ℕ). Reads g (get_or ws x 0) d) (sym q) r))
      (λ (q : k < i). M.kept d (D i q li (later_same k i m q li e h) d r)) (eq-or-lt_of_le ki)

  reach_done : (k : ℕ) (m : List ℕ) → k ≤ length (order (graph_of rows) n) → length m ≡ n → Done k m → Done 0 (reach (list_of rows n) k m)
  unfolding reach
  reach_done zero m l e D = D
  reach_done (suc k) m l e D = reach_done k (touched (row_at list k) m) (omega arith) ((row_marked k m l e).long ∙ e) (done_step k m l e D)

  pub reach_length : (k : ℕ) (m : List ℕ) → k ≤ length (order (graph_of rows) n) → length m ≡ n → length (reach (list_of rows n) k m) ≡ n
  unfolding reach
  reach_length zero m l e = e
  reach_length (suc k) m l e = reach_length k (touched (row_at list k) m) (omega arith) ((row_marked k m l e).long ∙ e)

  reach_kept : (k : ℕ) (m : List ℕ) → k ≤ length (order (graph_of rows) n) → length m ≡ n → (w : ℕ) → listed m w ≡ true → listed (reach (list_of rows n) k m) w ≡ true
  unfolding reach
  reach_kept zero m l e w h = h
  reach_kept (suc k) m l e w h =
      let M = row_marked k m l e in
      reach_kept k (touched (row_at list k) m) (omega arith) (M.long ∙ e) w (M.kept w h)

  -- a marked wire depends on d
  abbrev pub Comes : List ℕ → ℕ → Type 0
  Comes m d = (r : ℕ) × (listed m r ≡ true) × DependsOn (graph_of rows) r d

  reach_only : (k : ℕ) (m : List ℕ) → k ≤ length (order (graph_of rows) n) → length m ≡ n → (d : ℕ) → listed (reach (list_of rows n) k m) d ≡ true
      → (listed m d ≡ true) ⊎ Comes m d
  unfolding reach
  reach_only zero m l e d h = inl h
  reach_only (suc k) m l e d h =
      let M = row_marked k m l e in
      ⊎_elim (λ z. ⊎_elim inl (λ p. inr (get_or ws k 0, p.0, reads p.1)) (M.only d z))
      (λ c.
      let (r, z, dep) = c in
      ⊎_elim (λ y. inr (r, y, dep)) (λ p. inr (get_or ws k 0, p.0, via p.1 dep)) (M.only r z))
      (reach_only k (touched (row_at list k) m) (omega arith) (M.long ∙ e) d h)

  -- what is done reaches everything that a marked wire depends on
  done_depends : (m : List ℕ) → Done 0 m → {r d : ℕ} → r < n → g.wire r ≡ true → listed m r ≡ true → DependsOn (graph_of rows) r d → listed m d ≡ true
  done_depends m D {r} {d} l iw h (reads s) =
      let (i, li, q) = (order_member g n r).0 (all r l iw) in
      D i (omega arith) li (rw q h) d (rw q s)
  done_depends m D {r} {d} l iw h (via {m = v} s dep) =
      let (i, li, q) = (order_member g n r).0 (all r l iw) in
      done_depends m D (closed.below r v s) (closed.wires r v s) (D i (omega arith) li (rw q h) v (rw q s)) dep

  -- after the pass a wire is marked exactly if it was, or if a marked wire depends on it
  pub reach_exact : (m : List ℕ) → length m ≡ n → ((w : ℕ) → listed m w ≡ true → (graph_of rows).wire w ≡ true) → (d : ℕ)
      → (listed (reach (list_of rows n) (length (order (graph_of rows) n)) m) d ≡ true) ↔ ((listed m d ≡ true) ⊎ Comes m d)
  reach_exact m e wires d =
      let len = length (order (graph_of rows) n) in
      let D = reach_done (length (order (graph_of rows) n)) m (omega arith) e (λ i l h. absurd (omega arith)) in (
        reach_only (length (order (graph_of rows) n)) m (omega arith) e d,
        λ s.
            ⊎_elim (λ h. reach_kept (length (order (graph_of rows) n)) m (omega arith) e d h)
            (λ c.
            let (r, z, dep) = c in
            done_depends (reach list (length ws) m) D (rw e at (listed_lt m r z)) (wires r z) (reach_kept (length (order (graph_of rows) n)) m (omega arith) e r z) dep)
            s,
      )
