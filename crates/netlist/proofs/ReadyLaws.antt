-- When a wire is ready, which is next, and induction over the order. Main law: `order_induction`.
use mathlib.Core.Path.{◌≡◌, refl, sym, subst, ◌∙◌}
use mathlib.Core.Bool.{Bool, true, false, not}
use mathlib.Core.Logic.{⊎_elim}
use mathlib.Core.List.{List, [], ◌∷◌}
use Prim.Native.Nat.{ℕ, zero, suc, ◌<◌, ◌≤◌}
use native.Mathlib.Omega.{arith}
use borrow.Author.Tests.{lt-ltb, le-ltb, not-true}
use lib.ListN.{length, set, length-set}
use Rattle.lists.specs.Search.{all_from}
use Rattle.lists.specs.Tables.{zeros}
use Rattle.lists.proofs.CaseLaws.{cases, clash, lt_or_le, and_left, and_right, and_true, and_false_left, and_false_right}
use Rattle.lists.proofs.SearchLaws.{first_at, first_none, first_le, first_true, first_before, all_at, all_of, all_not}
use Rattle.lists.proofs.TableLaws.{zeros_length}
use Rattle.netlist.specs.Graph.{Graph, Reads}
use Rattle.netlist.specs.Marks.{listed, unmarked}
use Rattle.netlist.specs.Order.{ready, next, order_from, order}
use Rattle.netlist.proofs.MarkLaws.{unlisted_zero, unmarked_set, unmarked_zeros, unmarked_none}

-- ---- ready

module _ (g : Graph) (m : List ℕ) (w : ℕ) where
  abbrev dependencies : Bool
  dependencies = all_from (λ j. listed m (g.operand w j)) 0 (g.arity w)

  pub ready_true : g.wire w ≡ true → listed m w ≡ false → ((j : ℕ) → j < g.arity w → listed m (g.operand w j) ≡ true) → ready g m w ≡ true
  unfolding ready
  ready_true k u h = and_true k (and_true {a = not (listed m w)} (rw u) (all_of (λ j. listed m (g.operand w j)) 0 (g.arity w) (λ j a b. h j (omega arith))))

  pub ready_no_wire : g.wire w ≡ false → ready g m w ≡ false
  unfolding ready
  ready_no_wire k = and_false_left _ _ k

  pub ready_listed : listed m w ≡ true → ready g m w ≡ false
  unfolding ready
  ready_listed h = and_false_right (g.wire w) _ (and_false_left (not (listed m w)) dependencies (rw h))

  pub ready_waiting : (j : ℕ) → j < g.arity w → listed m (g.operand w j) ≡ false → ready g m w ≡ false
  unfolding ready
  ready_waiting j l u =
      and_false_right (g.wire w) _
      (and_false_right (not (listed m w)) dependencies
      (⊎_elim (λ t. clash (all_at (λ j. listed m (g.operand w j)) 0 (g.arity w) j t (omega arith) (omega arith)) u) (λ f. f) (cases dependencies)))

  pub ready_wire : ready g m w ≡ true → g.wire w ≡ true
  unfolding ready
  ready_wire e = and_left _ _ e

  pub ready_unlisted : ready g m w ≡ true → listed m w ≡ false
  unfolding ready
  ready_unlisted e = not-true _ (and_left _ _ (and_right (g.wire w) _ e))

  pub ready_reads : ready g m w ≡ true → (d : ℕ) → Reads g w d → listed m d ≡ true
  unfolding ready
  ready_reads e d r =
      subst (λ (x : ℕ). listed m x ≡ true) r.2
      (all_at (λ j. listed m (g.operand w j)) 0 (g.arity w) r.0 (and_right (not (listed m w)) _ (and_right (g.wire w) _ e)) (omega arith)
      (let l = r.1 in omega arith))

  -- a wire that is not listed and not ready reads one that is not listed
  pub ready_false_reads : ready g m w ≡ false → g.wire w ≡ true → listed m w ≡ false → (d : ℕ) × Reads g w d × (listed m d ≡ false)
  unfolding ready
  ready_false_reads e iw new =
      let r = all_not (λ j. listed m (g.operand w j)) 0 (g.arity w) (rw (iw, new) at e) in
      (g.operand w r.0, (r.0, (let l = r.2 in omega arith), refl), r.3)

-- ---- next

module _ (g : Graph) (n : ℕ) (m : List ℕ) where
  pub next_le : next g n m ≤ n
  unfolding next
  next_le = let h = first_le (ready g m) 0 n in omega arith

  pub next_ready : next g n m < n → ready g m (next g n m) ≡ true
  unfolding next
  next_ready l = first_true (ready g m) 0 n (omega arith)

  pub next_none : n ≤ next g n m → (w : ℕ) → w < n → ready g m w ≡ false
  unfolding next
  next_none h w l = first_before (ready g m) 0 n w (omega arith) (omega arith)

  -- the search is at r: none before it is ready, and r is
  pub next_at : (r : ℕ) → r < n → ((k : ℕ) → k < r → ready g m k ≡ false) → ready g m r ≡ true → r ≡ next g n m
  unfolding next
  next_at r l before here = sym (first_at (ready g m) r n l here before)

  pub next_end : (r : ℕ) → r ≤ n → n ≤ r → ((k : ℕ) → k < r → ready g m k ≡ false) → r ≡ next g n m
  unfolding next
  next_end r a b before = let e = first_none (ready g m) n (λ k l. before k (omega arith)) in omega arith

  pub order_from_step : (k : ℕ) → next g n m < n → order_from g n (suc k) m ≡ next g n m ∷ order_from g n k (set m (next g n m) 1)
  unfolding order_from
  order_from_step k l = rw (lt-ltb _ _ l, order_from)

  pub order_from_end : (k : ℕ) → n ≤ next g n m → order_from g n k m ≡ []
  unfolding order_from
  order_from_end zero h = refl
  order_from_end (suc k) h = rw (le-ltb _ _ h, order_from)

  -- the next wire is one mark more
  pub next_unmarked : length m ≡ n → next g n m < n → suc (unmarked (set m (next g n m) 1)) ≡ unmarked m
  next_unmarked e l = unmarked_set m (next g n m) (omega arith) (unlisted_zero m _ (ready_unlisted g m _ (next_ready l)))

  -- with all marked none is ready
  next_all : length m ≡ n → unmarked m ≡ 0 → n ≤ next g n m
  next_all e u =
      ⊎_elim (λ (l : next g n m < n). clash (unmarked_none m _ u (omega arith)) (ready_unlisted g m _ (next_ready l))) (λ h. h) (lt_or_le (next g n m) n)

-- what holds where no wire is ready, and is kept by each step back, holds of the order
module _ (g : Graph) (n : ℕ) (P : List ℕ → List ℕ → Type 0)
    (stop : (m : List ℕ) → length m ≡ n → n ≤ next g n m → P m [])
    (go : (m l : List ℕ) (w : ℕ) → length m ≡ n → w < n → ready g m w ≡ true → P (set m w 1) l → P m (w ∷ l)) where
  order_from_induction : (k : ℕ) (m : List ℕ) → length m ≡ n → unmarked m ≤ k → P m (order_from g n k m)
  unfolding order_from
  order_from_induction zero m e u = stop m e (next_all g n m e (omega arith))
  order_from_induction (suc k) m e u =
      ⊎_elim
      (λ (l : next g n m < n).
      let c = next_unmarked g n m e l in
      rw (order_from_step g n m k l)
      (go m _ (next g n m) e l (next_ready g n m l) (order_from_induction k (set m (next g n m) 1) (length-set m _ 1 ∙ e) (omega arith))))
      (λ (h : n ≤ next g n m). rw (order_from_end g n m (suc k) h) (stop m e h)) (lt_or_le (next g n m) n)

  pub order_induction : P (zeros n) (order g n)
  unfolding order
  order_induction = order_from_induction n (zeros n) (zeros_length n) (let c = unmarked_zeros n in omega arith)
