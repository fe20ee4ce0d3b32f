-- "The next row is always that of the lowest-numbered wire not yet listed whose dependencies all are": a wire that is lower than the next one is
-- listed, or reads a wire that is not. Main law: `order_lowest`. Assumes nothing.
use Prim.Native.Nat.{ℕ, zero, suc, ◌<◌, ◌≤◌}
use mathlib.Core.Path.{◌≡◌, sym, ap, ◌∙◌}
use mathlib.Core.Bool.{true}
use mathlib.Core.Logic.{◌⊎◌, inl, inr, ⊎_elim, ◌≢◌}
use mathlib.Core.List.{List, ◌∷◌}
use native.Mathlib.Nat.{le_of_suc-le-suc}
use native.Mathlib.Omega.{arith}
use lib.ListN.{length, get_or, set, length-set}
use Rattle.lists.specs.Tables.{zeros}
use Rattle.lists.proofs.CaseLaws.{cases, clash, eq_or_ne, lt_or_le}
use Rattle.lists.proofs.SearchLaws.{first_before}
use Rattle.lists.proofs.TableLaws.{zeros_length}
use Rattle.netlist.specs.Graph.{Graph, Reads}
use Rattle.netlist.specs.Marks.{listed}
use Rattle.netlist.specs.Order.{ready, next, order_from, order}
use Rattle.netlist.proofs.MarkLaws.{listed_set_same, listed_set_other, listed_set_kept, zeros_unlisted}
use Rattle.netlist.proofs.ReadyLaws.{ready_false_reads, order_from_step, order_from_end}

-- wire v is one of the first k of l
abbrev pub Ahead : List ℕ → ℕ → ℕ → Type 0
Ahead l k v = (i : ℕ) × (i < k) × (get_or l i 0 ≡ v)

-- it is marked, or one of these
abbrev Came : List ℕ → List ℕ → ℕ → ℕ → Type 0
Came m l k v = (listed m v ≡ true) ⊎ Ahead l k v

module _ (g : Graph) (n : ℕ) where
  abbrev Lowest : List ℕ → List ℕ → Type 0
  Lowest m l = (k : ℕ) → k < length l → (v : ℕ) → v < get_or l k 0 → g.wire v ≡ true → Came m l k v ⊎ ((d : ℕ) × Reads g v d × (Came m l k d → ⊥))

  module _ (m l : List ℕ) (w : ℕ) (lw : w < length m) where
    came_on : (k v : ℕ) → Came (set m w 1) l k v → Came m (w ∷ l) (suc k) v
    came_on k v c =
        ⊎_elim
        (λ t. ⊎_elim (λ (q : v ≡ w). inr (0, omega arith, sym q)) (λ (ne : v ≢ w). inl (sym (listed_set_other m w v ne) ∙ t)) (eq_or_ne v w))
        (λ s. inr (suc s.0, (let a = s.1 in omega arith), s.2)) c

    came_back : (k v : ℕ) → Came m (w ∷ l) (suc k) v → Came (set m w 1) l k v
    came_back k v c = ⊎_elim (λ t. inl (listed_set_kept m w v lw t)) (λ s. at s.0 s.1 s.2) c
      where
        at : (i : ℕ) → i < suc k → get_or (w ∷ l) i 0 ≡ v → Came (set m w 1) l k v
        at zero a e = inl (ap (listed (set m w 1)) (sym e) ∙ listed_set_same m w lw)
        at (suc i) a e = inr (i, le_of_suc-le-suc a, e)

  lowest_step : (m l : List ℕ) → length m ≡ n → next g n m < n → Lowest (set m (next g n m) 1) l → Lowest m (next g n m ∷ l)
  unfolding next
  lowest_step m l e lw h zero lk v lv iv =
      ⊎_elim (λ t. inl (inl t))
      (λ f.
      let r = ready_false_reads g m v (first_before (ready g m) 0 n v (omega arith) lv) iv f in
      inr (r.0, r.1, λ c. ⊎_elim (λ t. clash t r.2) (λ s. let a = s.1 in absurd (omega arith)) c)) (cases (listed m v))
  lowest_step m l e lw h (suc k) lk v lv iv =
      ⊎_elim (λ c. inl (came_on m l (next g n m) (omega arith) k v c))
      (λ r. inr (r.0, r.1, λ c. r.2 (came_back m l (next g n m) (omega arith) k r.0 c))) (h k (le_of_suc-le-suc lk) v lv iv)

  lowest_from : (k : ℕ) (m : List ℕ) → length m ≡ n → Lowest m (order_from g n k m)
  unfolding order_from
  lowest_from zero m e = λ j l. absurd (omega arith)
  lowest_from (suc k) m e =
      ⊎_elim
      (λ (l : next g n m < n).
      rw (order_from_step g n m k l) (lowest_step m (order_from g n k (set m (next g n m) 1)) e l (lowest_from k (set m (next g n m) 1) (length-set m (next g n m) 1 ∙ e))))
      (λ (h : n ≤ next g n m). rw (order_from_end g n m (suc k) h) (λ j l. absurd (omega arith))) (lt_or_le (next g n m) n)

  pub order_lowest : (k : ℕ) → k < length (order g n) → (v : ℕ) → v < get_or (order g n) k 0 → g.wire v ≡ true
      → Ahead (order g n) k v ⊎ ((d : ℕ) × Reads g v d × (Ahead (order g n) k d → ⊥))
  unfolding order
  order_lowest k l v lv iv =
      ⊎_elim (λ c. inl (⊎_elim (λ t. clash t (zeros_unlisted n v)) (λ s. s) c)) (λ r. inr (r.0, r.1, λ s. r.2 (inr s)))
      (lowest_from n (zeros n) (zeros_length n) k l v lv iv)
