-- The wires that the order gives: each once, none before what it reads (`Placed`); and how many are still to come (`waiting`).
use mathlib.Core.Path.{◌≡◌, refl, sym, ap, ◌∙◌}
use mathlib.Core.Bool.{true, false, not, ◌&&◌}
use mathlib.Core.Logic.{◌⊎◌, inl, inr, ⊎_elim, ◌≢◌}
use mathlib.Core.List.{List, [], ◌∷◌}
use Prim.Native.Nat.{ℕ, zero, suc, ◌<◌}
use native.Mathlib.Nat.{le_of_suc-le-suc}
use native.Mathlib.Omega.{arith}
use lib.ListN.{length, get_or, set}
use Rattle.lists.specs.Search.{count_below}
use Rattle.lists.proofs.CaseLaws.{eq_or_ne, and_true, and_false_right}
use Rattle.lists.proofs.CountLaws.{count_one_more}
use Rattle.netlist.specs.Graph.{Graph, Reads}
use Rattle.netlist.specs.Marks.{listed, marks_after}
use Rattle.netlist.specs.Order.{ready}
use Rattle.netlist.proofs.MarkLaws.{listed_set_same, listed_set_other, listed_set_kept, unlisted_set_before}
use Rattle.netlist.proofs.ReadyLaws.{ready_wire, ready_unlisted, ready_reads}

-- how many wires are not marked
pub waiting : Graph → ℕ → List ℕ → ℕ
waiting g n m = count_below (λ w. g.wire w && not (listed m w)) n

module _ (g : Graph) (n : ℕ) where
  pub waiting_is : (m : List ℕ) → waiting g n m ≡ count_below (λ w. g.wire w && not (listed m w)) n
  unfolding waiting
  waiting_is m = refl

  pub waiting_step : (m : List ℕ) (w : ℕ) → length m ≡ n → w < n → ready g m w ≡ true → suc (waiting g n (set m w 1)) ≡ waiting g n m
  unfolding waiting
  waiting_step m w e l r =
      count_one_more _ _ w n l (and_false_right (g.wire w) _ (rw (listed_set_same m w (omega arith)))) (and_true (ready_wire g m w r) (rw (ready_unlisted g m w r)))
      (λ i ne. ap (λ b. g.wire i && not b) (listed_set_other m w i ne))

-- ---- a list's wires, from the marks m on: what each is, shown at the head and kept behind it

-- l holds w
abbrev pub Has : List ℕ → ℕ → Type 0
Has l w = (k : ℕ) × (k < length l) × (get_or l k 0 ≡ w)

pub record Placed (g : Graph) (n : ℕ) (m l : List ℕ) : Type 0 where
  -- its wires are wires, and not marked before
  pub wire_lt : (k : ℕ) → k < length l → get_or l k 0 < n
  pub is_wire : (k : ℕ) → k < length l → g.wire (get_or l k 0) ≡ true
  pub unlisted : (k : ℕ) → k < length l → listed m (get_or l k 0) ≡ false
  -- no wire is there twice
  pub distinct : (i j : ℕ) → i < j → j < length l → get_or l i 0 ≢ get_or l j 0
  -- the marks at the end are those before and the list's
  pub has_marked : (w : ℕ) → listed (marks_after m l) w ≡ true → (listed m w ≡ true) ⊎ Has l w
  pub marked_kept : (w : ℕ) → listed m w ≡ true → listed (marks_after m l) w ≡ true
  pub marked : (k : ℕ) → k < length l → listed (marks_after m l) (get_or l k 0) ≡ true
  -- what one reads is marked before, or comes earlier
  pub reads_before : (k d : ℕ) → k < length l → Reads g (get_or l k 0) d → (listed m d ≡ true) ⊎ ((i : ℕ) × (i < k) × (get_or l i 0 ≡ d))

pub placed_end : (g : Graph) (n : ℕ) (m : List ℕ) → Placed g n m []
placed_end g n m = record {
  wire_lt = λ k l. absurd (omega arith);
  is_wire = λ k l. absurd (omega arith);
  unlisted = λ k l. absurd (omega arith);
  distinct = λ i j a l. absurd (omega arith);
  has_marked = λ w h. inl h;
  marked_kept = λ w h. h;
  marked = λ k l. absurd (omega arith);
  reads_before = λ k d l. absurd (omega arith);
}

module _ (g : Graph) (n : ℕ) (m l : List ℕ) (w : ℕ) (e : length m ≡ n) (lt : w < n) (r : ready g m w ≡ true) (h : Placed g n (set m w 1) l) where
  lm : w < length m
  lm = omega arith

  placed_wire_lt : (k : ℕ) → k < suc (length l) → get_or (w ∷ l) k 0 < n
  placed_wire_lt zero a = lt
  placed_wire_lt (suc k) a = h.wire_lt k (le_of_suc-le-suc a)

  placed_is_wire : (k : ℕ) → k < suc (length l) → g.wire (get_or (w ∷ l) k 0) ≡ true
  placed_is_wire zero a = ready_wire g m w r
  placed_is_wire (suc k) a = h.is_wire k (le_of_suc-le-suc a)

  placed_unlisted : (k : ℕ) → k < suc (length l) → listed m (get_or (w ∷ l) k 0) ≡ false
  placed_unlisted zero a = ready_unlisted g m w r
  placed_unlisted (suc k) a = (unlisted_set_before m w _ lm (h.unlisted k (le_of_suc-le-suc a))).1

  placed_distinct : (i j : ℕ) → i < j → j < suc (length l) → get_or (w ∷ l) i 0 ≢ get_or (w ∷ l) j 0
  placed_distinct i zero a b q = absurd (omega arith)
  placed_distinct zero (suc j) a b q = (unlisted_set_before m w _ lm (h.unlisted j (le_of_suc-le-suc b))).0 (sym q)
  placed_distinct (suc i) (suc j) a b q = h.distinct i j (le_of_suc-le-suc a) (le_of_suc-le-suc b) q

  placed_has : (v : ℕ) → listed (marks_after (set m w 1) l) v ≡ true → (listed m v ≡ true) ⊎ Has (w ∷ l) v
  placed_has v t =
      ⊎_elim
      (λ s. ⊎_elim (λ (q : v ≡ w). inr (0, omega arith, sym q)) (λ ne. inl (sym (listed_set_other m w v ne) ∙ s)) (eq_or_ne v w))
      (λ s. inr (suc s.0, (let a = s.1 in omega arith), s.2))
      (h.has_marked v t)

  placed_marked : (k : ℕ) → k < suc (length l) → listed (marks_after (set m w 1) l) (get_or (w ∷ l) k 0) ≡ true
  placed_marked zero a = h.marked_kept w (listed_set_same m w lm)
  placed_marked (suc k) a = h.marked k (le_of_suc-le-suc a)

  placed_reads : (k d : ℕ) → k < suc (length l) → Reads g (get_or (w ∷ l) k 0) d → (listed m d ≡ true) ⊎ ((i : ℕ) × (i < k) × (get_or (w ∷ l) i 0 ≡ d))
  placed_reads zero d a s = inl (ready_reads g m w r d s)
  placed_reads (suc k) d a s =
      ⊎_elim
      (λ t. ⊎_elim (λ (q : d ≡ w). inr (0, omega arith, sym q)) (λ ne. inl (sym (listed_set_other m w d ne) ∙ t)) (eq_or_ne d w))
      (λ t. inr (suc t.0, (let b = t.1 in omega arith), t.2))
      (h.reads_before k d (le_of_suc-le-suc a) s)

  pub placed_step : Placed g n m (w ∷ l)
  placed_step = record {
    wire_lt = placed_wire_lt;
    is_wire = placed_is_wire;
    unlisted = placed_unlisted;
    distinct = placed_distinct;
    has_marked = placed_has;
    marked_kept = λ v t. h.marked_kept v (listed_set_kept m w v lm t);
    marked = placed_marked;
    reads_before = placed_reads;
  }
