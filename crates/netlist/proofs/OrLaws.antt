-- Numbers or-ed, of which none is higher than the whole. Main laws: `AtMost` with `at_most_start`, `-more`; `rows_none`: rows whose numbers
-- are all 0.
use Prim.Native.Nat.{ℕ, zero, suc, ◌+◌, ◌*◌, ◌-◌, ◌<◌, ◌≤◌}
use mathlib.Core.Path.{◌≡◌, sym, ◌∙◌, ap}
use mathlib.Core.Bool.{Bool, true, false, not}
use mathlib.Core.Logic.{⊎_elim}
use mathlib.Core.List.{List}
use native.Mathlib.Omega.{arith}
use borrow.Author.Tests.{eq-eqb}
use lib.Bits.{bit_or, or_add_and, and_le_r, or_comm}
use lib.ListN.{get_or}
use Rattle.lists.specs.Search.{first}
use Rattle.lists.proofs.CaseLaws.{lt_or_le}
use Rattle.netlist.specs.Rows.{row_length, row_at}
use Rattle.netlist.specs.Checking.{zero_test}
use Rattle.netlist.proofs.GoodLaws.{zero_last}

or_left : (a b : ℕ) → a ≤ bit_or a b
or_left a b = omega (arith, or_add_and a b, and_le_r a b)

or_right : (a b : ℕ) → b ≤ bit_or a b
or_right a b = omega (arith, or_left b a, or_comm a b)

-- the numbers from `from` on, below i, are at most x
abbrev pub AtMost : List ℕ → ℕ → ℕ → ℕ → Type 0
AtMost l from i x = (k : ℕ) → from ≤ k → k < i → get_or l k 0 ≤ x

pub at_most_start : (l : List ℕ) (from x : ℕ) → AtMost l from from x
at_most_start l from x k a b = absurd (omega arith)

pub at_most_more : (l : List ℕ) (from i x : ℕ) → AtMost l from i x → AtMost l from (i + 1) (bit_or x (get_or l i 0))
at_most_more l from i x h k a b =
    ⊎_elim (λ (g : k < i). omega (arith, h k a g, or_left x (get_or l i 0)))
    (λ (g : i ≤ k). let e : k ≡ i = omega arith in omega (arith, ap (λ (j : ℕ). get_or l j 0) e, or_right x (get_or l i 0))) (lt_or_le k i)

-- a search that finds none
first_nowhere : (p : ℕ → Bool) (i m : ℕ) → ((k : ℕ) → i ≤ k → k < i + m → p k ≡ false) → i + m ≡ first p i m
unfolding first
first_nowhere p i zero h = omega arith
first_nowhere p i (suc m) h = rw (h i (omega arith) (omega arith)) (let r = first_nowhere p (suc i) m (λ k a b. h k (omega arith) (omega arith)) in omega arith)

-- where the numbers of the rows from `from` on, below n, are 0, none of these rows is not zero
module _ (l : List ℕ) (from n : ℕ) (h : AtMost l (row_length * from) (row_length * n) 0) where
  number_zero : (i j : ℕ) → from ≤ i → i < n → j < row_length → get_or l (row_length * i + j) 0 ≡ 0
  number_zero i j a b g = omega (arith, h (row_length * i + j) (omega arith) (omega arith))

  row_zero : (i : ℕ) → from ≤ i → i < n → zero_test (row_at l i) ≡ true
  unfolding row_at
  row_zero i a b =
      let kind : get_or l (row_length * i) 0 ≡ 0 = omega (arith, h (row_length * i) (omega arith) (omega arith)) in
      sym (zero_last (row_at l i) kind (number_zero i 1 a b (omega arith)) (number_zero i 2 a b (omega arith)) (number_zero i 3 a b (omega arith))
      (number_zero i 4 a b (omega arith)) (number_zero i 5 a b (omega arith)))
      ∙ eq-eqb _ _ (number_zero i 6 a b (omega arith))

  pub rows_none : from ≤ n → n ≡ first (λ i. not (zero_test (row_at l i))) from (n - from)
  rows_none g =
      let e : n ≡ from + (n - from) = omega arith in
      e ∙ first_nowhere (λ i. not (zero_test (row_at l i))) from (n - from) (λ k a b. ap not (row_zero k a (omega arith)))
