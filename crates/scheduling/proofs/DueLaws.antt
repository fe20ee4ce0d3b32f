-- Which wires are due, and what taking the lowest gives. Main laws: `taken_woken`, `taken_new`, `taken_none`; `due_less`, `due_with_less`.
use mathlib.Core.Path.{◌≡◌, refl, sym, ap, ◌∙◌}
use mathlib.Core.Bool.{Bool, true, false, not, ◌||◌}
use mathlib.Core.Logic.{◌⊎◌, inl, inr, ⊎_elim, ◌≢◌}
use mathlib.Core.List.{List}
use Prim.Native.Nat.{ℕ, ◌+◌, ◌<◌, ◌≤◌}
use native.Mathlib.Omega.{arith}
use borrow.Author.Tests.{eq-eqb, ne_eqb, lt-ltb, le-ltb}
use lib.Dec.{eqb, ltb}
use Rattle.std.specs.Prelude.{Some, None}
use Rattle.lists.specs.Search.{first, below, count_below}
use Rattle.lists.proofs.BelowLaws.{below_first_some, below_first_none}
use Rattle.lists.proofs.CaseLaws.{cases, clash, eq_or_ne, lt_or_le, or_left, or_right, or_false_left, or_false_right}
use Rattle.lists.proofs.CountLaws.{count_lt}
use Rattle.bitset.specs.Bitset.{has, numbers}
use Rattle.netlist.specs.Marks.{max_wires}
use Rattle.scheduling.specs.Due.{is_due, is_due_with, Early, Taken}
use Rattle.scheduling.specs.declared.order.Due.{Due}

-- ---- is_due, is_due_with

module _ (due : Due) (k : ℕ) where
  due_before : has due.woken k ≡ false → k < due.from → is_due due k ≡ false
  due_before f l = rw (f, lt-ltb _ _ l)

  pub due_asleep : is_due due k ≡ false → has due.woken k ≡ false
  due_asleep e = or_false_left _ _ e

  pub due_lt : is_due due k ≡ false → k < due.from
  due_lt e =
      ⊎_elim (λ (l : k < due.from). l) (λ (l : due.from ≤ k). clash {b = not (ltb k due.from)} (rw (le-ltb _ _ l)) (or_false_right (has due.woken k) _ e))
      (lt_or_le k due.from)

module _ (due : Due) (w k : ℕ) where
  pub due_other : k ≢ w → is_due_with due w k ≡ is_due due k
  due_other ne = rw (ne_eqb _ _ ne)

  pub due_here : k ≡ w → is_due_with due w k ≡ true
  due_here e = or_left _ _ (eq-eqb _ _ e)

-- ---- Taken

module _ (n : ℕ) (woken₀ : List ℕ) (from : ℕ) (few : n ≤ max_wires) (h : Early n (record { woken = woken₀; from = from })) where
  -- w was woken
  module _ (w : ℕ) (low : below numbers (first (has woken₀) 0 numbers) ≡ Some w) (woken : List ℕ) (gone : has woken w ≡ false)
      (others : (k : ℕ) → k ≢ w → has woken k ≡ has woken₀ k) where
    due : Due
    due = record { woken = woken; from = from }

    was : has woken₀ w ≡ true
    was = (below_first_some (has woken₀) numbers w low).1

    same : (k : ℕ) → (k ≡ w) ⊎ (k ≢ w) → is_due (record { woken = woken₀; from = from }) k ≡ is_due_with due w k
    unfolding due
    same k (inl q) = rw q (or_left _ _ was ∙ sym (due_here due w w refl))
    same k (inr ne) = ap (λ (b : Bool). b || not (ltb k from)) (sym (others k ne)) ∙ sym (due_other due w k ne)

    asleep : (k : ℕ) → k ≤ w → (k ≡ w) ⊎ (k ≢ w) → has woken k ≡ false
    asleep k le (inl q) = rw q gone
    asleep k le (inr ne) = others k ne ∙ (below_first_some (has woken₀) numbers w low).2 k (omega arith)

    pub taken_woken : (w < n) × Taken n (record { woken = woken₀; from = from }) (record { woken = woken; from = from }) w
    unfolding due
    taken_woken =
        let e = h.early w was in
        let u = h.upto in (
          omega arith,
          record {
            early = record { upto = u; early = λ k t. h.early k (sym (others k (λ q. clash t (rw q gone))) ∙ t) };
            upto = omega arith;
            lower = λ k lk le. due_before due k (asleep k le (eq_or_ne k w)) (omega arith);
            same = λ k. same k (eq_or_ne k w);
          },
        )

  -- none was
  module _ (low : below numbers (first (has woken₀) 0 numbers) ≡ None) where
    pub none_woken : (k : ℕ) → has woken₀ k ≡ false
    none_woken k =
        ⊎_elim (λ t. let a = h.early k t in let b = h.upto in clash t (below_first_none (has woken₀) numbers low k (omega arith))) (λ f. f)
        (cases (has woken₀ k))

    next_same : (k : ℕ) → k ≢ from → ltb k from ≡ ltb k (from + 1)
    next_same k ne =
        ⊎_elim (λ (lt : k < from). let m : k < from + 1 = omega arith in lt-ltb _ _ lt ∙ sym (lt-ltb _ _ m))
        (λ (le : from ≤ k). let m : from + 1 ≤ k = omega arith in le-ltb _ _ le ∙ sym (le-ltb _ _ m)) (lt_or_le k from)

    new : (k : ℕ) → (k ≡ from) ⊎ (k ≢ from)
        → is_due (record { woken = woken₀; from = from }) k ≡ is_due_with (record { woken = woken₀; from = from + 1 }) from k
    new k (inl q) =
        let le : from ≤ k = omega arith in
        let t : is_due (record { woken = woken₀; from = from }) k ≡ true = rw (le-ltb _ _ le, none_woken k) in
        t ∙ sym (due_here (record { woken = woken₀; from = from + 1 }) from k q)
    new k (inr ne) = ap (λ (b : Bool). has woken₀ k || not b) (next_same k ne) ∙ sym (due_other (record { woken = woken₀; from = from + 1 }) from k ne)

    pub taken_new : from ≢ n → (from < n) × Taken n (record { woken = woken₀; from = from }) (record { woken = woken₀; from = from + 1 }) from
    taken_new ne =
        let u = h.upto in (
          omega arith,
          record {
            early = record { upto = omega arith; early = λ k t. clash t (none_woken k) };
            upto = u;
            lower = λ k lk le. due_before (record { woken = woken₀; from = from + 1 }) k (none_woken k) (omega arith);
            same = λ k. new k (eq_or_ne k from);
          },
        )

    end : n ≤ from → (k : ℕ) → (k ≡ n) ⊎ (k ≢ n) → is_due (record { woken = woken₀; from = from }) k ≡ is_due_with (record { woken = woken₀; from = from }) n k
    end l k (inl q) =
        let u = h.upto in
        let le : from ≤ k = omega arith in
        let t : is_due (record { woken = woken₀; from = from }) k ≡ true = rw (le-ltb _ _ le, none_woken k) in
        t ∙ sym (due_here (record { woken = woken₀; from = from }) n k q)
    end l k (inr ne) = sym (due_other (record { woken = woken₀; from = from }) n k ne)

    pub taken_none : n ≤ from → Taken n (record { woken = woken₀; from = from }) (record { woken = woken₀; from = from }) n
    taken_none l =
        let u = h.upto in
        let e : from ≡ n = omega arith in
        record {
          early = h;
          upto = omega arith;
          lower = λ k lk le. due_before (record { woken = woken₀; from = from }) k (none_woken k) (omega arith);
          same = λ k. end l k (eq_or_ne k n);
        }

-- once a wire is taken, fewer are due
pub due_less : (n : ℕ) (due₀ due : Due) (w : ℕ) → w < n → Taken n due₀ due w → count_below (is_due due) n < count_below (is_due due₀) n
due_less n due₀ due w l t =
    count_lt _ _ n w (λ k d. t.same k ∙ or_right (eqb k w) _ d) l (t.lower w l (omega arith)) (t.same w ∙ due_here due w w refl)

-- the same of those that are due together with the wire that is looked at, once that one was and the next is taken
pub due_with_less : (n : ℕ) (due₀ : Due) (w₀ : ℕ) (due : Due) (w : ℕ) → Taken n due₀ due w → w₀ < n → is_due due₀ w₀ ≡ false
    → count_below (is_due_with due w) n < count_below (is_due_with due₀ w₀) n
due_with_less n due₀ w₀ due w t l gone =
    count_lt _ _ n w₀ (λ k d. or_right (eqb k w₀) _ (t.same k ∙ d)) l (sym (t.same w₀) ∙ gone) (due_here due₀ w₀ w₀ refl)
