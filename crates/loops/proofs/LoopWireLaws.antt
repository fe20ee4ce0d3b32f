-- The computed place of a loop is the lowest wire that depends on itself. Main laws: `loop_at_exact`, `loop_wire_is`, `loop_wire_lowest`.
-- Each round that is not the last reaches one wire more, so n rounds are enough. Assumes nothing.
use mathlib.Core.Path.{◌≡◌, sym, ◌∙◌}
use mathlib.Core.Logic.{◌⊎◌, inl, inr, ⊎_elim, ◌↔◌}
use mathlib.Core.Bool.{true, false, ◌&&◌}
use Prim.Native.Nat.{ℕ, zero, suc, ◌<◌, ◌≤◌}
use native.Mathlib.Omega.{arith}
use native.Mathlib.Nat.{eq-or-lt_of_le}
use borrow.Author.Tests.{eq-eqb, eqb-true}
use lib.Dec.{eqb}
use Rattle.lists.specs.Search.{first, some_below, count_below}
use Rattle.lists.proofs.CaseLaws.{cases, clash, and_left, and_right, and_true, or_left, or_right, or_is, all_or_one}
use Rattle.lists.proofs.SearchLaws.{first_at, first_none, first_true, first_before, first_le}
use Rattle.lists.proofs.SomeLaws.{some_is, some_true}
use Rattle.lists.proofs.CountLaws.{count_le, count_lt}
use Rattle.netlist.specs.Graph.{Graph, Reads, DependsOn, reads, via, Closed, LowestLoop}
use Rattle.loops.specs.Loops.{reads_test, reached, loop_at, loop_wire}

module _ (g : Graph) (n : ℕ) where
  pub reads_test_exact : (w d : ℕ) → (reads_test g w d ≡ true) ↔ Reads g w d
  reads_test_exact w d = (
    λ e. let r = some_is (λ j. eqb (g.operand w j) d) (g.arity w) e in (r.0, r.1, eqb-true _ _ r.2),
    λ r. some_true (λ j. eqb (g.operand w j) d) (g.arity w) r.0 r.1 (eq-eqb _ _ r.2),
  )

  -- what is reached is depended on
  then_reads : {w m d : ℕ} → DependsOn g w m → Reads g m d → DependsOn g w d
  then_reads (reads r) s = via r (reads s)
  then_reads (via r rest) s = via r (then_reads rest s)

  reached_sound : (k w d : ℕ) → reached g n k w d ≡ true → DependsOn g w d
  unfolding reached
  reached_sound zero w d e = reads ((reads_test_exact w d).0 e)
  reached_sound (suc k) w d e =
      ⊎_elim (λ h. reached_sound k w d h)
      (λ h. let r = some_is (λ m. reached g n k w m && reads_test g m d) n h in
      then_reads (reached_sound k w r.0 (and_left (reached g n k w r.0) (reads_test g r.0 d) r.2)) ((reads_test_exact r.0 d).0 (and_right (reached g n k w r.0) (reads_test g r.0 d) r.2)))
      (or_is (reached g n k w d) (some_below (λ m. reached g n k w m && reads_test g m d) n) e)

  reached_more : (k w d : ℕ) → reached g n k w d ≡ true → reached g n (suc k) w d ≡ true
  unfolding reached
  reached_more k w d e = or_left (reached g n k w d) _ e

  reached_next : (k w m d : ℕ) → m < n → reached g n k w m ≡ true → Reads g m d → reached g n (suc k) w d ≡ true
  unfolding reached
  reached_next k w m d h e r =
      or_right (reached g n k w d) (some_below (λ x. reached g n k w x && reads_test g x d) n) (some_true (λ x. reached g n k w x && reads_test g x d) n m h (and_true e ((reads_test_exact m d).1 r)))

  reached_start : (k w d : ℕ) → Reads g w d → reached g n k w d ≡ true
  unfolding reached
  reached_start zero w d r = (reads_test_exact w d).1 r
  reached_start (suc k) w d r = reached_more k w d (reached_start k w d r)

  -- a round that reaches nothing new below n
  abbrev Full : ℕ → ℕ → Type 0
  Full k w = (d : ℕ) → d < n → reached g n (suc k) w d ≡ true → reached g n k w d ≡ true

  full_step : (k w : ℕ) → Full k w → Full (suc k) w
  unfolding reached
  full_step k w full d h e =
      ⊎_elim (λ t. t)
      (λ t. let r = some_is (λ m. reached g n (suc k) w m && reads_test g m d) n t in
      reached_next k w r.0 d r.1 (full r.0 r.1 (and_left (reached g n (suc k) w r.0) (reads_test g r.0 d) r.2))
      ((reads_test_exact r.0 d).0 (and_right (reached g n (suc k) w r.0) (reads_test g r.0 d) r.2)))
      (or_is (reached g n (suc k) w d) (some_below (λ m. reached g n (suc k) w m && reads_test g m d) n) e)

  -- a round reaches nothing new, or one wire more
  abbrev Old : ℕ → ℕ → ℕ → Type 0
  Old k w d = reached g n (suc k) w d ≡ true → reached g n k w d ≡ true

  abbrev New : ℕ → ℕ → ℕ → Type 0
  New k w d = (reached g n k w d ≡ false) × (reached g n (suc k) w d ≡ true)

  old_or_new : (k w d : ℕ) → Old k w d ⊎ New k w d
  old_or_new k w d =
      ⊎_elim
      (λ (t : reached g n k w d ≡ true). inl (λ e. t))
      (λ (f : reached g n k w d ≡ false). ⊎_elim
      (λ (t : reached g n (suc k) w d ≡ true). inr (f, t))
      (λ (u : reached g n (suc k) w d ≡ false). inl (λ e. clash e u))
      (cases (reached g n (suc k) w d)))
      (cases (reached g n k w d))

  -- after k rounds all is reached, or k wires are
  full_or_many : (k w : ℕ) → Full k w ⊎ (k ≤ count_below (reached g n k w) n)
  full_or_many zero w = inr (omega arith)
  full_or_many (suc k) w =
      ⊎_elim
      (λ (f : Full k w). inl (full_step k w f))
      (λ (m : k ≤ count_below (reached g n k w) n). ⊎_elim
      (λ (f : Full k w). inl (full_step k w f))
      (λ r. inr (let c = count_lt (reached g n k w) (reached g n (suc k) w) n r.0 (λ i e. reached_more k w i e) r.1 r.2.0 r.2.1 in omega arith))
      (all_or_one (Old k w) (New k w) n (λ d l. old_or_new k w d)))
      (full_or_many k w)

  full : (w : ℕ) → Full (suc n) w
  full w =
      ⊎_elim (λ (f : Full (suc n) w). f)
      (λ (m : suc n ≤ count_below (reached g n (suc n) w) n). absurd (let c = count_le (reached g n (suc n) w) n in omega arith))
      (full_or_many (suc n) w)

  module _ (closed : Closed g n) where
    -- from a wire that is reached, all that it depends on is
    reached_on : (w : ℕ) {m d : ℕ} → m < n → reached g n (suc n) w m ≡ true → DependsOn g m d → reached g n (suc n) w d ≡ true
    reached_on w {m} {d} h e (reads r) = full w d (closed.below m d r) (reached_next (suc n) w m d h e r)
    reached_on w {m} {d} h e (via {m = k} r rest) =
        reached_on w (closed.below m k r) (full w k (closed.below m k r) (reached_next (suc n) w m k h e r)) rest

    reached_complete : {w d : ℕ} → DependsOn g w d → reached g n (suc n) w d ≡ true
    reached_complete {w} {d} (reads r) = reached_start (suc n) w d r
    reached_complete {w} {d} (via {m = k} r rest) = reached_on w (closed.below w k r) (reached_start (suc n) w k r) rest

    pub loop_at_exact : (w : ℕ) → (loop_at g n w ≡ true) ↔ DependsOn g w w
    unfolding loop_at
    loop_at_exact w = (reached_sound (suc n) w w, reached_complete)

    not_at : (w : ℕ) → (DependsOn g w w → ⊥) → loop_at g n w ≡ false
    not_at w no_loop =
        ⊎_elim (λ (t : loop_at g n w ≡ true). absurd (no_loop ((loop_at_exact w).0 t))) (λ (f : loop_at g n w ≡ false). f) (cases (loop_at g n w))

    -- what the code finds is the computed place
    pub loop_wire_is : (r : ℕ) → LowestLoop g n r → r ≡ loop_wire g n
    unfolding loop_wire
    loop_wire_is r L =
        ⊎_elim
        (λ (e : r ≡ n). e ∙ sym (first_none (loop_at g n) n (λ k l. not_at k (L.before k (omega arith)))))
        (λ (l : r < n). sym (first_at (loop_at g n) r n l ((loop_at_exact r).1 (L.here l)) (λ k h. not_at k (L.before k h))))
        (eq-or-lt_of_le L.within)

    -- and it is the lowest
    pub loop_wire_lowest : LowestLoop g n (loop_wire g n)
    unfolding loop_wire
    loop_wire_lowest = record {
      within = omega (arith, first_le (loop_at g n) 0 n);
      before = λ v h D. clash ((loop_at_exact v).1 D) (first_before (loop_at g n) 0 n v (omega arith) h);
      here = λ h. (loop_at_exact (first (loop_at g n) 0 n)).0 (first_true (loop_at g n) 0 n (omega arith));
    }
