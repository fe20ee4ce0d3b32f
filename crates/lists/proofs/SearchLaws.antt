-- What `first` and `all` are, and the turns of the loops that compute them. Main laws: `first_at`, `first_none`, `first_true`,
-- `first_before`; a loop's invariant is `first p i (n - i) ≡ first p 0 n`, and its turns are `first_turn_hit`, `-skip`, `-end`.
use mathlib.Core.Path.{◌≡◌, refl, sym, ap, ◌∙◌, subst}
use mathlib.Core.Bool.{Bool, true, false, cond}
use mathlib.Core.Logic.{◌⊎◌, inl, inr, ⊎_elim}
use Prim.Native.Nat.{ℕ, zero, suc, ◌+◌, ◌-◌, ◌<◌, ◌≤◌}
use native.Mathlib.Omega.{arith}
use native.Mathlib.Numerals.{add-one}
use native.Mathlib.Nat.{sub-zero, eq-or-lt_of_le}
use native.Mathlib.Decide.{dec_lt}
use Rattle.lists.specs.Search.{first, all_from}
use Rattle.lists.proofs.CaseLaws.{clash}

module _ (p : ℕ → Bool) (i n : ℕ) where
  pub first_hit : i < n → p i ≡ true → first p i (n - i) ≡ i
  unfolding first
  first_hit h e = ap (first p i) (let q : n - i ≡ suc (n - (i + 1)) = omega arith in q) ∙ simp e

  pub first_skip : i < n → p i ≡ false → first p i (n - i) ≡ first p (i + 1) (n - (i + 1))
  unfolding first
  first_skip h e = ap (first p i) (let q : n - i ≡ suc (n - (i + 1)) = omega arith in q) ∙ simp (e, add-one)

  pub first_end : n ≤ i → first p i (n - i) ≡ i
  unfolding first
  first_end h = let e : n - i ≡ 0 = omega arith in rw e

  pub all_hit : i < n → p i ≡ false → all_from p i (n - i) ≡ false
  unfolding all_from
  all_hit h e = ap (all_from p i) (let q : n - i ≡ suc (n - (i + 1)) = omega arith in q) ∙ simp e

  pub all_skip : i < n → p i ≡ true → all_from p i (n - i) ≡ all_from p (i + 1) (n - (i + 1))
  unfolding all_from
  all_skip h e = ap (all_from p i) (let q : n - i ≡ suc (n - (i + 1)) = omega arith in q) ∙ simp (e, add-one)

  pub all_end : n ≤ i → all_from p i (n - i) ≡ true
  unfolding all_from
  all_end h = let e : n - i ≡ 0 = omega arith in rw e

-- the turns of a search; the invariant comes first, so that p, i, n and x can be left to antt
module _ (p : ℕ → Bool) (i n x : ℕ) (inv : first p i (n - i) ≡ x) where
  pub first_turn_hit : i < n → p i ≡ true → i ≡ x
  first_turn_hit h e = sym (first_hit p i n h e) ∙ inv

  pub first_turn_skip : i < n → p i ≡ false → first p (i + 1) (n - (i + 1)) ≡ x
  first_turn_skip h e = sym (first_skip p i n h e) ∙ inv

  pub first_turn_end : n ≤ i → i ≡ x
  first_turn_end h = sym (first_end p i n h) ∙ inv

module _ (p : ℕ → Bool) (i n : ℕ) (x : Bool) (inv : all_from p i (n - i) ≡ x) where
  pub all_turn_hit : i < n → p i ≡ false → false ≡ x
  all_turn_hit h e = sym (all_hit p i n h e) ∙ inv

  pub all_turn_skip : i < n → p i ≡ true → all_from p (i + 1) (n - (i + 1)) ≡ x
  all_turn_skip h e = sym (all_skip p i n h e) ∙ inv

  pub all_turn_end : n ≤ i → true ≡ x
  all_turn_end h = sym (all_end p i n h) ∙ inv

-- ---- first: what it is

-- a search that passes over all before j stands at j
pub first_from : (p : ℕ → Bool) (n j : ℕ) → j ≤ n → ((k : ℕ) → k < j → p k ≡ false) → first p j (n - j) ≡ first p 0 n
first_from p n zero h none = simp sub-zero
first_from p n (suc j) h none =
    ap (λ (x : ℕ). first p x (n - x)) (sym (add-one j))
    ∙ sym (first_skip p j n h (none j (omega arith)))
    ∙ first_from p n j (omega arith) (λ k l. none k (omega arith))

-- nothing before i passes, and i does
pub first_at : (p : ℕ → Bool) (i n : ℕ) → i < n → p i ≡ true → ((k : ℕ) → k < i → p k ≡ false) → first p 0 n ≡ i
first_at p i n h e none = sym (first_from p n i (omega arith) none) ∙ first_hit p i n h e

pub first_none : (p : ℕ → Bool) (n : ℕ) → ((k : ℕ) → k < n → p k ≡ false) → first p 0 n ≡ n
first_none p n none = sym (first_from p n n (omega arith) none) ∙ first_end p n n (omega arith)

-- a search from i on that passes over all before j stands at j
pub first_past : (p : ℕ → Bool) (n i j : ℕ) → i ≤ j → j ≤ n → ((k : ℕ) → i ≤ k → k < j → p k ≡ false) → first p i (n - i) ≡ first p j (n - j)
first_past p n i zero l h none = let e : i ≡ 0 = omega arith in rw e refl
first_past p n i (suc j) l h none =
    ⊎_elim (λ (e : i ≡ suc j). rw e refl)
    (λ (lt : i < suc j).
    first_past p n i j (omega arith) (omega arith) (λ k a b. none k a (omega arith)) ∙ first_skip p j n h (none j (omega arith) (omega arith))
    ∙ ap (λ (x : ℕ). first p x (n - x)) (add-one j)) (eq-or-lt_of_le l)

-- ---- first: what it says

pub first_le : (p : ℕ → Bool) (i m : ℕ) → first p i m ≤ i + m
unfolding first
first_le p i zero = omega arith
first_le p i (suc m) = go (p i) (first_le p (suc i) m)
  where
    go : (b : Bool) → first p (suc i) m ≤ suc i + m → cond b i (first p (suc i) m) ≤ i + suc m
    go true r = omega arith
    go false r = omega arith

pub first_true : (p : ℕ → Bool) (i m : ℕ) → first p i m < i + m → p (first p i m) ≡ true
unfolding first
first_true p i zero h = absurd (omega arith)
first_true p i (suc m) h = go (p i) refl h (first_true p (suc i) m)
  where
    go : (b : Bool) → p i ≡ b → cond b i (first p (suc i) m) < i + suc m → (first p (suc i) m < suc i + m → p (first p (suc i) m) ≡ true)
        → p (cond b i (first p (suc i) m)) ≡ true
    go true q l r = q
    go false q l r = r (omega arith)

pub first_before : (p : ℕ → Bool) (i m k : ℕ) → i ≤ k → k < first p i m → p k ≡ false
unfolding first
first_before p i zero k h l = absurd (omega arith)
first_before p i (suc m) k h l = go (p i) refl l (first_before p (suc i) m k)
  where
    go : (b : Bool) → p i ≡ b → k < cond b i (first p (suc i) m) → (suc i ≤ k → k < first p (suc i) m → p k ≡ false) → p k ≡ false
    go true q l r = absurd (omega arith)
    go false q l r = ⊎_elim (λ (e : i ≡ k). subst (λ (x : ℕ). p x ≡ false) e q) (λ (lt : i < k). r lt l) (eq-or-lt_of_le h)

-- two tests that agree below n have one first
pub first_ext : (p q : ℕ → Bool) (n : ℕ) → ((k : ℕ) → k < n → p k ≡ q k) → first p 0 n ≡ first q 0 n
first_ext p q n h =
    ⊎_elim
    (λ (l : first q 0 n < n).
    first_at p (first q 0 n) n l (h _ l ∙ first_true q 0 n (omega arith)) (λ k lk. h k (omega arith) ∙ first_before q 0 n k (omega arith) lk))
    (λ (e : first q 0 n ≡ n). first_none p n (λ k l. h k l ∙ first_before q 0 n k (omega arith) (omega arith)) ∙ sym e)
    (split (first_le q 0 n))
  where
    split : first q 0 n ≤ 0 + n → (first q 0 n < n) ⊎ (first q 0 n ≡ n)
    split l = elim (dec_lt (first q 0 n) n) [ yes a ↦ inl a | no a ↦ inr (omega arith) ]

-- ---- all: each passes, and the other way

pub all_at : (p : ℕ → Bool) (i m k : ℕ) → all_from p i m ≡ true → i ≤ k → k < i + m → p k ≡ true
unfolding all_from
all_at p i zero k e h l = absurd (omega arith)
all_at p i (suc m) k e h l = go (p i) refl e (λ r. all_at p (suc i) m k r)
  where
    go : (b : Bool) → p i ≡ b → cond b (all_from p (suc i) m) false ≡ true → (all_from p (suc i) m ≡ true → suc i ≤ k → k < suc i + m → p k ≡ true) → p k ≡ true
    go true q e r = ⊎_elim (λ (d : i ≡ k). subst (λ (x : ℕ). p x ≡ true) d q) (λ (lt : i < k). r e lt (omega arith)) (eq-or-lt_of_le h)
    go false q e r = clash refl (sym e)

pub all_of : (p : ℕ → Bool) (i m : ℕ) → ((k : ℕ) → i ≤ k → k < i + m → p k ≡ true) → all_from p i m ≡ true
unfolding all_from
all_of p i zero h = refl
all_of p i (suc m) h = rw (h i (omega arith) (omega arith)) (all_of p (suc i) m (λ k a b. h k (omega arith) (omega arith)))

-- two tests that agree
pub all_ext : (p q : ℕ → Bool) (i m : ℕ) → ((k : ℕ) → i ≤ k → k < i + m → p k ≡ q k) → all_from p i m ≡ all_from q i m
unfolding all_from
all_ext p q i zero h = refl
all_ext p q i (suc m) h =
    let e : p i ≡ q i = h i (omega arith) (omega arith) in
    let r : all_from p (suc i) m ≡ all_from q (suc i) m = all_ext p q (suc i) m (λ k a b. h k (omega arith) (omega arith)) in
    rw (e, r)

-- where not all pass, one does not
pub all_not : (p : ℕ → Bool) (i m : ℕ) → all_from p i m ≡ false → (k : ℕ) × (i ≤ k) × (k < i + m) × (p k ≡ false)
unfolding all_from
all_not p i zero e = clash refl e
all_not p i (suc m) e = go (p i) refl e (all_not p (suc i) m)
  where
    go : (b : Bool) → p i ≡ b → cond b (all_from p (suc i) m) false ≡ false
        → (all_from p (suc i) m ≡ false → (k : ℕ) × (suc i ≤ k) × (k < suc i + m) × (p k ≡ false)) → (k : ℕ) × (i ≤ k) × (k < i + suc m) × (p k ≡ false)
    go true q e r = let s = r e in (s.0, omega arith, omega arith, s.3)
    go false q e r = (i, omega arith, omega arith, q)
