-- How many numbers below n pass a test.
use mathlib.Core.Path.{◌≡◌, refl, sym, ap, ◌∙◌, subst}
use mathlib.Core.Bool.{Bool, true, false, cond}
use mathlib.Core.Logic.{⊎_elim, ◌≢◌}
use Prim.Native.Nat.{ℕ, zero, suc, ◌+◌, ◌<◌, ◌≤◌}
use native.Mathlib.Nat.{eq-or-lt_of_le, le_of_suc-le-suc, add-zero, add-suc}
use native.Mathlib.Omega.{arith}
use Rattle.lists.specs.Search.{count_below}

-- tests that agree below n
pub count_ext : (p q : ℕ → Bool) (n : ℕ) → ((i : ℕ) → i < n → p i ≡ q i) → count_below p n ≡ count_below q n
unfolding count_below
count_ext p q zero h = refl
count_ext p q (suc n) h =
    let a = count_ext p q n (λ i l. h i (omega arith)) in
    let b = ap (λ (t : Bool). cond {A = ℕ} t 1 0) (h n (omega arith)) in
    omega arith

-- a test that passes one number more, w
pub count_one_more : (p q : ℕ → Bool) (w n : ℕ) → w < n → p w ≡ false → q w ≡ true → ((i : ℕ) → i ≢ w → p i ≡ q i) → suc (count_below p n) ≡ count_below q n
unfolding count_below
count_one_more p q w zero l a b h = absurd (omega arith)
count_one_more p q w (suc n) l a b h =
    ⊎_elim
    (λ (e : w ≡ n).
    let c = count_ext p q n (λ i li. h i (λ f. absurd (omega arith))) in
    let d : cond {A = ℕ} (p n) 1 0 ≡ 0 = rw (← e, a) in
    let f : cond {A = ℕ} (q n) 1 0 ≡ 1 = rw (← e, b) in
    omega arith)
    (λ (lt : w < n).
    let c = count_one_more p q w n lt a b h in
    let d = ap (λ (t : Bool). cond {A = ℕ} t 1 0) (h n (λ f. absurd (omega arith))) in
    omega arith)
    (eq-or-lt_of_le (le_of_suc-le-suc l))

pub count_none : (p : ℕ → Bool) (n : ℕ) → ((i : ℕ) → i < n → p i ≡ false) → count_below p n ≡ 0
unfolding count_below
count_none p zero h = refl
count_none p (suc n) h = rw (h n (omega arith)) (let a = count_none p n (λ i l. h i (omega arith)) in omega arith)

pub count_le : (p : ℕ → Bool) (n : ℕ) → count_below p n ≤ n
unfolding count_below
count_le p zero = omega arith
count_le p (suc n) = go (p n) (count_le p n)
  where
    go : (b : Bool) → count_below p n ≤ n → cond b 1 0 + count_below p n ≤ suc n
    go true r = omega arith
    go false r = omega arith

-- the numbers below n, and the m after them
pub count_add : (p : ℕ → Bool) (n m : ℕ) → count_below p (n + m) ≡ count_below p n + count_below (λ (j : ℕ). p (n + j)) m
unfolding count_below
count_add p n zero = ap (count_below p) (add-zero n) ∙ sym (add-zero (count_below p n))
count_add p n (suc m) = rw (add-suc n m) (let r = count_add p n m in omega arith)

-- a test that passes whatever another does
weigh : (x y : Bool) → (x ≡ true → y ≡ true) → cond {A = ℕ} x 1 0 ≤ cond {A = ℕ} y 1 0
weigh true y h = rw (h refl) (omega arith)
weigh false y h = omega arith

pub count_sub : (p q : ℕ → Bool) (n : ℕ) → ((i : ℕ) → p i ≡ true → q i ≡ true) → count_below p n ≤ count_below q n
unfolding count_below
count_sub p q zero sub = omega arith
count_sub p q (suc n) sub = let c = count_sub p q n sub in let d = weigh (p n) (q n) (sub n) in omega arith

-- and one number more
pub count_lt : (p q : ℕ → Bool) (n w : ℕ) → ((i : ℕ) → p i ≡ true → q i ≡ true) → w < n → p w ≡ false → q w ≡ true → count_below p n < count_below q n
unfolding count_below
count_lt p q zero w sub l a b = absurd (omega arith)
count_lt p q (suc n) w sub l a b =
    ⊎_elim
    (λ (e : w ≡ n).
    let pn : p n ≡ false = subst (λ (x : ℕ). p x ≡ false) e a in
    let qn : q n ≡ true = subst (λ (x : ℕ). q x ≡ true) e b in
    rw (pn, qn) (let c = count_sub p q n sub in omega arith))
    (λ (lt : w < n). let c = count_lt p q n w sub lt a b in let d = weigh (p n) (q n) (sub n) in omega arith)
    (eq-or-lt_of_le (le_of_suc-le-suc l))
