-- A choice with the fact that goes with it: on a test, on two numbers, on a conjunction of tests.
use mathlib.Core.Path.{◌≡◌, refl, sym, subst, ◌∙◌}
use mathlib.Core.Bool.{Bool, true, false, cond, ◌&&◌, ◌||◌, true≢false}
use mathlib.Core.Logic.{◌⊎◌, inl, inr, ⊎_elim, ◌≢◌}
use Prim.Native.Nat.{ℕ, zero, suc, ◌<◌, ◌≤◌}
use native.Mathlib.Nat.{eq-or-lt_of_le, le_of_suc-le-suc}
use native.Mathlib.Omega.{arith}
use native.Mathlib.Decide.{dec_lt, ℕ_discrete}
use borrow.Author.Tests.{eqb-true, eq-eqb}
use lib.Dec.{eqb}

pub cases : (b : Bool) → (b ≡ true) ⊎ (b ≡ false)
cases true = inl refl
cases false = inr refl

pub lt_or_le : (a b : ℕ) → (a < b) ⊎ (b ≤ a)
lt_or_le a b = elim (dec_lt a b) [ yes h ↦ inl h | no h ↦ inr (omega arith) ]

pub eq_or_ne : (a b : ℕ) → (a ≡ b) ⊎ (a ≢ b)
eq_or_ne a b = elim (ℕ_discrete a b) [ yes h ↦ inl h | no h ↦ inr h ]

-- a test does not go both ways
pub clash : {A : Type 0} {b : Bool} → b ≡ true → b ≡ false → A
clash p q = absurd (true≢false (sym p ∙ q))

-- a test whose fact does not hold fails
pub test_false : {P : Type 0} (b : Bool) → (b ≡ true → P) → (P → ⊥) → b ≡ false
test_false true there none = absurd (none (there refl))
test_false false there none = refl

-- ---- a && b

pub and_left : (a b : Bool) → a && b ≡ true → a ≡ true
and_left true b e = refl
and_left false b e = e

pub and_right : (a b : Bool) → a && b ≡ true → b ≡ true
and_right true b e = e
and_right false b e = clash refl (sym e)

pub and_swap : (a b : Bool) → a && b ≡ b && a
and_swap true true = refl
and_swap true false = refl
and_swap false true = refl
and_swap false false = refl

pub and_true : {a b : Bool} → a ≡ true → b ≡ true → a && b ≡ true
and_true p q = rw (p, q)

-- two numbers are equal, and the rest holds
pub equal_and : (x n : ℕ) (rest : Bool) → eqb x n && rest ≡ true → (x ≡ n) × (rest ≡ true)
equal_and x n rest e = (eqb-true x n (and_left (eqb x n) rest e), and_right (eqb x n) rest e)

pub and_equal : (x n : ℕ) {rest : Bool} → x ≡ n → rest ≡ true → eqb x n && rest ≡ true
and_equal x n e r = and_true (eq-eqb x n e) r

pub and_false_left : (a b : Bool) → a ≡ false → a && b ≡ false
and_false_left a b p = rw p

pub and_false_right : (a b : Bool) → b ≡ false → a && b ≡ false
and_false_right true b p = p
and_false_right false b p = refl

-- ---- a || b

pub or_left : (a b : Bool) → a ≡ true → a || b ≡ true
or_left a b e = rw e

pub or_right : (a b : Bool) → b ≡ true → a || b ≡ true
or_right true b e = refl
or_right false b e = e

pub or_is : (a b : Bool) → a || b ≡ true → (a ≡ true) ⊎ (b ≡ true)
or_is true b e = inl refl
or_is false b e = inr e

pub or_false_left : (a b : Bool) → a || b ≡ false → a ≡ false
or_false_left true b e = e
or_false_left false b e = refl

pub or_false_right : (a b : Bool) → a || b ≡ false → b ≡ false
or_false_right true b e = clash refl e
or_false_right false b e = e

-- ---- cond a b false, the same by another name

pub cond_true : (a b : Bool) → cond a b false ≡ true → (a ≡ true) × (b ≡ true)
cond_true true b e = (refl, e)
cond_true false b e = clash refl (sym e)

-- ---- all numbers below a bound

-- what holds below n, and of n, holds below suc n
pub below_suc : (P : ℕ → Type 0) (n : ℕ) → ((i : ℕ) → i < n → P i) → P n → (i : ℕ) → i < suc n → P i
below_suc P n all here i l = ⊎_elim (λ e. subst P (sym e) here) (λ lt. all i lt) (eq-or-lt_of_le (le_of_suc-le-suc l))

-- where each number below n has one of two things, all have the first or one has the second
pub all_or_one : (P Q : ℕ → Type 0) (n : ℕ) → ((i : ℕ) → i < n → P i ⊎ Q i) → ((i : ℕ) → i < n → P i) ⊎ ((i : ℕ) × (i < n) × Q i)
all_or_one P Q zero h = inl (λ i l. absurd (omega arith))
all_or_one P Q (suc n) h =
    ⊎_elim (λ all. ⊎_elim (λ p. inl (below_suc P n all p)) (λ q. inr (n, omega arith, q)) (h n (omega arith)))
    (λ r. inr (r.0, omega arith, r.2)) (all_or_one P Q n (λ i l. h i (omega arith)))
