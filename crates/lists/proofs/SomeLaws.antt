-- Whether some number below n passes a test: not all fail. Main laws: `some_is`, `some_true`; `some_last`, a number more;
-- `all_more_pass`, `all_more_fail`: the turns of a loop that looks at every number.
use Prim.Native.Nat.{ℕ, zero, suc, ◌+◌, ◌<◌}
use mathlib.Core.Path.{◌≡◌, refl, sym, ap, ◌∙◌}
use mathlib.Core.Bool.{Bool, true, false, not, cond, ◌&&◌, ◌||◌}
use mathlib.Core.Logic.{⊎_elim}
use native.Mathlib.Omega.{arith}
use native.Mathlib.Nat.{zero-add}
use native.Mathlib.Numerals.{add-one}
use borrow.Author.Tests.{not-true, not-false}
use Rattle.lists.specs.Search.{all_from, some_below}
use Rattle.lists.proofs.CaseLaws.{cases, clash, and_false_right}
use Rattle.lists.proofs.SearchLaws.{all_at, all_not, all_ext}

pub some_is : (p : ℕ → Bool) (n : ℕ) → some_below p n ≡ true → (i : ℕ) × (i < n) × (p i ≡ true)
some_is p n e = let f = all_not (λ i. not (p i)) 0 n (not-true _ e) in (f.0, omega arith, not-false _ f.3)

pub some_true : (p : ℕ → Bool) (n i : ℕ) → i < n → p i ≡ true → some_below p n ≡ true
some_true p n i l e = ⊎_elim (λ a. clash e (not-true _ (all_at (λ i. not (p i)) 0 n i a (omega arith) (omega arith)))) (λ a. rw a) (cases (all_from (λ i. not (p i)) 0 n))

pub some_ext : (p q : ℕ → Bool) (n : ℕ) → ((k : ℕ) → k < n → p k ≡ q k) → some_below p n ≡ some_below q n
some_ext p q n same = ap not (all_ext (λ k. not (p k)) (λ k. not (q k)) 0 n (λ k a b. ap not (same k (omega arith))))

all_last : (p : ℕ → Bool) (i n : ℕ) → all_from p i (suc n) ≡ all_from p i n && p (i + n)
unfolding all_from
all_last p i zero = rw (let e : i + 0 ≡ i = omega arith in e) (go (p i))
  where
    go : (b : Bool) → cond b true false ≡ b
    go true = refl
    go false = refl
all_last p i (suc n) = rw (all_last p (suc i) n, let e : i + suc n ≡ suc i + n = omega arith in e) (go (p i) (all_from p (suc i) n) (p (suc i + n)))
  where
    go : (a b c : Bool) → cond a (b && c) false ≡ cond a b false && c
    go true b c = refl
    go false b c = refl

-- the turns of a loop that looks at every number; x says whether all below n pass
module _ (p : ℕ → Bool) (n : ℕ) (x : Bool) (inv : x ≡ all_from p 0 n) where
  all_more : all_from p 0 (n + 1) ≡ x && p n
  all_more = ap (all_from p 0) (add-one n) ∙ rw (all_last p 0 n, zero-add n, inv)

  pub all_more_pass : p n ≡ true → x ≡ all_from p 0 (n + 1)
  all_more_pass e = sym (all_more ∙ rw e (go x))
    where
      go : (b : Bool) → b && true ≡ b
      go true = refl
      go false = refl

  pub all_more_fail : p n ≡ false → false ≡ all_from p 0 (n + 1)
  all_more_fail e = sym (all_more ∙ and_false_right x (p n) e)

-- one of the numbers below n passes, or n does
pub some_last : (p : ℕ → Bool) (n : ℕ) → some_below p (suc n) ≡ some_below p n || p n
some_last p n = rw (all_last (λ i. not (p i)) 0 n, zero-add n) (go (all_from (λ i. not (p i)) 0 n) (p n))
  where
    go : (a b : Bool) → not (a && not b) ≡ not a || b
    go true true = refl
    go true false = refl
    go false b = refl
