-- A search with one number more to look at (`grow_old`, `grow_hit`, `grow_miss`), and for a test that passes one number more (`more_lower`,
-- `more_higher`).
use Prim.Native.Nat.{ℕ, suc, ◌≤◌, ◌<◌}
use mathlib.Core.Path.{◌≡◌, refl, sym}
use mathlib.Core.Bool.{Bool, true, false, ◌||◌}
use mathlib.Core.Logic.{◌≢◌}
use native.Mathlib.Omega.{arith}
use lib.Dec.{eqb}
use borrow.Author.Tests.{eq-eqb, ne_eqb}
use Rattle.lists.specs.Search.{first}
use Rattle.lists.proofs.CaseLaws.{below_suc}
use Rattle.lists.proofs.SearchLaws.{first_true, first_before, first_at, first_none}

-- ---- a search with one more to look at

module _ (p : ℕ → Bool) (m : ℕ) where
  pub grow_old : first p 0 m < m → first p 0 (suc m) ≡ first p 0 m
  grow_old l = first_at p (first p 0 m) (suc m) (omega arith) (first_true p 0 m (omega arith)) (λ k lk. first_before p 0 m k (omega arith) lk)

  pub grow_hit : m ≤ first p 0 m → p m ≡ true → first p 0 (suc m) ≡ m
  grow_hit l e = first_at p m (suc m) (omega arith) e (λ k lk. first_before p 0 m k (omega arith) (omega arith))

  pub grow_miss : m ≤ first p 0 m → p m ≡ false → first p 0 (suc m) ≡ suc m
  grow_miss l e = first_none p (suc m) (below_suc (λ k. p k ≡ false) m (λ k lk. first_before p 0 m k (omega arith) (omega arith)) e)

pub or_false : (a : Bool) → a || false ≡ a
or_false true = refl
or_false false = refl

pub or_true : (a : Bool) → a || true ≡ true
or_true true = refl
or_true false = refl

-- ---- the lowest of a set with one more number

module _ (p : ℕ → Bool) (n u : ℕ) (l : u < n) where
  abbrev pub more : ℕ → Bool
  more w = p w || eqb u w

  others_kept : (k : ℕ) → k ≢ u → k < first p 0 n → more k ≡ false
  others_kept k ne lk = rw (first_before p 0 n k (omega arith) lk, ne_eqb u k (λ e. ne (sym e)))

  pub more_lower : u < first p 0 n → first more 0 n ≡ u
  more_lower g = first_at more u n l (rw (eq-eqb u u refl) (or_true (p u))) (λ k lk. others_kept k (λ e. absurd (omega arith)) (omega arith))

  pub more_higher : first p 0 n ≤ u → first more 0 n ≡ first p 0 n
  more_higher g =
      first_at more (first p 0 n) n (omega arith) (rw (first_true p 0 n (omega arith))) (λ k lk. others_kept k (λ e. absurd (omega arith)) lk)
