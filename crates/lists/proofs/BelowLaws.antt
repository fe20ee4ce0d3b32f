-- A search that answers its bound where there is none, as an Option (`below`).
use Prim.Native.Nat.{ℕ, ◌<◌, ◌≤◌}
use mathlib.Core.Path.{◌≡◌, refl, sym, ap, ◌∙◌}
use mathlib.Core.Bool.{Bool, true, false, cond}
use mathlib.Core.Logic.{⊎_elim}
use native.Mathlib.Omega.{arith}
use native.Mathlib.Nat.{eq-or-lt_of_le}
use Rattle.std.specs.Prelude.{Some, None, unwrap_or}
use Rattle.std.proofs.Common.{lt-ltb, le-ltb}
use Rattle.lists.specs.Search.{below, first}
use Rattle.lists.proofs.SearchLaws.{first_true, first_before}

pub below_is : (bound n : ℕ) → n < bound → below bound n ≡ Some n
below_is bound n l = ap (λ b. cond b (Some n) None) (lt-ltb n bound l)

pub below_past : (bound n : ℕ) → bound ≤ n → below bound n ≡ None
below_past bound n l = ap (λ b. cond b (Some n) None) (le-ltb n bound l)

-- what a search of the code answers: at i, which is the first, or at its end
pub below_found : (bound n i : ℕ) → i ≡ n → i < bound → Some i ≡ below bound n
below_found bound n i e l = sym (ap (below bound) (sym e) ∙ below_is bound i l)

pub below_missed : (bound n i : ℕ) → i ≡ n → bound ≤ i → None ≡ below bound n
below_missed bound n i e l = sym (below_past bound n (omega arith))

pub below_some : (bound n k : ℕ) → below bound n ≡ Some k → (k ≡ n) × (n < bound)
below_some bound n k e = (grind arith, grind arith)

pub below_none : (bound n : ℕ) → below bound n ≡ None → bound ≤ n
below_none bound n e = grind arith

-- with the bound in place of None it is the search again
pub below_or : (bound n : ℕ) → n ≤ bound → unwrap_or (below bound n) bound ≡ n
below_or bound n l = ⊎_elim (λ e. rw (below_past bound n (omega arith)) (sym e)) (λ h. rw (below_is bound n h) refl) (eq-or-lt_of_le l)

-- what a first number below a bound says, and that there is none
module _ (p : ℕ → Bool) (n : ℕ) where
  pub below_first_some : (k : ℕ) → below n (first p 0 n) ≡ Some k → (k < n) × (p k ≡ true) × ((j : ℕ) → j < k → p j ≡ false)
  below_first_some k e =
      let s = below_some n (first p 0 n) k e in
      rw s.0 (omega (arith, s.1), first_true p 0 n (omega arith), λ j l. first_before p 0 n j (omega arith) l)

  pub below_first_none : below n (first p 0 n) ≡ None → (k : ℕ) → k < n → p k ≡ false
  below_first_none e k l = let s = below_none n (first p 0 n) e in first_before p 0 n k (omega arith) (omega arith)
