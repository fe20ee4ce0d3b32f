-- The lowest number with a property that a test decides: `first` finds it. Main laws: `lowest_exact`, `lowest_none_exact`.
use Prim.Native.Nat.{ℕ, ◌≤◌, ◌<◌}
use mathlib.Core.Path.{◌≡◌, subst}
use mathlib.Core.Bool.{Bool, true, false}
use mathlib.Core.Logic.{⊎_elim, ◌↔◌}
use native.Mathlib.Omega.{arith}
use Rattle.lists.specs.Search.{first}
use Rattle.lists.proofs.CaseLaws.{cases, clash, lt_or_le}
use Rattle.lists.proofs.SearchLaws.{first_at, first_none, first_true, first_before}

module _ (p : ℕ → Bool) (P : ℕ → Type 0) (n : ℕ) (decides : (k : ℕ) → k < n → (p k ≡ true) ↔ P k) where
  refuted : (k : ℕ) → k < n → (P k → ⊥) → p k ≡ false
  refuted k l h = ⊎_elim (λ e. absurd (h ((decides k l).0 e))) (λ e. e) (cases (p k))

  -- below n, the first is the lowest
  pub lowest_exact : (k : ℕ) → ((k < n) × P k × ((v : ℕ) → v < n → P v → k ≤ v)) ↔ ((k < n) × (first p 0 n ≡ k))
  lowest_exact k = (there, back)
    where
      there : (k < n) × P k × ((v : ℕ) → v < n → P v → k ≤ v) → (k < n) × (first p 0 n ≡ k)
      there (l, h, least) = (
        l,
        first_at p k n l ((decides k l).1 h)
            (λ v g. refuted v (omega arith) (λ x. absurd (let a = least v (let lv : v < n = omega arith in lv) x in omega arith))),
      )

      back : (k < n) × (first p 0 n ≡ k) → (k < n) × P k × ((v : ℕ) → v < n → P v → k ≤ v)
      back (l, e) = (
        l,
        (decides k l).0 (subst (λ (x : ℕ). p x ≡ true) e (first_true p 0 n (omega arith))),
        λ v lv h. ⊎_elim (λ (g : v < k). clash ((decides v lv).1 h) (first_before p 0 n v (omega arith) (omega arith))) (λ g. g) (lt_or_le v k),
      )

  -- it is n exactly if there is none
  pub lowest_none_exact : ((v : ℕ) → v < n → P v → ⊥) ↔ (first p 0 n ≡ n)
  lowest_none_exact = ((λ h. first_none p n (λ k l. refuted k l (h k l))), λ e v l h. clash ((decides v l).1 h) (first_before p 0 n v (omega arith) (omega arith)))
