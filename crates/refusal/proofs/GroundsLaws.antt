-- A chain of checks, taken apart one by one. Main laws: `unless_cases`, `unless_passed`.
use mathlib.Core.Path.{◌≡◌, refl, ap}
use mathlib.Core.Bool.{Bool, true, false}
use Prim.Native.Nat.{ℕ}
use Rattle.refusal.specs.Grounds.{unless}

-- what holds of the no where the test fails, and of the later checks where it passes, holds of the check
pub unless_cases : {A : Type 0} (P : A → Type 0) (b : Bool) (refused later : A) → (b ≡ false → P refused) → (b ≡ true → P later) → P (unless b refused later)
unless_cases P true refused later f g = g refl
unless_cases P false refused later f g = f refl

-- a check that an answer lies behind has passed: the no and the answer have different numbers
pub unless_passed : {A : Type 0} (number : A → ℕ) (b : Bool) (refused later answer : A) → (number refused ≡ number answer → ⊥)
    → unless b refused later ≡ answer → (b ≡ true) × (later ≡ answer)
unless_passed number true refused later answer other e = (refl, e)
unless_passed number false refused later answer other e = absurd (other (ap number e))
