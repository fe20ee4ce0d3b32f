-- Reach: a port of the same wire that is no higher. Being linked and being lower are shown in one induction.
use Prim.Native.Nat.{ℕ, ◌≤◌}
use mathlib.Core.Path.{◌≡◌, refl}
use mathlib.Core.Bool.{Bool, true, false, cond}
use native.Mathlib.Omega.{arith}
use Rattle.ports.specs.declared.size.Block.{Block}
use Rattle.fabric.specs.Joins.{Linked, same, on}

pub record Reach (B : Block) (p q : ℕ) : Type 0 where
  pub linked : Linked B p q
  pub low : q ≤ p

module _ {B : Block} where
  pub reach_refl : (p : ℕ) → Reach B p p
  reach_refl p = record { linked = same; low = omega arith }

  pub reach_trans : (p q r : ℕ) → Reach B p q → Reach B q r → Reach B p r
  reach_trans p q r a b = record { linked = on a.linked b.linked; low = omega arith }

  -- to q or to r, as a test says
  pub reach_either : (p q r : ℕ) (t : Bool) → (t ≡ true → Reach B p q) → (t ≡ false → Reach B p r) → Reach B p (cond t q r)
  reach_either p q r true h g = h refl
  reach_either p q r false h g = g refl

  pub reach_if : (p q : ℕ) (t : Bool) → (t ≡ true → Reach B p q) → Reach B p (cond t q p)
  reach_if p q t h = reach_either p q p t h (λ e. reach_refl p)
