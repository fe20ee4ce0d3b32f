-- The walk from edge to edge, for any names and any step. Main law: `walk_reach`.
use Prim.Native.Nat.{ℕ, zero, suc, ◌-◌, ◌≤◌, ◌<◌}
use mathlib.Core.Path.{◌≡◌, refl, sym}
use mathlib.Core.Bool.{Bool, true, false}
use native.Mathlib.Omega.{arith}
use Rattle.std.specs.Prelude.{Some, None, if◌then◌else◌}
use Rattle.fabric.specs.Span.{walk, edge}
use Rattle.fabric.specs.SpanWire.{ends}

back_one : (e : ℕ) → suc e - 1 ≡ e
back_one e = omega arith

module _ (on : ℕ → Bool) (next : ℕ → ℕ) where
  pub walk_suc : (e k : ℕ) → on k ≡ true → walk on next (suc e) k ≡ walk on next e (next k)
  unfolding walk
  walk_suc e k h = rw (h, walk)

  -- where it ends: a name that does not go on, or the rim
  pub walk_stops : (e k : ℕ) → on k ≡ false → edge e k ≡ walk on next e k
  unfolding walk
  walk_stops zero k h = refl
  walk_stops (suc e) k h = rw (h, walk)

  pub walk_end : (e k : ℕ) → e ≤ 0 → edge 0 k ≡ walk on next e k
  unfolding walk
  walk_end zero k h = refl
  walk_end (suc e) k h = absurd (omega arith)

  -- a turn of the loop that walks
  pub walk_step : (e k : ℕ) → 0 < e → on k ≡ true → walk on next (e - 1) (next k) ≡ walk on next e k
  walk_step zero k h l = absurd (omega arith)
  walk_step (suc e) k h l = rw (back_one e) (sym (walk_suc e k l))

  -- the same by what the step finds at the edge before
  pub walk_none : (e k : ℕ) → None ≡ (if on k then Some (next k) else None) → edge e k ≡ walk on next e k
  walk_none e k h = go (on k) refl h
    where
      go : (b : Bool) → on k ≡ b → None ≡ (if b then Some (next k) else None) → edge e k ≡ walk on next e k
      go true q f = cc
      go false q f = walk_stops e k q

  pub walk_some : (e k j : ℕ) → 0 < e → Some j ≡ (if on k then Some (next k) else None) → walk on next (e - 1) j ≡ walk on next e k
  walk_some e k j l h = go (on k) refl h
    where
      go : (b : Bool) → on k ≡ b → Some j ≡ (if b then Some (next k) else None) → walk on next (e - 1) j ≡ walk on next e k
      go true q f = let d : j ≡ next k = cc in rw d (walk_step e k l q)
      go false q f = cc

  -- what each step back gives, the whole walk gives, up to the edge E
  module _ (rule : ℕ → ℕ → ℕ) (R : ℕ → ℕ → Type 0) (R-refl : (p : ℕ) → R p p) (R-trans : (p q r : ℕ) → R p q → R q r → R p r)
      (ok : ℕ → Type 0) (E : ℕ)
      (step : (e k : ℕ) → e < E → ok k → on k ≡ true → ok (next k) × R (rule (suc e) k) (rule e (next k))) where
    pub walk_reach : (e k : ℕ) → e ≤ E → ok k → R (rule e k) (ends rule (walk on next e k))
    unfolding walk
    walk_reach zero k l g = R-refl _
    walk_reach (suc e) k l g = go (walk_reach e) (on k) refl
      where
        go : ((k : ℕ) → e ≤ E → ok k → R (rule e k) (ends rule (walk on next e k))) → (t : Bool) → on k ≡ t
            → R (rule (suc e) k) (ends rule (elim t [ true ↦ walk on next e (next k) | false ↦ edge (suc e) k ]))
        go ih true q = let s = step e k l g q in R-trans _ _ _ s.1 (ih (next k) (omega arith) s.0)
        go ih false q = R-refl _
