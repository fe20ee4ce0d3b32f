-- `span::walk` meets its contract. Invariant: what is left of the walk ends where the whole walk does, and the name is one of the span's.
-- Assumes nothing.
use Prim.Native.Nat.{ℕ, ◌<◌}
use mathlib.Core.Path.{◌≡◌}
use mathlib.Core.Bool.{Bool}
use Rattle.std.specs.Prelude.{Option, Some, None, if◌then◌else◌}
use Rattle.fabric.specs.Span.{walk, names}
use Rattle.fabric.proofs.span.walk.Given as goal

abbrev pub invariant-loop-at : goal.invariant-loop-at
invariant-loop-at g l =
    (l.name < names l.s)
    × ((on : ℕ → Bool) (next : ℕ → ℕ) → ((j : ℕ) (r : Option ℕ) → j < names l.s → goal.F-post g l.before l.s j r → r ≡ (if on j then Some (next j) else None)) → walk on next l.at l.name ≡ walk on next l.e l.k)
