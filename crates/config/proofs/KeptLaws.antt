-- An output after an answer that is not done, as it stood. Main law: `output_not_done`. Assumes nothing.
use Rattle.refusal.specs.declared.Refusal.{Refusal}
use Rattle.std.specs.Prelude.{Result, Ok, Err}
use mathlib.Core.Path.{◌≡◌, refl}
use mathlib.Core.List.{List}
use Prim.Native.Nat.{ℕ}
use Rattle.refusal.specs.Grounds.{answer_number}
use Rattle.refusal.specs.Memory.{output}
use Rattle.refusal.proofs.MemoryLaws.{output_kept}

pub output_not_done : (old new : List ℕ) (a : Result (Unit {0}) Refusal) → (a ≡ (Ok tt) → ⊥) → old ≡ output (answer_number a) old new
output_not_done old new (Ok _) h = absurd (h refl)
output_not_done old new (Err r) h = output_kept old new {A = Unit {0}} (Err r) r refl
