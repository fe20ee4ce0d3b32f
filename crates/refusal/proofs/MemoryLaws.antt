-- An output after an answer. Main law: `output_refused`. Assumes nothing.
use Rattle.std.specs.Prelude.{Result, Err}
use mathlib.Core.Path.{◌≡◌, refl, sym, ap, ◌∙◌}
use mathlib.Core.List.{List}
use Prim.Native.Nat.{ℕ}
use Rattle.refusal.specs.Grounds.{number_of, answer_number}
use Rattle.refusal.specs.Memory.{output}
use Rattle.refusal.specs.declared.Refusal.{Refusal}
use Rattle.refusal.specs.declared.Refusal.TheVariants.{WrongSize, WrongLength, Table, Undecodable, Contention, DisabledCarry, Loop, CellClock, NoSuchSettings, NotABit, Line, Row, AscLine, SizesDiffer, ListTooShort, Change, OutOfRange}

module _ (old new : List ℕ) where
  -- whatever the ground, an output keeps its contents
  pub output_refused : (r : Refusal) → output (number_of r) old new ≡ old
  output_refused WrongSize = refl
  output_refused WrongLength = refl
  output_refused (Table part) = refl
  output_refused (Undecodable position) = refl
  output_refused (Contention wire) = refl
  output_refused (DisabledCarry wire) = refl
  output_refused (Loop wire) = refl
  output_refused (CellClock tile) = refl
  output_refused (NoSuchSettings tile) = refl
  output_refused (NotABit index) = refl
  output_refused (Line line) = refl
  output_refused (Row row) = refl
  output_refused (AscLine line) = refl
  output_refused SizesDiffer = refl
  output_refused (ListTooShort rows) = refl
  output_refused (Change line) = refl
  output_refused (OutOfRange number) = refl

  -- the same of an answer that is a no
  pub output_kept : {A : Type 0} (a : Result A Refusal) (r : Refusal) → a ≡ Err r → old ≡ output (answer_number a) old new
  output_kept {A} a r e = sym (ap (λ (x : Result A Refusal). output (answer_number x) old new) e ∙ output_refused r)
