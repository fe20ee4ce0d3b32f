-- Two functions that have the same values below n, shown by computing both lists of values. Main law: `agree_below`. Assumes nothing.
use Prim.Native.Nat.{ℕ, ◌<◌}
use mathlib.Core.Path.{◌≡◌, sym, ap, ◌∙◌}
use mathlib.Core.List.{List}
use lib.ListN.{get_or}
use Rattle.lists.specs.Tables.{tabulate}
use Rattle.lists.proofs.TableLaws.{tabulate_zero}

pub agree_below : {A : Type 0} (d : A) (f g : ℕ → A) (n : ℕ) → tabulate f 0 n ≡ tabulate g 0 n → (k : ℕ) → k < n → f k ≡ g k
agree_below {A} d f g n e k h = sym (tabulate_zero f d n k h) ∙ ap (λ (l : List A). get_or l k d) e ∙ tabulate_zero g d n k h
