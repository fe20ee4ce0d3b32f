-- What `read` answers, from what going through the lines says. Main laws: `read_stuck`, `read_all`.
use Rattle.std.specs.Prelude.{Result, Ok, Err}
use Prim.Native.Nat.{ℕ}
use mathlib.Core.Path.{◌≡◌, refl, ap, ◌∙◌, subst}
use mathlib.Core.List.{List}
use lib.ListN.{length}
use Rattle.ports.specs.Lengths.{columns}
use Rattle.words.specs.Packed.{packed}
use Rattle.refusal.specs.declared.Refusal.TheVariants.{AscLine}
use Rattle.asc.specs.Area.{Area}
use Rattle.asc.specs.Content.{value_at, rows_packed}
use Rattle.asc.specs.Meaning.{line_number, ScanSays, Lent, by_line, AscSays}

module _ (a : Area) (s before content : List ℕ) (r : Result (Unit {0}) ℕ) (lent : Lent a (length before)) (says : ScanSays a s r content) where
  pub read_stuck : (n place : ℕ) → r ≡ Err n → place ≡ line_number n → AscSays a s before before (Err (AscLine place))
  read_stuck n place e p =
      (refl, by_line lent (record { n = n; says = subst (λ (r : Result (Unit {0}) ℕ). ScanSays a s r content) e says; place_is = p }))

  pub read_all : (after : List ℕ) → r ≡ (Ok tt) → after ≡ packed columns (value_at content) (length before) → AscSays a s before after (Ok tt)
  unfolding rows_packed
  read_all after e b =
      (lent, record { content = content; all_says = subst (λ (r : Result (Unit {0}) ℕ). ScanSays a s r content) e says; bits_are = b ∙ ap (packed columns (value_at content)) lent.right_length })
