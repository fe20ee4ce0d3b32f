-- A cell that is not all zero, by its two numbers. Main laws: `used_table`, `used_flags`. Assumes nothing.
use Prim.Native.Nat.{ℕ, ◌/◌, ◌%◌}
use mathlib.Core.Path.{◌≡◌, sym, ◌∙◌}
use mathlib.Core.Bool.{true, not}
use mathlib.Core.Logic.{◌≢◌}
use mathlib.Core.List.{List}
use borrow.Author.Tests.{eq-eqb, ne_eqb}
use lib.Dec.{eqb}
use Rattle.equations.specs.Tiles.{table_of, flags_at}
use Rattle.card.specs.Cells.{used_cell}

module _ (st : List ℕ) (c x : ℕ) (e : x ≡ table_of st (c / 8) (c % 8)) where
  pub used_table : x ≢ 0 → true ≡ used_cell st c
  unfolding used_cell
  used_table n = rw (ne_eqb (table_of st (c / 8) (c % 8)) 0 (λ z. n (e ∙ z)))

  pub used_flags : x ≡ 0 → (y : ℕ) → y ≡ flags_at st (c / 8) (c % 8) → not (eqb y 0) ≡ used_cell st c
  unfolding used_cell
  used_flags z y f = rw (f, eq-eqb (table_of st (c / 8) (c % 8)) 0 (sym e ∙ z))
