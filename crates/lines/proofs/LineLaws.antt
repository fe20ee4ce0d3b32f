-- The part of a wire and of a cell: a line or nothing, and how long it can be. Main laws: `switch_none`, `switch_some`, `cell_none`, `cell_some`.
use Prim.Native.Nat.{ℕ, ◌-◌, ◌/◌, ◌%◌, ◌≤◌}
use mathlib.Core.Path.{◌≡◌}
use mathlib.Core.Logic.{◌≢◌}
use mathlib.Core.Bool.{Bool, true, false, cond, ◌&&◌}
use mathlib.Core.List.{List, []}
use native.Mathlib.Omega.{arith}
use borrow.Author.Tests.{eq-eqb, ne_eqb}
use lib.Dec.{eqb}
use lib.ListN.{length, get_or}
use Rattle.equations.specs.Tiles.{table_of, flags_at}
use Rattle.lines.specs.Lines.{switch_line, cell_line}
use Rattle.lines.specs.Listing.{switch_part, cell_part}

pub switch_none : (sources : List ℕ) (w : ℕ) → get_or sources w 0 ≡ 0 → switch_part sources w ≡ []
switch_none sources w e = rw (eq-eqb _ _ e)

pub switch_some : (sources : List ℕ) (w : ℕ) → get_or sources w 0 ≢ 0 → switch_line w (get_or sources w 0 - 1) ≡ switch_part sources w
switch_some sources w e = rw (ne_eqb _ _ e)

pub switch_long : (sources : List ℕ) (w : ℕ) → length (switch_part sources w) ≤ 11
switch_long sources w = go (eqb (get_or sources w 0) 0)
  where
    go : (b : Bool) → length (cond b [] (switch_line w (get_or sources w 0 - 1))) ≤ 11
    go true = omega arith
    go false = omega arith

module _ (st : List ℕ) (c : ℕ) where
  abbrev blank : Bool
  blank = eqb (table_of st (c / 8) (c % 8)) 0 && eqb (flags_at st (c / 8) (c % 8)) 0

  abbrev own : List ℕ
  own = cell_line (c / 8) (c % 8) (table_of st (c / 8) (c % 8)) (flags_at st (c / 8) (c % 8))

  pub cell_none : blank ≡ true → cell_part st c ≡ []
  cell_none e = rw e

  pub cell_some : blank ≡ false → own ≡ cell_part st c
  cell_some e = rw e

  pub cell_long : length (cell_part st c) ≤ 13
  cell_long = go blank
    where
      go : (b : Bool) → length (cond b [] own) ≤ 13
      go true = omega arith
      go false = omega arith
