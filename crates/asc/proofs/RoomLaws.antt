-- The rooms of marks and digits stay long enough for what is put in (`Fits`). Main law: `turn_fits`.
use Prim.Native.Nat.{ℕ, suc, ◌+◌, ◌*◌, ◌<◌, ◌≤◌}
use mathlib.Core.Path.{◌≡◌, ◌∙◌}
use mathlib.Core.List.{List}
use native.Mathlib.Omega.{arith}
use native.Mathlib.Nat.{mul-le-mul_right}
use lib.ListN.{length, length-set}
use Rattle.texts.proofs.PlacedLaws.{placed_length}
use Rattle.ports.specs.Lengths.{columns, positions}
use Rattle.asc.specs.Area.{Area, tiles_of}
use Rattle.asc.specs.Stages.{Stage, stage, Turn, empty, the_device, a_tile, a_row, outside, other, skipped}

pub record Fits (a : Area) (l p : ℕ) (g c : List ℕ) : Type 0 where
  pub given_long : length g ≡ tiles_of a
  pub content_long : length c ≡ positions * tiles_of a
  pub place_fits : p + columns * l ≤ positions * tiles_of a

abbrev pub FitsAt : Area → Stage → Type 0
FitsAt a (stage d k l p g c) = Fits a l p g c

tile_lt : (a : Area) (i j : ℕ) → i < a.w → j < a.h → j * a.w + i < tiles_of a
tile_lt a i j l m =
    let n : suc j ≤ a.h = omega arith in
    let q : suc j * a.w ≤ a.h * a.w = mul-le-mul_right a.w n in
    let r : j * a.w + a.w ≡ suc j * a.w = omega arith in
    omega arith

pub turn_fits : (a : Area) {st next : Stage} {line : List ℕ} → Turn a st line next → FitsAt a st → FitsAt a next
turn_fits a empty f = f
turn_fits a the_device f = f
turn_fits a (a_tile {g = g} {i = i} {j = j} l m free) f = record {
  given_long = length-set g (j * a.w + i) 1 ∙ f.given_long;
  content_long = f.content_long;
  place_fits = let t = tile_lt a i j l m in omega arith;
}
turn_fits a (a_row {l = l} {p = p} {c = c} {line = line} r) f = record {
  given_long = f.given_long;
  content_long =
      let long = r.long in
      let fit = f.place_fits in
      let room = f.content_long in
      placed_length p line c (omega arith) ∙ f.content_long;
  place_fits = let fit = f.place_fits in omega arith;
}
turn_fits a (outside x y o) f = f
turn_fits a (other n m) f = f
turn_fits a (skipped h) f = f
