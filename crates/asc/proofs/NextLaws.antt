-- Each turn is what is computed (specs/Next.antt). Main law: `turn_next`. Beside it: when a tile is in the block, and its index.
use Prim.Native.Nat.{ℕ, suc, ◌+◌, ◌-◌, ◌*◌, ◌<◌, ◌≤◌}
use mathlib.Core.Path.{◌≡◌, refl, ap, ap₂, ◌∙◌}
use mathlib.Core.Bool.{Bool, true, false}
use mathlib.Core.Logic.{⊎_elim}
use mathlib.Core.List.{List, [], ◌∷◌}
use native.Mathlib.Omega.{arith}
use native.Mathlib.Nat.{mul-le-mul_right}
use borrow.Author.Tests.{le-leb, lt-ltb, leb-true, ltb-true, ne_eqb}
use lib.Dec.{leb, ltb}
use lib.ListN.{length, get_or, set}
use Rattle.lists.proofs.CaseLaws.{cases, and_true, and_left, and_right, and_equal}
use Rattle.lists.proofs.SearchLaws.{all_of}
use Rattle.texts.specs.Lines.{same, word}
use Rattle.texts.specs.Pieces.{placed}
use Rattle.texts.proofs.SameLaws.{same_refl, same_false}
use Rattle.ports.specs.Lengths.{positions}
use Rattle.asc.specs.Area.{Area, tiles_of}
use Rattle.asc.specs.Spelling.{device_word, device_line, tile_word, tile_line, is_tile_line, is_binary, is_row}
use Rattle.asc.specs.Stages.{Stage, stage, Outside, DigitRow, Turn, empty, the_device, a_tile, a_row, outside, other, skipped}
use Rattle.asc.specs.Next.{goes, inside, tile_at, tile_next, dot_next, row_next, next_of}
use Rattle.asc.proofs.AreaLaws.{Sized}
use Rattle.asc.proofs.SpellingLaws.{device_word_lem, tile_line_word, line_x_back, line_y_back}
use Rattle.asc.proofs.StepLaws.{device_good, dot_device, dot_other, dot_tile, tile_given, tile_outside}

-- ---- the line of a tile

module _ (X Y : ℕ) (x_few : X ≤ 255) (y_few : Y ≤ 255) where
  pub is_tile_line_lem : is_tile_line (tile_line X Y) ≡ true
  unfolding is_tile_line
  is_tile_line_lem =
      rw (line_x_back X Y x_few, line_y_back X Y x_few y_few)
      (and_true (le-leb X 255 x_few) (and_true (le-leb Y 255 y_few) (same_refl (tile_line X Y))))

  pub dot_tile_line : (a : Area) (d k : Bool) (p : ℕ) (g c : List ℕ) → dot_next a d k p g c (tile_line X Y) ≡ tile_next a d k p g c X Y
  dot_tile_line a d k p g c =
      dot_tile a d k p g c (tile_line X Y)
      (ap (λ (l : List ℕ). same l device_word) (tile_line_word X Y) ∙ same_false tile_word device_word (λ e. absurd (let z : ◌≡◌ {A = ℕ} 108 100 = cc in omega arith)))
      (ap (λ (l : List ℕ). same l tile_word) (tile_line_word X Y) ∙ same_refl tile_word) is_tile_line_lem
      ∙ ap₂ (tile_next a d k p g c) (line_x_back X Y x_few) (line_y_back X Y x_few y_few)

module _ (a : Area) where
  pub inside_is : (i j : ℕ) → i < a.w → j < a.h → inside a (a.x + i) (a.y + j) ≡ true
  unfolding inside
  inside_is i j l m =
      and_true (le-leb a.x (a.x + i) (omega arith))
      (and_true (lt-ltb (a.x + i) (a.x + a.w) (omega arith)) (and_true (le-leb a.y (a.y + j) (omega arith)) (lt-ltb (a.y + j) (a.y + a.h) (omega arith))))

  pub tile_at_is : (i j : ℕ) → tile_at a (a.x + i) (a.y + j) ≡ j * a.w + i
  tile_at_is i j = let e : a.y + j - a.y ≡ j = omega arith in let f : a.x + i - a.x ≡ i = omega arith in rw (e, f)

  pub record InBlock (X Y : ℕ) : Type 0 where
    pub x_from : a.x ≤ X
    pub x_to : X < a.x + a.w
    pub y_from : a.y ≤ Y
    pub y_to : Y < a.y + a.h

  pub in_block : (X Y : ℕ) → inside a X Y ≡ true → InBlock X Y
  unfolding inside
  in_block X Y e =
      let r₁ = and_right (leb a.x X) _ e in
      let r₂ = and_right (ltb X (a.x + a.w)) _ r₁ in
      record {
        x_from = leb-true a.x X (and_left _ _ e);
        x_to = ltb-true X (a.x + a.w) (and_left _ _ r₁);
        y_from = leb-true a.y Y (and_left _ _ r₂);
        y_to = ltb-true Y (a.y + a.h) (and_right (leb a.y Y) _ r₂);
      }

  pub inside_not : (X Y : ℕ) → (InBlock X Y → ⊥) → inside a X Y ≡ false
  inside_not X Y h = ⊎_elim (λ e. absurd (h (in_block X Y e))) (λ e. e) (cases (inside a X Y))

  -- the last of the four tests
  pub inside_last : (X Y : ℕ) → a.x ≤ X → X < a.x + a.w → a.y ≤ Y → inside a X Y ≡ ltb Y (a.y + a.h)
  unfolding inside
  inside_last X Y e f g = rw (le-leb a.x X e, lt-ltb X (a.x + a.w) f, le-leb a.y Y g)

  -- the tile's index is below their number
  pub tile_at_lt : (X Y : ℕ) → InBlock X Y → tile_at a X Y < tiles_of a
  tile_at_lt X Y b =
      let f = b.x_from in
      let t = b.x_to in
      let f' = b.y_from in
      let t' = b.y_to in
      let l : suc (Y - a.y) ≤ a.h = omega arith in
      let m : suc (Y - a.y) * a.w ≤ a.h * a.w = mul-le-mul_right a.w l in
      let q : (Y - a.y) * a.w + a.w ≡ suc (Y - a.y) * a.w = omega arith in
      omega arith

  pub outside_is : (X Y : ℕ) → Outside a X Y → inside a X Y ≡ false
  outside_is X Y h =
      ⊎_elim
      (λ e.
      let b = in_block X Y e in
      let f = b.x_from in
      let t = b.x_to in
      let f' = b.y_from in
      let t' = b.y_to in
      absurd (h (X - a.x) (Y - a.y) (omega arith) (omega arith) (omega arith) (omega arith)))
      (λ e. e) (cases (inside a X Y))

-- ---- a row

pub row_passes : (line : List ℕ) → DigitRow line → is_row line ≡ true
unfolding is_row
row_passes line r =
    and_equal (length line) 54 r.long
    (all_of (λ k. is_binary (get_or line k 0)) 0 (length line)
    (λ k f t. let l = r.long in let b = r.digits k (omega arith) in and_true (le-leb 48 (get_or line k 0) b.0) (le-leb (get_or line k 0) 49 b.1)))

-- ---- any turn

module _ (a : Area) (size : Sized a) where
  row_some : (line : List ℕ) → DigitRow line → (d k : Bool) (l p : ℕ) (g c : List ℕ)
      → next_of a (stage d k (suc l) p g c) line ≡ goes (stage d k l (p + 54) g (placed p line c))
  unfolding next_of row_next
  row_some [] r d k l p g c = absurd (let e = r.long in omega arith)
  row_some (b ∷ line) r d k l p g c = rw (row_passes (b ∷ line) r)

  pub turn_next : {st next : Stage} {line : List ℕ} → Turn a st line next → next_of a st line ≡ goes next
  unfolding next_of
  turn_next empty = refl
  turn_next (the_device {k} {p} {g} {c}) =
      dot_device a false k p g c device_line (ap (λ (l : List ℕ). same l device_word) device_word_lem ∙ same_refl device_word)
      ∙ device_good false p g c device_line (same_refl device_line) refl
  turn_next (a_tile {d} {k} {p} {g} {c} {i} {j} l m free) =
      let x_fits = size.x_fits in
      let y_fits = size.y_fits in
      dot_tile_line (a.x + i) (a.y + j) (omega arith) (omega arith) a d k p g c
      ∙ tile_given a d k p g c (a.x + i) (a.y + j) (inside_is a i j l m) (ap (λ (t : ℕ). get_or g t 0) (tile_at_is a i j) ∙ free)
      ∙ ap (λ (t : ℕ). goes (stage d false 16 (positions * t) (set g t 1) c)) (tile_at_is a i j)
  turn_next (a_row {d} {k} {l} {p} {g} {c} {line} r) = row_some line r d k l p g c
  turn_next (outside {d} {k} {p} {g} {c} {X} {Y} x_few y_few out) =
      dot_tile_line X Y x_few y_few a d k p g c ∙ tile_outside a d k p g c X Y (outside_is a X Y out)
  turn_next (other {d} {k} {p} {g} {c} {line} no-device no_tile) =
      dot_other a d k p g c (46 ∷ line) (same_false (word (46 ∷ line)) device_word no-device) (same_false (word (46 ∷ line)) tile_word no_tile)
  turn_next (skipped {d} {p} {g} {c} {line} {b} h) = rw (ne_eqb b 46 h)
