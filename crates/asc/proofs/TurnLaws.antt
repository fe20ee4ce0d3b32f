-- What is computed is a turn, and a line has one turn only. Main laws: `next_turn`, `turn_same`, `turn_fits`.
use Prim.Native.Nat.{ℕ, zero, suc, ◌+◌, ◌-◌, ◌<◌, ◌≤◌}
use mathlib.Core.Path.{◌≡◌, sym, ap, ap₂, ◌∙◌, subst}
use mathlib.Core.Bool.{Bool, true, false, ◌&&◌, not}
use mathlib.Core.Logic.{◌⊎◌, inl, inr, ⊎_elim, ◌≢◌}
use mathlib.Core.List.{List, [], ◌∷◌}
use native.Mathlib.Omega.{arith}
use borrow.Author.Tests.{leb-true, not-true, ne_eqb}
use lib.Dec.{leb}
use lib.ListN.{length, get_or}
use Rattle.lists.proofs.CaseLaws.{cases, eq_or_ne, clash, and_left, and_right, equal_and}
use Rattle.lists.proofs.SearchLaws.{all_at}
use Rattle.lists.specs.Search.{all_from}
use Rattle.texts.specs.Lines.{same, word}
use Rattle.texts.specs.Pieces.{placed}
use Rattle.texts.proofs.SameLaws.{same_true, same_refl}
use Rattle.asc.specs.Area.{Area}
use Rattle.asc.specs.Spelling.{device_word, device_line, tile_word, tile_line, line_x, line_y, is_tile_line, is_binary, is_row}
use Rattle.asc.specs.Stages.{Stage, stage, DigitRow, Turn, empty, the_device, a_tile, a_row, outside, other, skipped}
use Rattle.asc.specs.Next.{goes, fault, inside, tile_at, tile_next, dot_next, row_next, next_of}
use Rattle.asc.proofs.AreaLaws.{Sized}
use Rattle.asc.proofs.SpellingLaws.{tile_line_length}
use Rattle.asc.proofs.NextLaws.{in_block, inside_is, turn_next}
use Rattle.asc.proofs.StepLaws.{dot_device, dot_other, dot_bad, dot_tile, device_good, device_bad, tile_outside, tile_twice, tile_given, row_good_lem}

never : {A : Type 0} {st : Stage} → fault ≡ goes st → A
never e = absurd (let z : ◌≡◌ {A = ℕ} 0 1 = cc in omega arith)

module _ {a : Area} {st : Stage} {line : List ℕ} where
  -- a turn to what is computed
  to_next : {next other : Stage} → Turn a st line other → goes other ≡ goes next → Turn a st line next
  to_next {next} {other} t e = let q : other ≡ next = cc in subst (λ (x : Stage). Turn a st line x) q t

pub row_of : (line : List ℕ) → is_row line ≡ true → DigitRow line
unfolding is_row
row_of line e =
    let r = equal_and (length line) 54 (all_from (λ k. is_binary (get_or line k 0)) 0 (length line)) e in
    let l = r.0 in
    record {
      long = l;
      digits = λ k b.
          let t = all_at (λ k. is_binary (get_or line k 0)) 0 (length line) k r.1 (omega arith) (omega arith) in
          (leb-true 48 (get_or line k 0) (and_left _ _ t), leb-true (get_or line k 0) 49 (and_right (leb 48 (get_or line k 0)) _ t));
    }

pub record TileLine (line : List ℕ) : Type 0 where
  pub x_few : line_x line ≤ 255
  pub y_few : line_y line ≤ 255
  pub spelt : line ≡ tile_line (line_x line) (line_y line)

pub tile_line_of : (line : List ℕ) → is_tile_line line ≡ true → TileLine line
unfolding is_tile_line
tile_line_of line e =
    let r = and_right (leb (line_x line) 255) _ e in
    record {
      x_few = leb-true (line_x line) 255 (and_left _ _ e);
      y_few = leb-true (line_y line) 255 (and_left _ _ r);
      spelt = same_true line (tile_line (line_x line) (line_y line)) (and_right (leb (line_y line) 255) _ r);
    }

module _ (a : Area) (d k : Bool) (p : ℕ) (g c : List ℕ) where
  tile_turn : (X Y : ℕ) → X ≤ 255 → Y ≤ 255 → (next : Stage) → tile_next a d k p g c X Y ≡ goes next → Turn a (stage d k 0 p g c) (tile_line X Y) next
  tile_turn X Y x_few y_few next e =
      ⊎_elim
      (λ q.
      let b = in_block a X Y q in
      let f = b.x_from in
      let t = b.x_to in
      let f' = b.y_from in
      let t' = b.y_to in
      let ex : a.x + (X - a.x) ≡ X = omega arith in
      let ey : a.y + (Y - a.y) ≡ Y = omega arith in
      ⊎_elim
      (λ free.
      subst (λ (l : List ℕ). Turn a (stage d k 0 p g c) l next) (ap₂ tile_line ex ey)
      (to_next (a_tile {i = X - a.x} {j = Y - a.y} (omega arith) (omega arith) free) (sym (tile_given a d k p g c X Y q free) ∙ e)))
      (λ taken. never (sym (tile_twice a d k p g c X Y q taken) ∙ e)) (eq_or_ne (get_or g (tile_at a X Y) 0) 0))
      (λ q. to_next (outside x_few y_few (λ i j l m ex ey. clash (ap₂ (inside a) ex ey ∙ inside_is a i j l m) q)) (sym (tile_outside a d k p g c X Y q) ∙ e))
      (cases (inside a X Y))

  dot_turn : (line : List ℕ) (next : Stage) → dot_next a d k p g c (46 ∷ line) ≡ goes next → Turn a (stage d k 0 p g c) (46 ∷ line) next
  dot_turn line next e =
      ⊎_elim
      (λ q. device_turn q (cases (same (46 ∷ line) device_line && not d)))
      (λ q.
      ⊎_elim
      (λ r.
      ⊎_elim
      (λ t.
      let z = tile_line_of (46 ∷ line) t in
      subst (λ (l : List ℕ). Turn a (stage d k 0 p g c) l next) (sym z.spelt)
      (tile_turn (line_x (46 ∷ line)) (line_y (46 ∷ line)) z.x_few z.y_few next (sym (dot_tile a d k p g c (46 ∷ line) q r t) ∙ e)))
      (λ t. never (sym (dot_bad a d k p g c (46 ∷ line) q r t) ∙ e)) (cases (is_tile_line (46 ∷ line))))
      (λ r.
      to_next (other (λ w. clash (ap (λ (l : List ℕ). same l device_word) w ∙ same_refl device_word) q) (λ w. clash (ap (λ (l : List ℕ). same l tile_word) w ∙ same_refl tile_word) r))
      (sym (dot_other a d k p g c (46 ∷ line) q r) ∙ e))
      (cases (same (word (46 ∷ line)) tile_word)))
      (cases (same (word (46 ∷ line)) device_word))
    where
      device_turn : same (word (46 ∷ line)) device_word ≡ true → (same (46 ∷ line) device_line && not d ≡ true) ⊎ (same (46 ∷ line) device_line && not d ≡ false)
          → Turn a (stage d k 0 p g c) (46 ∷ line) next
      device_turn q (inl t) =
          let s = and_left (same (46 ∷ line) device_line) (not d) t in
          let f = not-true d (and_right (same (46 ∷ line) device_line) (not d) t) in
          subst (λ (l : List ℕ). Turn a (stage d k 0 p g c) l next) (sym (same_true (46 ∷ line) device_line s))
          (subst (λ (b : Bool). Turn a (stage b k 0 p g c) device_line next) (sym f)
          (to_next the_device (sym (dot_device a d k p g c (46 ∷ line) q ∙ device_good d p g c (46 ∷ line) s f) ∙ e)))
      device_turn q (inr t) = never (sym (dot_device a d k p g c (46 ∷ line) q ∙ device_bad d p g c (46 ∷ line) t) ∙ e)

  text_turn : (b : ℕ) (line : List ℕ) (next : Stage) → (k' : Bool) → b ≢ 46 → next_of a (stage d k' 0 p g c) (b ∷ line) ≡ goes next → Turn a (stage d k' 0 p g c) (b ∷ line) next
  unfolding next_of
  text_turn b line next true h e = to_next (skipped h) (rw (ne_eqb b 46 h) at e)
  text_turn b line next false h e = never (rw (ne_eqb b 46 h) at e)

pub next_turn : (a : Area) (st : Stage) (line : List ℕ) (next : Stage) → next_of a st line ≡ goes next → Turn a st line next
unfolding next_of row_next
next_turn a st [] next e = to_next empty e
next_turn a (stage d k (suc l) p g c) (b ∷ line) next e =
    ⊎_elim (λ t. to_next (a_row (row_of (b ∷ line) t)) (rw t at e)) (λ t. never (rw t at e)) (cases (is_row (b ∷ line)))
next_turn a (stage d k zero p g c) (b ∷ line) next e =
    ⊎_elim
    (λ (q : b ≡ 46). subst (λ (x : ℕ). Turn a (stage d k 0 p g c) (x ∷ line) next) (sym q) (dot_turn a d k p g c line next (at_dot b q e)))
    (λ (h : b ≢ 46). text_turn a d k p g c b line next k h e) (eq_or_ne b 46)
  where
    at_dot : (b : ℕ) → b ≡ 46 → next_of a (stage d k zero p g c) (b ∷ line) ≡ goes next → dot_next a d k p g c (46 ∷ line) ≡ goes next
    at_dot b q h = let z : next_of a (stage d k zero p g c) (46 ∷ line) ≡ goes next = subst (λ (x : ℕ). next_of a (stage d k zero p g c) (x ∷ line) ≡ goes next) q h in z

-- ---- as the code has them

pub row_goes : (d k : Bool) (l p : ℕ) (g c line : List ℕ) (next : ℕ) (c' : List ℕ) → is_row line ≡ true → next ≡ p + length line → c' ≡ placed p line c
    → row_next d k l p g c line ≡ goes (stage d k l next g c')
row_goes d k l p g c line next c' e q r =
    let long = (row_of line e).long in
    row_good_lem d k l p g c line e ∙ ap₂ (λ (x : ℕ) (y : List ℕ). goes (stage d k l x g y)) (let z : p + 54 ≡ next = omega arith in z) (sym r)

-- a tile's line has 15 bytes at least
pub short_line : (line : List ℕ) → length line < 12 → is_tile_line line ≡ false
short_line line l =
    ⊎_elim
    (λ e.
    let z = ap length (tile_line_of line e).spelt in
    absurd (omega (arith, tile_line_length (line_x line) (line_y line))))
    (λ e. e) (cases (is_tile_line line))

pub tile_test : (line : List ℕ) (X Y : ℕ) → X ≡ line_x line → Y ≡ line_y line → is_tile_line line ≡ (leb X 255 && (leb Y 255 && same line (tile_line X Y)))
unfolding is_tile_line
tile_test line X Y e f = rw (e, f)

-- one turn only
pub turn_same : (a : Area) → Sized a → {st n₁ n₂ : Stage} {line : List ℕ} → Turn a st line n₁ → Turn a st line n₂ → n₁ ≡ n₂
turn_same a size {st} {n₁} {n₂} {line} t u = let e = turn_next a size t in let f = turn_next a size u in cc
