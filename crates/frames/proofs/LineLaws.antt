-- What `is_line` tests, in a record: the frame's number, its digits and the line end. Main laws: `line_exact`, `line_spans`.
use Prim.Native.Nat.{ℕ, ◌+◌, ◌-◌}
use mathlib.Core.Path.{◌≡◌, refl, sym, ap, ◌∙◌}
use mathlib.Core.Bool.{true, ◌&&◌}
use mathlib.Core.Logic.{◌↔◌}
use mathlib.Core.List.{List, [], ◌∷◌}
use native.Mathlib.Omega.{arith}
use borrow.Author.Tests.{eqb-true, eq-eqb}
use lib.Dec.{eqb}
use lib.ListN.{get_or}
use Rattle.lists.proofs.CaseLaws.{and_left, and_right, and_true}
use Rattle.lists.proofs.SearchLaws.{all_at, all_of}
use Rattle.texts.specs.Hex.{is_digit, pair_at}
use Rattle.frames.specs.Frames.{Frame, digits, line}
use Rattle.frames.specs.Lines.{digits_at, is_line}
use Rattle.texts.proofs.StandsLaws.{Spans, spans_one, spans_to, spans_append}
use Rattle.texts.proofs.ReadingLaws.{Digits}

-- the frame's number, n digits with it, and a line feed
pub record LineAt (s : List ℕ) (at kind n : ℕ) : Type 0 where
  pub kind_is : pair_at s at ≡ kind
  pub only_digits : Digits s at (at + n)
  pub ended : get_or s (at + n) 0 ≡ 10

module _ (s : List ℕ) (at kind n : ℕ) where
  line_parts : is_line s at kind n ≡ true → LineAt s at kind n
  unfolding is_line
  line_parts e =
      let r = and_right (eqb (pair_at s at) kind) (eqb (get_or s (at + n) 0) 10 && digits_at s at n) e in
      let ds = and_right (eqb (get_or s (at + n) 0) 10) (digits_at s at n) r in
      record {
        kind_is = eqb-true (pair_at s at) kind (and_left (eqb (pair_at s at) kind) (eqb (get_or s (at + n) 0) 10 && digits_at s at n) e);
        only_digits = λ i from l.
            let q : at + (i - at) ≡ i = omega arith in
            ap (λ (k : ℕ). is_digit (get_or s k 0)) (sym q) ∙ all_at (λ k. is_digit (get_or s (at + k) 0)) 0 n (i - at) ds (omega arith) (omega arith);
        ended = eqb-true (get_or s (at + n) 0) 10 (and_left (eqb (get_or s (at + n) 0) 10) (digits_at s at n) r);
      }

  line_passes : LineAt s at kind n → is_line s at kind n ≡ true
  unfolding is_line
  line_passes h =
      and_true (eq-eqb (pair_at s at) kind h.kind_is)
      (and_true (eq-eqb (get_or s (at + n) 0) 10 h.ended) (all_of (λ k. is_digit (get_or s (at + k) 0)) 0 n (λ k a b. h.only_digits (at + k) (omega arith) (omega arith))))

  pub line_exact : (is_line s at kind n ≡ true) ↔ LineAt s at kind n
  line_exact = (line_parts, line_passes)

-- the digits of a frame and the line end are its line
pub line_spans : (s : List ℕ) (at n : ℕ) (f : Frame) → Spans s at (digits f) (at + n) → get_or s (at + n) 0 ≡ 10 → Spans s at (line f) (at + n + 1)
line_spans s at n f h e = spans_append h (spans_to (spans_one s (at + n) (λ z. absurd (omega arith))) (ap (λ (c : ℕ). c ∷ []) e) refl)
