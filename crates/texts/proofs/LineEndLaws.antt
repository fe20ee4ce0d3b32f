-- The line from a position up to the next line feed (`LineTo`). Main laws: `line_to`, `none_left`, `line_plain`, `line_split`, `front_more`.
use Prim.Native.Nat.{ℕ, zero, suc, ◌+◌, ◌-◌, ◌<◌, ◌≤◌}
use mathlib.Core.Path.{◌≡◌, sym, ap, ap₂, ◌∙◌}
use mathlib.Core.Bool.{Bool}
use mathlib.Core.Logic.{⊎_elim, ◌≢◌}
use mathlib.Core.List.{List, [], ◌∷◌, ◌++◌}
use native.Mathlib.Omega.{arith}
use borrow.Author.Tests.{eqb-true, eqb-false}
use lib.Dec.{eqb}
use lib.ListN.{length, take, drop, get_or, length-drop, take-append-drop}
use lib.Seq.{length-take-le, take-add, take-append-add, drop-drop, drop-cons, get_or-take, get_or-drop}
use Rattle.lists.specs.Search.{first}
use Rattle.lists.proofs.CaseLaws.{cases}
use Rattle.lists.proofs.SearchLaws.{first_le, first_true, first_before}
use Rattle.texts.specs.Lines.{Plain}

-- ---- where a line ends

abbrev pub feed : List ℕ → ℕ → Bool
feed s k = eqb (get_or s k 0) 10

abbrev pub line_from : List ℕ → ℕ → ℕ → List ℕ
line_from s at end = take (end - at) (drop at s)

first_from : (p : ℕ → Bool) (i m : ℕ) → i ≤ first p i m
unfolding first
first_from p i zero = omega arith
first_from p i (suc m) = ⊎_elim (λ e. rw e (omega arith)) (λ e. rw e (let h = first_from p (suc i) m in omega arith)) (cases (p i))

-- the line from a position up to the next line feed
pub record LineTo (s : List ℕ) (at end : ℕ) : Type 0 where
  pub from : at ≤ end
  pub to : end < length s
  pub ended : get_or s end 0 ≡ 10
  pub before : (k : ℕ) → at ≤ k → k < end → get_or s k 0 ≢ 10

module _ (s : List ℕ) (at end : ℕ) (in-text : at ≤ length s) (e : end ≡ first (feed s) at (length s - at)) where
  pub line_to : end ≢ length s → LineTo s at end
  line_to h =
      let low = first_from (feed s) at (length s - at) in
      let high = first_le (feed s) at (length s - at) in
      let l : end < length s = omega arith in
      record {
        from = omega arith;
        to = l;
        ended = ap (λ (k : ℕ). get_or s k 0) e ∙ eqb-true (get_or s (first (feed s) at (length s - at)) 0) 10 (first_true (feed s) at (length s - at) (omega arith));
        before = λ k f t. eqb-false (get_or s k 0) 10 (first_before (feed s) at (length s - at) k f (omega arith));
      }

  -- no line feed is left
  pub none_left : end ≡ length s → (k : ℕ) → at ≤ k → k < length s → get_or s k 0 ≢ 10
  none_left q k f t = eqb-false (get_or s k 0) 10 (first_before (feed s) at (length s - at) k f (omega arith))

module _ (s : List ℕ) (at end : ℕ) (l : LineTo s at end) where
  to_end : at + (end - at) ≡ end
  to_end = let f = l.from in omega arith

  pub line_length : length (line_from s at end) ≡ end - at
  line_length =
      let f = l.from in
      let t = l.to in
      length-take-le (end - at) (drop at s) (rw (length-drop at s) (omega arith))

  pub line_plain : Plain (line_from s at end)
  line_plain k h q =
      let f = l.from in
      let t = line_length in
      l.before (at + k) (omega arith) (omega arith)
      (sym (get_or-drop at s k 0) ∙ sym (get_or-take (end - at) (drop at s) k 0 (omega arith)) ∙ q)

  pub line_split : drop at s ≡ line_from s at end ++ (10 ∷ drop (suc end) s)
  line_split =
      sym (take-append-drop (end - at) (drop at s))
      ∙ ap (λ (x : List ℕ). line_from s at end ++ x)
      (drop-drop (end - at) at s ∙ ap (λ (k : ℕ). drop k s) to_end ∙ drop-cons s end 0 l.to ∙ ap (λ (b : ℕ). b ∷ drop (suc end) s) l.ended)

  pub front_more : take (end + 1) s ≡ take at s ++ (line_from s at end ++ (10 ∷ []))
  front_more =
      let f = l.from in
      let q : end + 1 ≡ at + (end - at + 1) = omega arith in
      ap (λ (k : ℕ). take k s) q ∙ take-add at (end - at + 1) s
      ∙ ap (λ (x : List ℕ). take at s ++ x)
      (ap₂ (λ (k : ℕ) (x : List ℕ). take (k + 1) x) (sym line_length) line_split ∙ take-append-add (line_from s at end) (10 ∷ drop (suc end) s) 1)
