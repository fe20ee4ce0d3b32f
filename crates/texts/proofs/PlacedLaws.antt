-- A text with a piece put in at a position. Main laws: `put_is`, `placed_length`, `placed_more`: a piece behind a piece; `placed_before`, `placed_inside`: what
-- stands where.
use Prim.Native.Nat.{ℕ, ◌+◌, ◌-◌, ◌<◌, ◌≤◌}
use mathlib.Core.Path.{◌≡◌, sym, ap, ap₂, ◌∙◌}
use mathlib.Core.List.{List, [], ◌++◌, append_assoc}
use native.Mathlib.Omega.{arith}
use native.Mathlib.Nat.{add-zero}
use lib.ListN.{length, get_or, take, drop, length-append, length-drop, take-append-drop, get_or-append}
use lib.Seq.{length-take-le, take_at, get_or-take, get_or-append-add, drop-append-add, drop-drop}
use borrow.Rule.Slice.PartMut.{put_mid, Post-is}
use Rattle.texts.specs.Pieces.{placed}

-- a callee was lent the part from `at` on and gave xs back
pub put_is : (at n : ℕ) (xs ys out : List ℕ) → ys ≡ xs → n ≡ length xs → put_mid at (at + n - at) out ys ≡ placed at xs out
put_is at n xs ys out e q = ap₂ (λ (y z : List ℕ). take at out ++ (y ++ z)) e (Post-is at (at + n) out (omega arith) ∙ ap (λ (k : ℕ). drop (at + k) out) q)

pub placed_none : (at : ℕ) (out : List ℕ) → out ≡ placed at [] out
placed_none at out = sym (take-append-drop at out) ∙ ap (λ (k : ℕ). take at out ++ drop k out) (sym (add-zero at))

pub placed_length : (at : ℕ) (xs out : List ℕ) → at + length xs ≤ length out → length (placed at xs out) ≡ length out
placed_length at xs out h =
    omega (
      arith,
      length-append (take at out) (xs ++ drop (at + length xs) out),
      length-append xs (drop (at + length xs) out),
      length-drop (at + length xs) out,
      length-take-le at out (let z : at ≤ length out = omega arith in z),
    )

-- xs, and ys behind it
module _ (at next : ℕ) (xs ys out : List ℕ) (e : next ≡ at + length xs) (h : next + length ys ≤ length out) where
  abbrev front : List ℕ
  front = take at out ++ xs

  front_long : length front ≡ next
  front_long = omega (arith, length-append (take at out) xs, length-take-le at out (let z : at ≤ length out = omega arith in z))

  seam : placed at xs out ≡ front ++ drop (at + length xs) out
  seam = sym (append_assoc (take at out) xs (drop (at + length xs) out))

  before : take next (placed at xs out) ≡ take at out ++ xs
  before = ap (take next) seam ∙ take_at front (drop (at + length xs) out) next front_long

  behind : drop (next + length ys) (placed at xs out) ≡ drop (at + length (xs ++ ys)) out
  behind =
      ap₂ (λ (k : ℕ) (l : List ℕ). drop (k + length ys) l) (sym front_long) seam
      ∙ drop-append-add front (drop (at + length xs) out) (length ys)
      ∙ drop-drop (length ys) (at + length xs) out
      ∙ ap (λ (k : ℕ). drop k out) (let q : at + length xs + length ys ≡ at + length (xs ++ ys) = omega (arith, length-append xs ys) in q)

  pub placed_more : placed next ys (placed at xs out) ≡ placed at (xs ++ ys) out
  placed_more =
      ap₂ (λ (a b : List ℕ). a ++ (ys ++ b)) before behind
      ∙ append_assoc (take at out) xs (ys ++ drop (at + length (xs ++ ys)) out)
      ∙ ap (λ (l : List ℕ). take at out ++ l) (sym (append_assoc xs ys (drop (at + length (xs ++ ys)) out)))

-- ---- what stands where

module _ (at : ℕ) (xs out : List ℕ) (h : at ≤ length out) where
  pub placed_before : (q : ℕ) → q < at → get_or (placed at xs out) q 0 ≡ get_or out q 0
  placed_before q l =
      get_or-append (take at out) (xs ++ drop (at + length xs) out) 0 q (let e = length-take-le at out h in omega arith) ∙ get_or-take at out q 0 l

  pub placed_inside : (k : ℕ) → k < length xs → get_or (placed at xs out) (at + k) 0 ≡ get_or xs k 0
  placed_inside k l =
      ap (λ (n : ℕ). get_or (placed at xs out) (n + k) 0) (sym (length-take-le at out h))
      ∙ get_or-append-add (take at out) (xs ++ drop (at + length xs) out) k 0 ∙ get_or-append xs (drop (at + length xs) out) 0 k l
