-- Text put in piece behind piece (`Puts`), by functions that answer where the next piece goes. Main laws: `puts_none`, `puts_line`, `puts_more`, `puts_turn`: a
-- loop that puts parts; `filled_whole`: a room that is filled.
use Prim.Native.Nat.{ℕ, zero, suc, ◌+◌, ◌*◌, ◌<◌, ◌≤◌}
use mathlib.Core.Path.{◌≡◌, sym, ap, ◌∙◌, subst}
use mathlib.Core.Logic.{⊎_elim}
use mathlib.Core.List.{List, [], ◌++◌, append-nil}
use native.Mathlib.Omega.{arith}
use native.Mathlib.Nat.{add-zero}
use native.Mathlib.Numerals.{add-one}
use lib.ListN.{length, take, drop, length-append, drop_of_length-le}
use lib.Seq.{take_at, drop_at}
use Rattle.lists.specs.Parts.{joined}
use Rattle.lists.proofs.CaseLaws.{lt_or_le}
use Rattle.texts.specs.Pieces.{placed}
use Rattle.texts.proofs.PlacedLaws.{placed_none, placed_length, placed_more}

-- what a function that puts a part in says: where the next goes, and what stands there
abbrev pub Puts : ℕ → List ℕ → List ℕ → ℕ → List ℕ → Type 0
Puts at part old next out = (next ≡ at + length part) × (out ≡ placed at part old)

pub puts_none : (at : ℕ) (part old : List ℕ) → part ≡ [] → Puts at part old at old
puts_none at part old e = subst (λ (p : List ℕ). Puts at p old at old) (sym e) (sym (add-zero at), placed_none at old)

pub puts_line : (at : ℕ) (part line old : List ℕ) (next : ℕ) (out : List ℕ) → line ≡ part → Puts at line old next out → Puts at part old next out
puts_line at part line old next out e h = subst (λ (p : List ℕ). Puts at p old next out) e h

-- a part behind those before it
pub puts_more : (at : ℕ) (xs ys old : List ℕ) (next last : ℕ) (out out' : List ℕ) → Puts at xs old next out → Puts next ys out last out'
    → next + length ys ≤ length old → Puts at (xs ++ ys) old last out'
puts_more at xs ys old next last out out' (e, p) (f, q) h =
    (omega (arith, length-append xs ys), q ∙ ap (placed next ys) p ∙ placed_more at next xs ys old e h)

-- two and four parts, one behind the other, in a room that is long enough
pub puts_long : (at : ℕ) (part old : List ℕ) (next : ℕ) (out : List ℕ) → Puts at part old next out → at + length part ≤ length old → length out ≡ length old
puts_long at part old next out p h = ap length p.1 ∙ placed_length at part old h

pub puts_two : (at : ℕ) (a b old : List ℕ) (n₁ n₂ : ℕ) (o₁ o₂ : List ℕ) → Puts at a old n₁ o₁ → Puts n₁ b o₁ n₂ o₂ → at + length (a ++ b) ≤ length old
    → Puts at (a ++ b) old n₂ o₂
puts_two at a b old n₁ n₂ o₁ o₂ p q h = let e = p.0 in puts_more at a b old n₁ n₂ o₁ o₂ p q (omega (arith, length-append a b))

pub puts_four : (at : ℕ) (a b c d old : List ℕ) (n₁ n₂ n₃ n₄ : ℕ) (o₁ o₂ o₃ o₄ : List ℕ) → Puts at a old n₁ o₁ → Puts n₁ b o₁ n₂ o₂ → Puts n₂ c o₂ n₃ o₃
    → Puts n₃ d o₃ n₄ o₄ → at + length (a ++ (b ++ (c ++ d))) ≤ length old → Puts at (a ++ (b ++ (c ++ d))) old n₄ o₄
puts_four at a b c d old n₁ n₂ n₃ n₄ o₁ o₂ o₃ o₄ p q r s h =
    let l₁ = length-append a (b ++ (c ++ d)) in
    let l₂ = length-append b (c ++ d) in
    let l₃ = length-append c d in
    let e₁ = p.0 in
    let e₂ = q.0 in
    let k₁ : length o₁ ≡ length old = puts_long at a old n₁ o₁ p (omega arith) in
    let k₂ : length o₂ ≡ length o₁ = puts_long n₁ b o₁ n₂ o₂ q (omega arith) in
    puts_two at a (b ++ (c ++ d)) old n₁ n₄ o₁ o₄ p
    (puts_two n₁ b (c ++ d) o₁ n₂ n₄ o₂ o₄ q (puts_two n₂ c d o₂ n₃ n₄ o₃ o₄ r s (omega arith)) (omega arith)) h

-- three parts, one behind the other
pub puts_three : (a b c old : List ℕ) (n₁ n₂ n₃ : ℕ) (o₁ o₂ o₃ : List ℕ) → Puts 0 a old n₁ o₁ → Puts n₁ b o₁ n₂ o₂ → Puts n₂ c o₂ n₃ o₃
    → length o₁ ≡ length old → n₂ + length c ≤ length old → Puts 0 (a ++ (b ++ c)) old n₃ o₃
puts_three a b c old n₁ n₂ n₃ o₁ o₂ o₃ p q r e h =
    let second = q.0 in
    puts_more 0 a (b ++ c) old n₁ n₃ o₁ o₃ p (puts_more n₁ b c o₁ n₂ n₃ o₂ o₃ q r (omega arith)) (omega (arith, length-append b c))

-- a turn of a loop that puts f's parts
pub puts_turn : (f : ℕ → List ℕ) (at w : ℕ) (old : List ℕ) (next last : ℕ) (out out' : List ℕ) → Puts at (joined f w) old next out
    → Puts next (f w) out last out' → next + length (f w) ≤ length old → Puts at (joined f (w + 1)) old last out'
unfolding joined
puts_turn f at w old next last out out' p q h = rw (add-one w) (puts_more at (joined f w) (f w) old next last out out' p q h)

-- ---- the parts of a loop, each of at most k bytes

pub joined_long : (f : ℕ → List ℕ) (k n : ℕ) → ((i : ℕ) → length (f i) ≤ k) → length (joined f n) ≤ k * n
unfolding joined
joined_long f k zero h = omega arith
joined_long f k (suc n) h = let r = joined_long f k n h in let q = h n in omega (arith, length-append (joined f n) (f n))

-- ---- a piece at the front of a room

pub spelt_take : (xs old : List ℕ) (n : ℕ) (out : List ℕ) → Puts 0 xs old n out → take n out ≡ xs
spelt_take xs old n out p = let e = p.0 in ap (take n) p.1 ∙ take_at xs (drop (0 + length xs) old) n (omega arith)

pub spelt_length : (xs old : List ℕ) (n : ℕ) (out : List ℕ) → Puts 0 xs old n out → n ≡ length (take n out)
spelt_length xs old n out p = let e = p.0 in let q = ap length (spelt_take xs old n out p) in omega arith

-- a room that is filled whole
pub filled_whole : (xs old : List ℕ) (n : ℕ) (out : List ℕ) → Puts 0 xs old n out → length old ≡ length xs → out ≡ xs
filled_whole xs old n out p e =
    p.1 ∙ ap (λ (l : List ℕ). xs ++ l) (drop_of_length-le old (let z : length old ≤ 0 + length xs = omega arith in z)) ∙ append-nil xs

pub joined_grows : (f : ℕ → List ℕ) (t n : ℕ) → t ≤ n → length (joined f t) ≤ length (joined f n)
unfolding joined
joined_grows f t zero l = let e : t ≡ 0 = omega arith in rw e (omega arith)
joined_grows f t (suc n) l =
    ⊎_elim (λ (k : t < suc n). let r = joined_grows f t n (omega arith) in omega (arith, length-append (joined f n) (f n)))
    (λ (k : suc n ≤ t). let e : t ≡ suc n = omega arith in rw e (omega arith)) (lt_or_le t (suc n))

-- what stands at the front of a room stands there still
pub puts_again : (xs old : List ℕ) (n : ℕ) (out : List ℕ) → Puts 0 xs old n out → Puts 0 xs out n out
puts_again xs old n out p = (
  p.0,
  p.1 ∙ ap (λ (l : List ℕ). xs ++ l) (sym (drop_at xs (drop (0 + length xs) old) (0 + length xs) (let e : length xs ≡ 0 + length xs = omega arith in e)))
      ∙ ap (λ (l : List ℕ). xs ++ drop (0 + length xs) l) (sym p.1),
)
