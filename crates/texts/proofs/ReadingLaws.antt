-- Where only digits stand, the numbers that are read there, written again, are what stands there. Main laws: `two_spans`, `four_spans`,
-- `each_spans`; the other way: `pair_is`, `digits_of`.
use Prim.Native.Nat.{ℕ, zero, suc, ◌+◌, ◌-◌, ◌*◌, ◌/◌, ◌<◌, ◌≤◌}
use mathlib.Core.Path.{◌≡◌, refl, sym, ap, ap₂, ◌∙◌}
use mathlib.Core.Bool.{true}
use mathlib.Core.Logic.{⊎_elim, ◌≢◌}
use mathlib.Core.List.{List, [], ◌∷◌, ◌++◌}
use native.Mathlib.Omega.{arith}
use native.Mathlib.Nat.{add-zero}
use lib.ListN.{get_or}
use Rattle.lists.specs.Tables.{tabulate}
use Rattle.texts.specs.Each.{each, Each}
use Rattle.texts.specs.Hex.{two, four, is_digit, pair_at, quad_at}
use Rattle.texts.proofs.EachLaws.{holds_at}
use Rattle.texts.proofs.HexLaws.{digit_is_one, digit_same, pair_high, pair_low, pair_of, quad_high, quad_low}
use Rattle.texts.proofs.StandsLaws.{Spans, spans_nil, spans_one, spans_at, spans_append, spans_to}

-- only digits stand from a up to b
abbrev pub Digits : List ℕ → ℕ → ℕ → Type 0
Digits s a b = (i : ℕ) → a ≤ i → i < b → is_digit (get_or s i 0) ≡ true

digit_some : (c : ℕ) → is_digit c ≡ true → c ≢ 0
digit_some c d e = ⊎_elim (λ l. absurd (omega arith)) (λ r. absurd (omega arith)) (digit_is_one c d)

-- ---- reading, then writing

module _ (s : List ℕ) (a b : ℕ) (ds : Digits s a b) (i : ℕ) (from : a ≤ i) where
  one_spans : i < b → Spans s i (get_or s i 0 ∷ []) (i + 1)
  one_spans l = spans_one s i (digit_some (get_or s i 0) (ds i from l))

module _ (s : List ℕ) (a b : ℕ) (ds : Digits s a b) (i : ℕ) (from : a ≤ i) where
  pub two_spans : i + 2 ≤ b → Spans s i (two (pair_at s i)) (i + 2)
  two_spans l =
      spans_to (spans_append (one_spans s a b ds i from (omega arith)) (one_spans s a b ds (i + 1) (omega arith) (omega arith)))
      (ap₂ (λ (x y : ℕ). x ∷ y ∷ []) (sym (pair_high s i (ds i from (omega arith)))) (sym (pair_low s i (ds (i + 1) (omega arith) (omega arith)))))
      (omega arith)

module _ (s : List ℕ) (a b : ℕ) (ds : Digits s a b) (i : ℕ) (from : a ≤ i) where
  pub four_spans : i + 4 ≤ b → Spans s i (four (quad_at s i)) (i + 4)
  four_spans l =
      spans_to (spans_append (two_spans s a b ds i from (omega arith)) (two_spans s a b ds (i + 2) (omega arith) (omega arith)))
      (ap₂ ◌++◌ (ap two (sym (quad_high s i)))
      (ap₂ (λ (x y : ℕ). x ∷ y ∷ []) (digit_same _ (quad_at s i / 16) (omega (arith, quad_low s i))) (digit_same _ (quad_at s i) (omega (arith, quad_low s i)))))
      (omega arith)

-- pieces of width w, one behind another from position p on
pub each_spans : {A : Type 0} (s : List ℕ) (f : A → List ℕ) (g : ℕ → A) (w p i n : ℕ)
    → ((k : ℕ) → i ≤ k → k < i + n → Spans s (p + w * k) (f (g k)) (p + w * k + w)) → Spans s (p + w * i) (each f (tabulate g i n)) (p + w * (i + n))
unfolding tabulate
each_spans s f g w p i zero h = spans_to (spans_nil s (p + w * i)) refl (ap (λ (k : ℕ). p + w * k) (sym (add-zero i)))
each_spans s f g w p i (suc n) h =
    spans_append (spans_to (h i (omega arith) (omega arith)) refl (let e : p + w * i + w ≡ p + w * suc i = omega arith in e))
    (spans_to (each_spans s f g w p (suc i) n (λ k a b. h k (omega arith) (omega arith))) refl (ap (λ (k : ℕ). p + w * k) (let e : suc i + n ≡ i + suc n = omega arith in e)))

-- ---- writing, then reading

-- the number of two digits that stand there
pub pair_is : (s : List ℕ) (a x : ℕ) (ys : List ℕ) (c : ℕ) → Spans s a (two x ++ ys) c → x < 256 → pair_at s a ≡ x
pair_is s a x ys c h l =
    pair_of s a x l (ap (λ (i : ℕ). get_or s i 0) (sym (add-zero a)) ∙ spans_at s a (two x ++ ys) c h 0 (omega arith)) (spans_at s a (two x ++ ys) c h 1 (omega arith))

-- where digits were written, only digits stand
pub digits_of : (s : List ℕ) (a b : ℕ) (xs : List ℕ) → Spans s a xs b → Each (λ (c : ℕ). is_digit c ≡ true) xs → Digits s a b
digits_of s a b xs h ds i from l =
    let e = h.ends in
    let q : a + (i - a) ≡ i = omega arith in
    ap (λ (k : ℕ). is_digit (get_or s k 0)) (sym q) ∙ ap is_digit (spans_at s a xs b h (i - a) (omega arith)) ∙ holds_at _ xs ds (i - a) (omega arith)
