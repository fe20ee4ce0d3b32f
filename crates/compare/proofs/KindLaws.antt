-- What counting and listing the settings of one kind cite. Main laws: `count_zip`: how many differ, as the code sums them; `number_at`, `changed_is`,
-- `number_row_is`: the test and the row of number i. Assumes nothing.
use Prim.Native.Nat.{ℕ, suc, ◌+◌, ◌<◌}
use mathlib.Core.Path.{◌≡◌, refl, sym, ap, ap₂, ◌∙◌}
use mathlib.Core.Bool.{Bool, true, false, cond, not}
use mathlib.Core.Logic.{◌≢◌}
use mathlib.Core.List.{List, [], ◌∷◌}
use native.Mathlib.Omega.{arith}
use borrow.Author.Tests.{eq-eqb, ne_eqb}
use lib.Dec.{eqb}
use lib.ListN.{length, get_or}
use lib.Seq.{sets}
use Rattle.std.specs.Prelude.{map, sum_by}
use Rattle.std.specs.Int.{from_bool}
use Rattle.std.specs.List.{zip}
use Rattle.std.proofs.lemmas.List.{get_or-map}
use Rattle.std.proofs.lemmas.List.Sums.{sum_by-cons}
use Rattle.lists.specs.Search.{count_below}
use Rattle.lists.proofs.CountLaws.{count_add, count_ext}
use Rattle.compare.specs.Places.{row_length, number_apart, number_row}

-- ---- how many differ

-- a test in front of n others
test_count : (b : Bool) → from_bool b ≡ cond {A = ℕ} b 1 0
test_count true = refl
test_count false = refl

first_count : (p : ℕ → Bool) (n k : ℕ) → k ≡ count_below (λ i. p (suc i)) n → from_bool (p 0) + k ≡ count_below p (suc n)
unfolding count_below
first_count p n k f =
    let a = count_add p 1 n in
    let x = count_ext (λ j. p (1 + j)) (λ i. p (suc i)) n (λ i l. ap p (let q : 1 + i ≡ suc i = omega arith in q)) in
    let y = ap (count_below p) (let q : suc n ≡ 1 + n = omega arith in q) in
    let t = test_count (p 0) in
    omega arith

next_apart : (a b : ℕ) (olds news : List ℕ) (i : ℕ) → number_apart 0 olds news i ≡ number_apart 0 (a ∷ olds) (b ∷ news) (suc i)
unfolding number_apart
next_apart a b olds news i = let e : 0 + suc i ≡ suc (0 + i) = omega arith in rw e refl

module _ {X : Type 0} (number : X → ℕ) where
  pub count_zip : (olds news : List X) → length news ≡ length olds
      → sum_by (λ p. from_bool (not (eqb (number p.0) (number p.1)))) (zip olds news) ≡ count_below (number_apart 0 (map number olds) (map number news)) (length olds)
  unfolding number_apart count_below
  count_zip [] news e = refl
  count_zip (x ∷ olds) [] e = absurd (omega arith)
  count_zip (x ∷ olds) (y ∷ news) e =
      sum_by-cons (λ p. from_bool (not (eqb (number p.0) (number p.1)))) (x, y) (zip olds news)
      ∙ first_count (number_apart 0 (map number (x ∷ olds)) (map number (y ∷ news))) (length olds) _
      (count_zip olds news (omega arith)
      ∙ count_ext (number_apart 0 (map number olds) (map number news)) (λ i. number_apart 0 (map number (x ∷ olds)) (map number (y ∷ news)) (suc i)) (length olds)
      (λ i l. next_apart (number x) (number y) (map number olds) (map number news) i))

  -- ---- number i, as the code reads it

  pub number_at : (xs : List X) (i r : ℕ) (x : X) → i < length xs → x ≡ get_or xs i x → r ≡ number x → r ≡ get_or (map number xs) (0 + i) 0
  number_at xs i r x l e f =
      f ∙ ap number e ∙ sym (get_or-map number xs i x 0 l) ∙ ap (λ (k : ℕ). get_or (map number xs) k 0) (let q : i ≡ 0 + i = omega arith in q)

module _ (start : ℕ) (olds news : List ℕ) (i r s : ℕ) (e : r ≡ get_or olds (start + i) 0) (f : s ≡ get_or news (start + i) 0) where
  pub changed_is : number_apart start olds news i ≡ not (eqb r s)
  unfolding number_apart
  changed_is = ap not (ap₂ eqb (sym e) (sym f))

  pub changed_true : r ≢ s → number_apart start olds news i ≡ true
  unfolding number_apart
  changed_true n = ap not (ne_eqb _ _ (λ q. n (e ∙ q ∙ sym f)))

  pub changed_false : r ≡ s → number_apart start olds news i ≡ false
  unfolding number_apart
  changed_false q = ap not (eq-eqb _ _ (sym e ∙ q ∙ f))

  pub number_row_is : (tile kind k at : ℕ) (list next : List ℕ) → k ≡ kind → next ≡ sets list at (tile ∷ k ∷ i ∷ r ∷ s ∷ [])
      → next ≡ sets list at (number_row tile kind start olds news i)
  unfolding number_row
  number_row_is tile kind k at list next d h =
      h ∙ ap (λ (x : ℕ). sets list at (tile ∷ x ∷ i ∷ r ∷ s ∷ [])) d ∙ ap₂ (λ (x y : ℕ). sets list at (tile ∷ kind ∷ i ∷ x ∷ y ∷ [])) e f

pub number_row_length : (tile kind start : ℕ) (olds news : List ℕ) (i : ℕ) → length (number_row tile kind start olds news i) ≡ row_length
unfolding number_row
number_row_length tile kind start olds news i = refl
