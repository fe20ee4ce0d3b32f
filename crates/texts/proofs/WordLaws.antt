-- The first word of a line. Main laws: `word_at`: what stands before a space; `word_is`: as the code takes it.
use Prim.Native.Nat.{ℕ, ◌<◌, ◌≤◌}
use mathlib.Core.Path.{◌≡◌, refl, sym, ap, ◌∙◌}
use mathlib.Core.Bool.{true, not}
use mathlib.Core.Logic.{◌≢◌}
use mathlib.Core.List.{List, ◌∷◌, ◌++◌}
use native.Mathlib.Omega.{arith}
use borrow.Author.Tests.{eq-eqb, ne_eqb, eqb-false, not-true}
use lib.Dec.{eqb}
use lib.ListN.{length, take, get_or, length-append, get_or-append}
use lib.Seq.{length-take-le, take_at, get_or_at}
use Rattle.lists.specs.Search.{all_from}
use Rattle.lists.proofs.SearchLaws.{first_at, first_le, all_at}
use Rattle.texts.specs.Lines.{word_length, word}

module _ (xs ys : List ℕ) (no_space : (k : ℕ) → k < length xs → get_or xs k 0 ≢ 32) where
  pub word_length_at : word_length (xs ++ (32 ∷ ys)) ≡ length xs
  word_length_at =
      first_at (λ k. eqb (get_or (xs ++ (32 ∷ ys)) k 0) 32) (length xs) (length (xs ++ (32 ∷ ys))) (omega (arith, length-append xs (32 ∷ ys)))
      (eq-eqb _ 32 (get_or_at xs 32 ys 0 (length xs) refl))
      (λ k l. ne_eqb _ 32 (λ e. no_space k l (sym (get_or-append xs (32 ∷ ys) 0 k l) ∙ e)))

  pub word_at : word (xs ++ (32 ∷ ys)) ≡ xs
  unfolding word
  word_at = take_at xs (32 ∷ ys) (word_length (xs ++ (32 ∷ ys))) (sym word_length_at)

-- a text given byte by byte that has no space
pub no_space_check : (xs : List ℕ) → all_from (λ k. not (eqb (get_or xs k 0) 32)) 0 (length xs) ≡ true → (k : ℕ) → k < length xs → get_or xs k 0 ≢ 32
no_space_check xs e k l = eqb-false (get_or xs k 0) 32 (not-true (eqb (get_or xs k 0) 32) (all_at (λ k. not (eqb (get_or xs k 0) 32)) 0 (length xs) k e (omega arith) (omega arith)))

module _ (xs : List ℕ) where
  -- the first word as the code takes it
  pub word_is : (n : ℕ) → n ≡ word_length xs → take n xs ≡ word xs
  unfolding word
  word_is n e = ap (λ (k : ℕ). take k xs) e

  pub word_length_le : word_length xs ≤ length xs
  word_length_le = omega (arith, first_le (λ k. eqb (get_or xs k 0) 32) 0 (length xs))

  pub word_take : (n : ℕ) → n ≡ word_length xs → n ≡ length (take n xs)
  word_take n e = sym (length-take-le n xs (let l = word_length_le in omega arith))
