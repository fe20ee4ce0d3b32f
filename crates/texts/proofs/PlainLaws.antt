-- Lines without a line feed inside. Main laws: `plain_append`; `plain_check`: a line given byte by byte; `split_same`: the first line feed parts a text in one way.
use Prim.Native.Nat.{ℕ, zero, suc}
use mathlib.Core.Path.{◌≡◌, refl}
use mathlib.Core.Bool.{true, not}
use mathlib.Core.List.{List, [], ◌∷◌, ◌++◌}
use native.Mathlib.Omega.{arith}
use borrow.Author.Tests.{eqb-false, not-true}
use lib.Dec.{eqb}
use lib.ListN.{length, get_or}
use Rattle.lists.specs.Search.{all_from}
use Rattle.lists.proofs.SearchLaws.{all_at}
use Rattle.texts.specs.Lines.{Plain}

pub plain_append : (xs ys : List ℕ) → Plain xs → Plain ys → Plain (xs ++ ys)
plain_append [] ys p q k l = q k l
plain_append (x ∷ xs) ys p q zero l = p 0 (omega arith)
plain_append (x ∷ xs) ys p q (suc k) l = plain_append xs ys (λ i b. p (suc i) (omega arith)) q k (omega arith)

pub plain_check : (xs : List ℕ) → all_from (λ k. not (eqb (get_or xs k 0) 10)) 0 (length xs) ≡ true → Plain xs
plain_check xs e k l = eqb-false (get_or xs k 0) 10 (not-true (eqb (get_or xs k 0) 10) (all_at (λ k. not (eqb (get_or xs k 0) 10)) 0 (length xs) k e (omega arith) (omega arith)))

-- the first line feed parts a text in one way
pub split_same : (k l r s : List ℕ) → Plain k → Plain l → k ++ (10 ∷ r) ≡ l ++ (10 ∷ s) → (k ≡ l) × (r ≡ s)
split_same [] [] r s p q e = (refl, cc)
split_same [] (y ∷ l) r s p q e = absurd (q 0 (omega arith) (cc))
split_same (x ∷ k) [] r s p q e = absurd (p 0 (omega arith) (cc))
split_same (x ∷ k) (y ∷ l) r s p q e =
    let t : k ++ (10 ∷ r) ≡ l ++ (10 ∷ s) = cc in
    let h : x ≡ y = cc in
    let z = split_same k l r s (λ i b. p (suc i) (omega arith)) (λ i b. q (suc i) (omega arith)) t in
    let u = z.0 in
    (cc, z.1)
