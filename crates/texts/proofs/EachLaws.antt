-- What is made of each of a list, and what holds of each: two lists joined, and a list given by a function of the index. Main laws:
-- `each_append`, `each_length`, `holds_tabulate`, `holds_from_tabulate`, `tabulate_last`.
use Prim.Native.Nat.{ℕ, zero, suc, ◌+◌, ◌*◌, ◌<◌, ◌≤◌}
use mathlib.Core.Path.{◌≡◌, refl, sym, ap, ◌∙◌}
use mathlib.Core.List.{List, [], ◌∷◌, ◌++◌, map, map-append, append_assoc}
use native.Mathlib.Omega.{arith}
use native.Mathlib.Nat.{add-zero, mul-zero, zero-add}
use lib.ListN.{length, get_or, length-append}
use Rattle.lists.specs.Tables.{tabulate}
use Rattle.texts.specs.Each.{each, Each, EachFrom}

pub holds_append : {A : Type 0} (P : A → Type 0) (xs ys : List A) → Each P xs → Each P ys → Each P (xs ++ ys)
holds_append P [] ys p q = q
holds_append P (x ∷ xs) ys p q = (p.0, holds_append P xs ys p.1 q)

pub holds_behind : {A : Type 0} (P : A → Type 0) (xs ys : List A) → Each P (xs ++ ys) → Each P ys
holds_behind P [] ys p = p
holds_behind P (x ∷ xs) ys p = holds_behind P xs ys p.1

module _ {A : Type 0} where
  pub each_append : (f : A → List ℕ) (xs ys : List A) → each f (xs ++ ys) ≡ each f xs ++ each f ys
  each_append f [] ys = refl
  each_append f (x ∷ xs) ys = ap (λ (l : List ℕ). f x ++ l) (each_append f xs ys) ∙ sym (append_assoc (f x) (each f xs) (each f ys))

  -- pieces of one length
  pub each_length : (f : A → List ℕ) (w : ℕ) → ((x : A) → length (f x) ≡ w) → (xs : List A) → length (each f xs) ≡ w * length xs
  each_length f w e [] = sym (mul-zero w)
  each_length f w e (x ∷ xs) = omega (arith, length-append (f x) (each f xs), e x, each_length f w e xs)

  -- what holds of all that f makes
  pub holds_each : (P : ℕ → Type 0) (f : A → List ℕ) → ((x : A) → Each P (f x)) → (xs : List A) → Each P (each f xs)
  holds_each P f h [] = tt
  holds_each P f h (x ∷ xs) = holds_append P (f x) (each f xs) (h x) (holds_each P f h xs)

  pub holds_tabulate : (P : A → Type 0) (f : ℕ → A) (i n : ℕ) → ((k : ℕ) → i ≤ k → k < i + n → P (f k)) → Each P (tabulate f i n)
  unfolding tabulate
  holds_tabulate P f i zero h = tt
  holds_tabulate P f i (suc n) h = (h i (omega arith) (omega arith), holds_tabulate P f (suc i) n (λ k a b. h k (omega arith) (omega arith)))

  pub holds_from_tabulate : (P : ℕ → A → Type 0) (f : ℕ → A) (i n : ℕ) → ((k : ℕ) → i ≤ k → k < i + n → P k (f k)) → EachFrom P i (tabulate f i n)
  unfolding tabulate
  holds_from_tabulate P f i zero h = tt
  holds_from_tabulate P f i (suc n) h = (h i (omega arith) (omega arith), holds_from_tabulate P f (suc i) n (λ k a b. h k (omega arith) (omega arith)))

  -- one more at the end
  pub tabulate_last : (f : ℕ → A) (i n : ℕ) → tabulate f i (suc n) ≡ tabulate f i n ++ (f (i + n) ∷ [])
  unfolding tabulate
  tabulate_last f i zero = ap (λ (k : ℕ). f k ∷ []) (sym (add-zero i))
  tabulate_last f i (suc n) =
      ap (λ (l : List A). f i ∷ l) (tabulate_last f (suc i) n ∙ ap (λ (k : ℕ). tabulate f (suc i) n ++ (f k ∷ [])) (let e : suc i + n ≡ i + suc n = omega arith in e))

pub mapped_last : {A B : Type 0} (h : A → B) (f : ℕ → A) (n : ℕ) → map h (tabulate f 0 n) ++ (h (f n) ∷ []) ≡ map h (tabulate f 0 (suc n))
mapped_last {A} {B} h f n =
    ap (λ (k : ℕ). map h (tabulate f 0 n) ++ (h (f k) ∷ [])) (sym (zero-add n)) ∙ sym (map-append h (tabulate f 0 n) (f (0 + n) ∷ []))
    ∙ ap (map h) (sym (tabulate_last f 0 n))

pub holds_at : (P : ℕ → Type 0) (xs : List ℕ) → Each P xs → (k : ℕ) → k < length xs → P (get_or xs k 0)
holds_at P [] h k l = absurd (omega arith)
holds_at P (x ∷ xs) h zero l = h.0
holds_at P (x ∷ xs) h (suc k) l = holds_at P xs h.1 k (omega arith)
