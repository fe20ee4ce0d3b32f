-- A list in equal parts, and the loop that lends a part at a time to a callee. Main laws: `part_joined`; `joined_step`, `joined_end`.
use mathlib.Core.Path.{◌≡◌, refl, sym, ap, ap₂, ◌∙◌}
use mathlib.Core.List.{List, [], ◌∷◌, ◌++◌, append_assoc}
use mathlib.Core.Logic.{⊎_elim}
use Prim.Native.Nat.{ℕ, zero, suc, ◌+◌, ◌-◌, ◌*◌, ◌<◌, ◌≤◌}
use native.Mathlib.Omega.{arith}
use native.Mathlib.Numerals.{add-one}
use native.Mathlib.Nat.{mul-le-mul_left, mul-zero}
use lib.ListN.{length, get_or, take, drop, length-append, length-drop}
use lib.Seq.{take_at, take_all, take-add, length-take-le, take-append-le, drop-append-le, drop_at, get_or-take, get_or-drop}
use borrow.Rule.Slice.PartMut.{put_mid}
use Rattle.lists.specs.Parts.{part, joined}
use Rattle.lists.proofs.CaseLaws.{lt_or_le}

-- the length that the code computes for a part
pub part_size : (k t : ℕ) → k * t + k - k * t ≡ k
part_size k t = omega arith

pub part_length : (k t n : ℕ) (xs : List ℕ) → length xs ≡ k * n → k * t + k ≤ k * n → length (part k t xs) ≡ k
part_length k t n xs e h = length-take-le k (drop (k * t) xs) (rw (length-drop (k * t) xs) (omega arith))

-- the same for the part as the code takes it
pub part_code_length : (k t n : ℕ) (xs : List ℕ) → length xs ≡ k * n → k * t + k ≤ k * n → length (take (k * t + k - k * t) (drop (k * t) xs)) ≡ k
part_code_length k t n xs e h = rw (part_size k t) (part_length k t n xs e h)

-- what a list holds after a callee gave part t back as ys
module _ (k t : ℕ) (xs ys : List ℕ) (h : k * t + k ≤ length xs) (e : length ys ≡ k) where
  pub put_length : length (put_mid (k * t) (k * t + k - k * t) xs ys) ≡ length xs
  put_length =
      let d : length (drop (k * t + k - k * t) (drop (k * t) xs)) ≡ length xs - k * t - k = rw (part_size k t, length-drop k (drop (k * t) xs), length-drop (k * t) xs) in
      let f : length (take (k * t) xs) ≡ k * t = length-take-le (k * t) xs (omega arith) in
      omega (arith, length-append (take (k * t) xs) (ys ++ drop (k * t + k - k * t) (drop (k * t) xs)), length-append ys (drop (k * t + k - k * t) (drop (k * t) xs)))

  pub put_take : (m : ℕ) → m ≡ k * t + k → take m (put_mid (k * t) (k * t + k - k * t) xs ys) ≡ take (k * t) xs ++ ys
  put_take m q =
      ap (take m) (sym (append_assoc (take (k * t) xs) ys (drop (k * t + k - k * t) (drop (k * t) xs))))
      ∙ take_at (take (k * t) xs ++ ys) (drop (k * t + k - k * t) (drop (k * t) xs)) m
      (omega (arith, length-append (take (k * t) xs) ys, length-take-le (k * t) xs (let z : k * t ≤ length xs = omega arith in z)))

-- ---- the loop's invariant is `take (k * t) xs ≡ joined f t`

pub joined_step : (k : ℕ) (f : ℕ → List ℕ) (t : ℕ) (xs ys : List ℕ) → k * t + k ≤ length xs → length ys ≡ k → take (k * t) xs ≡ joined f t → ys ≡ f t
    → (m : ℕ) → m ≡ k * t + k → take m (put_mid (k * t) (k * t + k - k * t) xs ys) ≡ joined f (t + 1)
unfolding joined
joined_step k f t xs ys h e i q m w = put_take k t xs ys h e m w ∙ ap₂ ◌++◌ i q ∙ ap (joined f) (sym (add-one t))

pub joined_end : (f : ℕ → List ℕ) (t n m : ℕ) (xs : List ℕ) → take m xs ≡ joined f t → t ≡ n → length xs ≤ m → xs ≡ joined f n
joined_end f t n m xs i e l = sym (take_all m xs l) ∙ i ∙ ap (joined f) e

-- ---- joined

pub joined_length : (k : ℕ) (f : ℕ → List ℕ) (n : ℕ) → ((t : ℕ) → t < n → length (f t) ≡ k) → length (joined f n) ≡ k * n
unfolding joined
joined_length k f zero h = sym (mul-zero k)
joined_length k f (suc n) h =
    omega (arith, length-append (joined f n) (f n), joined_length k f n (λ t l. h t (omega arith)), h n (omega arith))

pub joined_ext : (f g : ℕ → List ℕ) (n : ℕ) → ((t : ℕ) → t < n → f t ≡ g t) → joined f n ≡ joined g n
unfolding joined
joined_ext f g zero h = refl
joined_ext f g (suc n) h = ap₂ ◌++◌ (joined_ext f g n (λ t l. h t (omega arith))) (h n (omega arith))

-- the parts of what is joined are what was joined
pub part_joined : (k : ℕ) (f : ℕ → List ℕ) (n t : ℕ) → t < n → ((j : ℕ) → j < n → length (f j) ≡ k) → part k t (joined f n) ≡ f t
unfolding joined
part_joined k f zero t h e = absurd (omega arith)
part_joined k f (suc n) t h e = ⊎_elim (λ (l : t < n). before l (part_joined k f n t l (λ j a. e j (omega arith)))) here (lt_or_le t n)
  where
    long : length (joined f n) ≡ k * n
    long = joined_length k f n (λ j l. e j (omega arith))

    before : t < n → part k t (joined f n) ≡ f t → take k (drop (k * t) (joined f n ++ f n)) ≡ f t
    before l inner =
        let m : k * suc t ≤ k * n = mul-le-mul_left k l in
        ap (take k) (drop-append-le (k * t) (joined f n) (f n) (omega (arith, long)))
        ∙ take-append-le k (drop (k * t) (joined f n)) (f n) (rw (length-drop (k * t) (joined f n)) (omega (arith, long)))
        ∙ inner

    here : n ≤ t → take k (drop (k * t) (joined f n ++ f n)) ≡ f t
    here l =
        let q : n ≡ t = omega arith in
        ap (take k) (drop_at (joined f n) (f n) (k * t) (long ∙ ap (λ (x : ℕ). k * x) q))
        ∙ take_all k (f n) (omega (arith, e n (omega arith))) ∙ ap f q

-- the parts of a list, joined, are the list
pub joined_parts : (k n : ℕ) (xs : List ℕ) → joined (λ (t : ℕ). part k t xs) n ≡ take (k * n) xs
unfolding joined
joined_parts k zero xs = ap (λ (x : ℕ). take x xs) (sym (mul-zero k))
joined_parts k (suc n) xs =
    ap (λ (l : List ℕ). l ++ part k n xs) (joined_parts k n xs) ∙ sym (take-add (k * n) k xs)
    ∙ ap (λ (x : ℕ). take x xs) (let q : k * n + k ≡ k * suc n = omega arith in q)

pub joined_is : (k n : ℕ) (f : ℕ → List ℕ) (xs : List ℕ) → length xs ≡ k * n → ((t : ℕ) → t < n → f t ≡ part k t xs) → joined f n ≡ xs
joined_is k n f xs e q = joined_ext f (λ (t : ℕ). part k t xs) n q ∙ joined_parts k n xs ∙ take_all (k * n) xs (omega arith)

-- what holds of each number of a list, and of 0, holds of each of a part
pub part_each : (P : ℕ → Type 0) → P 0 → (k t : ℕ) (xs : List ℕ) → ((i : ℕ) → P (get_or xs i 0)) → (j : ℕ) → P (get_or (part k t xs) j 0)
part_each P z k t xs h j =
    ⊎_elim
    (λ (l : j < k). rw (get_or-take k (drop (k * t) xs) j 0 l, get_or-drop (k * t) xs j 0) (h (k * t + j)))
    (λ (l : k ≤ j). rw (past k (drop (k * t) xs) j l) z)
    (lt_or_le j k)
  where
    past : (k : ℕ) (l : List ℕ) (j : ℕ) → k ≤ j → get_or (take k l) j 0 ≡ 0
    past zero l j h = refl
    past (suc k) [] j h = refl
    past (suc k) (x ∷ l) zero h = absurd (omega arith)
    past (suc k) (x ∷ l) (suc j) h = past k l j (omega arith)
