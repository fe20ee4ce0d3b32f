-- A number and its decimal digits, both ways. Main laws: `decimal_form`: one of three forms; `decimal_digits`, `number_back`; `decimal_one`, `number_one` ..: as
-- the code looks at them.
use Prim.Native.Nat.{ℕ, zero, suc, ◌+◌, ◌-◌, ◌*◌, ◌/◌, ◌%◌, ◌<◌, ◌≤◌}
use mathlib.Core.Path.{◌≡◌}
use mathlib.Core.Logic.{⊎_elim, ◌≢◌}
use mathlib.Core.List.{List, [], ◌∷◌}
use native.Mathlib.Omega.{arith}
use borrow.Author.Tests.{lt-ltb, le-ltb, ne_eqb}
use lib.ListN.{length, get_or}
use Rattle.lists.proofs.CaseLaws.{lt_or_le}
use Rattle.texts.specs.Decimal.{decimal, digit_at, number}

-- a number has one, two or three digits
pub data Form : ℕ → List ℕ → Type 0 where
  one : {n : ℕ} → n < 10 → Form n ((48 + n) ∷ [])
  two : {n : ℕ} → 10 ≤ n → n < 100 → Form n ((48 + n / 10) ∷ (48 + n % 10) ∷ [])
  three : {n : ℕ} → 100 ≤ n → Form n ((48 + n / 100) ∷ (48 + n / 10 % 10) ∷ (48 + n % 10) ∷ [])

pub decimal_form : (n : ℕ) → Form n (decimal n)
unfolding decimal
decimal_form n =
    ⊎_elim (λ l. rw (lt-ltb n 10 l) (one l))
    (λ g. ⊎_elim (λ l. rw (le-ltb n 10 g, lt-ltb n 100 l) (two g l)) (λ f. rw (le-ltb n 10 g, le-ltb n 100 f) (three f)) (lt_or_le n 100))
    (lt_or_le n 10)

form_length : {n : ℕ} {ds : List ℕ} → Form n ds → (1 ≤ length ds) × (length ds ≤ 3)
form_length (one l) = (omega arith, omega arith)
form_length (two g l) = (omega arith, omega arith)
form_length (three g) = (omega arith, omega arith)

pub decimal_length : (n : ℕ) → (1 ≤ length (decimal n)) × (length (decimal n) ≤ 3)
decimal_length n = form_length (decimal_form n)

form_digits : {n : ℕ} {ds : List ℕ} → Form n ds → n ≤ 255 → (k : ℕ) → k < length ds → (48 ≤ get_or ds k 0) × (get_or ds k 0 ≤ 57)
form_digits (one l) h zero b = (omega arith, omega arith)
form_digits (one l) h (suc k) b = absurd (omega arith)
form_digits (two g l) h zero b = (omega arith, omega arith)
form_digits (two g l) h (suc zero) b = (omega arith, omega arith)
form_digits (two g l) h (suc (suc k)) b = absurd (omega arith)
form_digits (three g) h zero b = (omega arith, omega arith)
form_digits (three g) h (suc zero) b = (omega arith, omega arith)
form_digits (three g) h (suc (suc zero)) b = (omega arith, omega arith)
form_digits (three g) h (suc (suc (suc k))) b = absurd (omega arith)

pub decimal_digits : (n : ℕ) → n ≤ 255 → (k : ℕ) → k < length (decimal n) → (48 ≤ get_or (decimal n) k 0) × (get_or (decimal n) k 0 ≤ 57)
decimal_digits n h = form_digits (decimal_form n) h

form_number : {n : ℕ} {ds : List ℕ} → Form n ds → n ≤ 255 → number ds ≡ n
unfolding number digit_at
form_number (one {n} l) h = let e : 48 + n - 48 ≡ n = omega arith in e
form_number (two {n} g l) h = let e : 10 * (48 + n / 10 - 48) + (48 + n % 10 - 48) ≡ n = omega arith in e
form_number (three {n} g) h = let e : 100 * (48 + n / 100 - 48) + 10 * (48 + n / 10 % 10 - 48) + (48 + n % 10 - 48) ≡ n = omega arith in e

-- a number that is spelt is read back
pub number_back : (n : ℕ) → n ≤ 255 → number (decimal n) ≡ n
number_back n h = form_number (decimal_form n) h

-- ---- as the code looks at them

module _ (n : ℕ) where
  pub decimal_one : n < 10 → decimal n ≡ (48 + n) ∷ []
  unfolding decimal
  decimal_one l = rw (lt-ltb n 10 l)

  pub decimal_two : 10 ≤ n → n < 100 → decimal n ≡ (48 + n / 10) ∷ (48 + n % 10) ∷ []
  unfolding decimal
  decimal_two g l = rw (le-ltb n 10 g, lt-ltb n 100 l)

  pub decimal_three : 100 ≤ n → decimal n ≡ (48 + n / 100) ∷ (48 + n / 10 % 10) ∷ (48 + n % 10) ∷ []
  unfolding decimal
  decimal_three g = rw (le-ltb n 10 (let z : 10 ≤ n = omega arith in z), le-ltb n 100 g)

module _ (xs : List ℕ) where
  pub number_one : length xs ≡ 1 → number xs ≡ digit_at xs 0
  unfolding number
  number_one e = rw e

  pub number_two : length xs ≡ 2 → number xs ≡ 10 * digit_at xs 0 + digit_at xs 1
  unfolding number
  number_two e = rw e

  pub number_three : length xs ≡ 3 → number xs ≡ 100 * digit_at xs 0 + 10 * digit_at xs 1 + digit_at xs 2
  unfolding number
  number_three e = rw e

  pub number_else : length xs ≢ 1 → length xs ≢ 2 → length xs ≢ 3 → number xs ≡ 256
  unfolding number
  number_else e f g = rw (ne_eqb (length xs) 1 e, ne_eqb (length xs) 2 f, ne_eqb (length xs) 3 g)
