-- Digits of a number in two parts, of one with a digit written, and of one made of digits.
-- Main laws: `digit_set_same`, `digit_set_other`; `digit_from_digits`, `from_digits_all`, `digits_same`.
use mathlib.Core.Path.{◌≡◌, refl, sym, ap, ◌∙◌, subst}
use mathlib.Core.Logic.{⊎_elim, ◌≢◌}
use Prim.Native.Nat.{ℕ, zero, suc, ◌+◌, ◌-◌, ◌*◌, ◌/◌, ◌%◌, ◌^◌, ◌<◌, ◌≤◌}
use native.Mathlib.Omega.{arith}
use native.Mathlib.Nat.{mod-lt, mod-eq_of_lt, eq-or-lt_of_le, lt_of_lt_of_le, mul-le-mul_right, one-mul, add_comm, mul_comm}
use lib.Pow.{pow_pos, pow_mono, pow-add, high, low, mod-pow-add, field, mod-mod-pow, shr-shr, shr_lt}
use lib.Arith.{digits_lt}
use Rattle.lists.proofs.CaseLaws.{lt_or_le}
use Rattle.digits.specs.Digits.{digit, set_digit, from_digits}

-- a digit below k is that of the number below 2 ^ k
pub digit_mod : (n k j : ℕ) → j < k → digit (n % 2 ^ k) j ≡ digit n j
digit_mod n k j h =
    let e : k ≡ (k - j - 1 + 1) + j = omega arith in
    ap (λ (x : ℕ). n % 2 ^ x / 2 ^ j % 2) e ∙ ap (λ (x : ℕ). x % 2) (field n (k - j - 1 + 1) j) ∙ mod-mod-pow (n / 2 ^ j) (k - j - 1) 1

-- past its digits a number has zeros
pub digit_past : (n w k : ℕ) → n < 2 ^ w → w ≤ k → digit n k ≡ 0
digit_past n w k h l =
    let z : n / 2 ^ k < 2 ^ 0 = shr_lt 0 k (subst (λ (x : ℕ). n < 2 ^ x) (let q : k ≡ 0 + k = omega arith in q) (lt_of_lt_of_le h (pow_mono {i = w} {j = k} l))) in
    omega arith

-- digits of a number in two parts
pub digit_below : (q k j : ℕ) {r : ℕ} → r < 2 ^ k → j < k → digit (q * 2 ^ k + r) j ≡ digit r j
digit_below q k j {r} hr h = sym (digit_mod (q * 2 ^ k + r) k j h) ∙ ap (λ (x : ℕ). digit x j) (low q k hr)

pub digit_at_lem : (q k : ℕ) {r : ℕ} → r < 2 ^ k → digit (q * 2 ^ k + r) k ≡ q % 2
digit_at_lem q k hr = ap (λ (x : ℕ). x % 2) (high q k hr)

pub digit_above : (q k i : ℕ) {r : ℕ} → r < 2 ^ k → digit (q * 2 ^ k + r) (k + i) ≡ digit q i
digit_above q k i {r} hr = ap (λ (x : ℕ). x % 2) (sym (shr-shr (q * 2 ^ k + r) k i) ∙ ap (λ (x : ℕ). x / 2 ^ i) (high q k hr))

-- f has the digits of a number in two parts where it has those of both
pub digit_join : (f : ℕ → ℕ) (r q k n : ℕ) → r < 2 ^ k → ((j : ℕ) → j < k → digit r j ≡ f j) → ((j : ℕ) → j < n → digit q j ≡ f (k + j))
    → (j : ℕ) → j < k + n → digit (r + 2 ^ k * q) j ≡ f j
digit_join f r q k n hr low high j h =
    ap (λ (x : ℕ). digit x j) (add_comm r (2 ^ k * q) ∙ ap (λ (x : ℕ). x + r) (mul_comm (2 ^ k) q))
    ∙ ⊎_elim (λ (l : j < k). digit_below q k j hr l ∙ low j l) above (lt_or_le j k)
  where
    above : k ≤ j → digit (q * 2 ^ k + r) j ≡ f j
    above l =
        let e : j ≡ k + (j - k) = omega arith in
        ap (digit (q * 2 ^ k + r)) e ∙ digit_above q k (j - k) hr ∙ high (j - k) (omega arith) ∙ ap f (sym e)

module _ (n k v : ℕ) (hv : v < 2) where
  pub digit_set_same : digit (set_digit n k v) k ≡ v
  unfolding set_digit
  digit_set_same = digit_at_lem (n / 2 ^ (1 + k) * 2 + v) k (mod-lt n (pow_pos k)) ∙ omega arith

  pub digit_set_other : (j : ℕ) → j ≢ k → digit (set_digit n k v) j ≡ digit n j
  unfolding set_digit
  digit_set_other j ne = ⊎_elim below above (lt_or_le j k)
    where
      below : j < k → digit (set_digit n k v) j ≡ digit n j
      below h = digit_below (n / 2 ^ (1 + k) * 2 + v) k j (mod-lt n (pow_pos k)) h ∙ digit_mod n k j h

      above : k ≤ j → digit (set_digit n k v) j ≡ digit n j
      above h =
          let i : ℕ = j - k - 1 in
          let e : j ≡ k + (1 + i) = omega arith in
          let half : (n / 2 ^ (1 + k) * 2 + v) / 2 ≡ n / 2 ^ (1 + k) = omega arith in
          let up : (n / 2 ^ (1 + k) * 2 + v) / 2 ^ (1 + i) ≡ n / 2 ^ (1 + k) / 2 ^ i =
          sym (shr-shr (n / 2 ^ (1 + k) * 2 + v) 1 i) ∙ ap (λ (x : ℕ). x / 2 ^ i) half in
          ap (digit (set_digit n k v)) e
          ∙ digit_above (n / 2 ^ (1 + k) * 2 + v) k (1 + i) (mod-lt n (pow_pos k))
          ∙ ap (λ (x : ℕ). x % 2) (up ∙ shr-shr n (1 + k) i)
          ∙ ap (digit n) (let q : 1 + k + i ≡ j = omega arith in q)

  -- the digits above k are kept, so a number of w digits stays one
  pub set_digit_lt : (w : ℕ) → k < w → n < 2 ^ w → set_digit n k v < 2 ^ w
  unfolding set_digit
  set_digit_lt w h l =
      let i : ℕ = w - k - 1 in
      let e : w ≡ i + (1 + k) = omega arith in
      let q : n / 2 ^ (1 + k) < 2 ^ i = shr_lt i (1 + k) (subst (λ (x : ℕ). n < 2 ^ x) e l) in
      let r : n / 2 ^ (1 + k) * 2 + v < 2 ^ suc i = omega arith in
      subst (λ (x : ℕ). set_digit n k v < x) (sym (pow-add 2 (suc i) k) ∙ ap (λ (x : ℕ). 2 ^ x) (let z : suc i + k ≡ w = omega arith in z))
      (digits_lt r (mod-lt n (pow_pos k)))

-- ---- a number made of its digits
pub from_digits_lt : (f : ℕ → ℕ) → ((k : ℕ) → f k < 2) → (n : ℕ) → from_digits f n < 2 ^ n
unfolding from_digits
from_digits_lt f b zero = omega arith
from_digits_lt f b (suc n) = omega (arith, from_digits_lt f b n, mul-le-mul_right (2 ^ n) (let q : f n ≤ 1 = omega (arith, b n) in q), one-mul (2 ^ n))

pub digit_from_digits : (f : ℕ → ℕ) → ((k : ℕ) → f k < 2) → (n k : ℕ) → k < n → digit (from_digits f n) k ≡ f k
unfolding from_digits
digit_from_digits f b zero k h = absurd (omega arith)
digit_from_digits f b (suc n) k h =
    ⊎_elim
    (λ (e : k ≡ n). ap (digit (f n * 2 ^ n + from_digits f n)) e ∙ digit_at_lem (f n) n (from_digits_lt f b n) ∙ mod-eq_of_lt (b n) ∙ ap f (sym e))
    (λ (l : k < n). digit_below (f n) n k (from_digits_lt f b n) l ∙ digit_from_digits f b n k l)
    (eq-or-lt_of_le {n = k} {m = n} (omega arith))

pub from_digits_ext : (f g : ℕ → ℕ) (n : ℕ) → ((k : ℕ) → k < n → f k ≡ g k) → from_digits f n ≡ from_digits g n
unfolding from_digits
from_digits_ext f g zero h = refl
from_digits_ext f g (suc n) h = let e : f n ≡ g n = h n (omega arith) in let r : from_digits f n ≡ from_digits g n = from_digits_ext f g n (λ k l. h k (omega arith)) in rw (e, r)

pub from_digits_mod : (v n : ℕ) → from_digits (digit v) n ≡ v % 2 ^ n
unfolding from_digits
from_digits_mod v zero = omega arith
from_digits_mod v (suc n) = let r : from_digits (digit v) n ≡ v % 2 ^ n = from_digits_mod v n in rw r (sym (mod-pow-add v 1 n) ∙ ap (λ (x : ℕ). v % 2 ^ x) (omega arith))

-- the n digits from s on are a shift and a remainder
pub from_digits_shift : (v s n : ℕ) → from_digits (λ (k : ℕ). digit v (s + k)) n ≡ v / 2 ^ s % 2 ^ n
from_digits_shift v s n =
    from_digits_ext (λ (k : ℕ). digit v (s + k)) (digit (v / 2 ^ s)) n (λ k l. ap (λ (x : ℕ). x % 2) (sym (shr-shr v s k)))
    ∙ from_digits_mod (v / 2 ^ s) n

-- all the digits are the number
pub from_digits_all : (v n : ℕ) → v < 2 ^ n → from_digits (digit v) n ≡ v
from_digits_all v n h = from_digits_mod v n ∙ mod-eq_of_lt h

-- numbers with the same digits are the same
pub digits_same : (n a b : ℕ) → a < 2 ^ n → b < 2 ^ n → ((k : ℕ) → k < n → digit a k ≡ digit b k) → a ≡ b
digits_same n a b ha hb h = sym (from_digits_all a n ha) ∙ from_digits_ext (digit a) (digit b) n h ∙ from_digits_all b n hb
