-- The lowest set digit, which the language's count of trailing zeros gives, and a number without a set digit. Main laws: `trailing_lowest`; `lower_lt`.
use mathlib.Core.Path.{◌≡◌, refl, sym, ap, ◌∙◌, subst}
use mathlib.Core.Logic.{⊎_elim}
use Prim.Native.Nat.{ℕ, zero, suc, ◌+◌, ◌*◌, ◌/◌, ◌%◌, ◌^◌, ◌<◌, ◌≤◌}
use native.Mathlib.Omega.{arith}
use lib.Count.{count_trailing_zeros, under}
use lib.Pow.{shr-shr, pow_pos}
use Rattle.lists.proofs.CaseLaws.{lt_or_le}
use Rattle.digits.specs.Digits.{digit, set_digit, LowestDigit}
use Rattle.digits.proofs.DigitLaws.{digit_past}
use Rattle.digits.proofs.WriteLaws.{digit_split}

-- n, which is not 0, has a digit set where the count of its trailing zeros says
pub trailing_digit : (k n : ℕ) → 0 < n → n < 2 ^ k → digit n (count_trailing_zeros k n) ≡ 1
unfolding count_trailing_zeros
trailing_digit zero n p h = absurd (omega arith)
trailing_digit (suc k) n p h = go (n % 2) refl (λ q. trailing_digit k (n / 2) q (let r : n / 2 < 2 ^ k = omega arith in r))
  where
    go : (d : ℕ) → n % 2 ≡ d → (0 < n / 2 → digit (n / 2) (count_trailing_zeros k (n / 2)) ≡ 1) → digit n (under d (count_trailing_zeros k (n / 2))) ≡ 1
    go zero e rest =
        ap (λ (x : ℕ). x % 2)
        (ap (λ (x : ℕ). n / 2 ^ x) (let q : suc (count_trailing_zeros k (n / 2)) ≡ 1 + count_trailing_zeros k (n / 2) = omega arith in q)
        ∙ sym (shr-shr n 1 (count_trailing_zeros k (n / 2))))
        ∙ rest (omega arith)
    go (suc d) e rest = let q : n / 2 ^ 0 % 2 ≡ 1 = omega arith in q

-- and the digits below it are 0
trailing_below : (k n j : ℕ) → j < count_trailing_zeros k n → digit n j ≡ 0
unfolding count_trailing_zeros
trailing_below zero n j h = absurd (omega arith)
trailing_below (suc k) n j h = go (n % 2) refl j h (trailing_below k (n / 2))
  where
    go : (d : ℕ) → n % 2 ≡ d → (i : ℕ) → i < under d (count_trailing_zeros k (n / 2)) → ((m : ℕ) → m < count_trailing_zeros k (n / 2) → digit (n / 2) m ≡ 0)
        → digit n i ≡ 0
    go zero e zero l rest = let q : n / 2 ^ 0 % 2 ≡ 0 = omega arith in q
    go zero e (suc i) l rest =
        ap (λ (x : ℕ). x % 2) (ap (λ (x : ℕ). n / 2 ^ x) (let q : suc i ≡ 1 + i = omega arith in q) ∙ sym (shr-shr n 1 i)) ∙ rest i (omega arith)
    go (suc d) e i l rest = absurd (omega arith)

trailing_lt : (k n : ℕ) → 0 < n → n < 2 ^ k → count_trailing_zeros k n < k
trailing_lt k n p h =
    ⊎_elim (λ (l : count_trailing_zeros k n < k). l)
    (λ (l : k ≤ count_trailing_zeros k n). absurd (omega (arith, trailing_digit k n p h, digit_past n k (count_trailing_zeros k n) h l)))
    (lt_or_le (count_trailing_zeros k n) k)

-- it is the lowest, in a number of w digits
pub trailing_lowest : (w n : ℕ) → 0 < n → n < 2 ^ w → LowestDigit w n (count_trailing_zeros w n)
trailing_lowest w n p h = record { within = trailing_lt w n p h; one = trailing_digit w n p h; below = trailing_below w n }

-- without a set digit a number is smaller
pub lower_lt : (n k : ℕ) → digit n k ≡ 1 → set_digit n k 0 < n
unfolding set_digit
lower_lt n k d =
    let parts : (n / 2 ^ (1 + k) * 2 + 1) * 2 ^ k + n % 2 ^ k ≡ n = subst (λ (x : ℕ). (n / 2 ^ (1 + k) * 2 + x) * 2 ^ k + n % 2 ^ k ≡ n) d (digit_split n k) in
    omega (arith, parts, pow_pos k)
