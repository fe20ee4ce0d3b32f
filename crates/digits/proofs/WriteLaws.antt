-- A digit written in a number of w digits: by `n - (old << k) + (v << k)`, by `n | (1 << k)`, by `n & !(1 << k)`. Main laws: `write_is`, `raise_is`,
-- `lower_is`.
use mathlib.Core.Path.{◌≡◌, sym, ap, ap₂, ◌∙◌, subst}
use Prim.Native.Nat.{ℕ, ◌+◌, ◌-◌, ◌*◌, ◌/◌, ◌%◌, ◌^◌, ◌<◌, ◌≤◌}
use native.Mathlib.Omega.{arith}
use native.Mathlib.Nat.{add_comm, mod-lt, mod-eq_of_lt}
use lib.Bits.{bit_and, bit_or, and_mask, and_high, and_block, or_block, or_add_and, or_zero_r}
use lib.Pow.{split, shr-shr, shr_lt, pow_pos, pow_mono, ones_split}
use Rattle.digits.specs.Digits.{digit, set_digit}
use Rattle.digits.proofs.DigitLaws.{set_digit_lt}
use Rattle.digits.proofs.MaskLaws.{and_one, one_shl, digit_shl}

shr_more : (n k : ℕ) → n / 2 ^ k / 2 ≡ n / 2 ^ (1 + k)
shr_more n k = shr-shr n k 1 ∙ ap (λ (x : ℕ). n / 2 ^ x) (add_comm k 1)

-- a number by its digit k, what stands above it and what below
pub digit_split : (n k : ℕ) → (n / 2 ^ (1 + k) * 2 + digit n k) * 2 ^ k + n % 2 ^ k ≡ n
digit_split n k =
    let e = shr_more n k in
    let d : n / 2 ^ (1 + k) * 2 + digit n k ≡ n / 2 ^ k = omega arith in
    rw d (split n k)

module _ (w n k v : ℕ) (hn : n < 2 ^ w) (hk : k < w) (hv : v < 2) where
  old_is : (bit_and (n / 2 ^ k) 1 * 2 ^ k) % 2 ^ w ≡ digit n k * 2 ^ k
  old_is = ap (λ (x : ℕ). (x * 2 ^ k) % 2 ^ w) (and_one (n / 2 ^ k)) ∙ digit_shl (digit n k) k w (let q : digit n k < 2 = omega arith in q) hk

  pub write_old_le : (bit_and (n / 2 ^ k) 1 * 2 ^ k) % 2 ^ w ≤ n
  write_old_le = omega (arith, old_is, digit_split n k)

  pub write_is : n - (bit_and (n / 2 ^ k) 1 * 2 ^ k) % 2 ^ w + (v * 2 ^ k) % 2 ^ w ≡ set_digit n k v
  unfolding set_digit
  write_is = omega (arith, old_is, digit_shl v k w hv hk, digit_split n k)

  pub write_lt : n - (bit_and (n / 2 ^ k) 1 * 2 ^ k) % 2 ^ w + (v * 2 ^ k) % 2 ^ w < 2 ^ w
  write_lt = subst (λ (x : ℕ). x < 2 ^ w) (sym write_is) (set_digit_lt n k v hv w hk hn)

-- n | (1 << k)
pub raise_is : (w n k : ℕ) → k < w → bit_or n ((1 * 2 ^ k) % 2 ^ w) ≡ set_digit n k 1
unfolding set_digit
raise_is w n k h =
    let odd : bit_or (n / 2 ^ k) 1 ≡ n / 2 ^ (1 + k) * 2 + 1 = omega (arith, shr_more n k, or_add_and (n / 2 ^ k) 1, and_one (n / 2 ^ k)) in
    ap₂ bit_or (sym (split n k)) (one_shl k w h ∙ (let q : 2 ^ k ≡ 1 * 2 ^ k + 0 = omega arith in q))
    ∙ or_block k (n / 2 ^ k) 1 (n % 2 ^ k) 0 (mod-lt n (pow_pos k)) (pow_pos k)
    ∙ ap₂ (λ (x y : ℕ). x * 2 ^ k + y) odd (or_zero_r (n % 2 ^ k))

-- n & !(1 << k)
pub lower_is : (w n k : ℕ) → k < w → n < 2 ^ w → bit_and n (2 ^ w - 1 - (1 * 2 ^ k) % 2 ^ w) ≡ set_digit n k 0
unfolding set_digit
lower_is w n k h l =
    let j : ℕ = w - k - 1 in
    let e : w ≡ j + 1 + k = omega arith in
    let few : n / 2 ^ (1 + k) < 2 ^ j = shr_lt j (1 + k) (subst (λ (x : ℕ). n < 2 ^ x) (let q : w ≡ j + (1 + k) = omega arith in q) l) in
    let even : bit_and (n / 2 ^ k) (2 ^ (j + 1) - 2 ^ 1) ≡ n / 2 ^ (1 + k) * 2 + 0 =
    and_high (n / 2 ^ k) j 1 ∙ ap (λ (x : ℕ). x % 2 ^ j * 2) (shr_more n k) ∙ ap (λ (x : ℕ). x * 2) (mod-eq_of_lt few) ∙ omega arith in
    let mask : 2 ^ w - 1 - (1 * 2 ^ k) % 2 ^ w ≡ (2 ^ (j + 1) - 2 ^ 1) * 2 ^ k + (2 ^ k - 1) =
    let top : 2 ^ (j + 1) - 1 ≡ (2 ^ (j + 1) - 2 ^ 1) + 1 = omega (arith, pow_mono {i = 1} {j = j + 1} (omega arith)) in
    let all : 2 ^ w - 1 ≡ ((2 ^ (j + 1) - 2 ^ 1) + 1) * 2 ^ k + (2 ^ k - 1) =
    ap (λ (x : ℕ). 2 ^ x - 1) e ∙ ones_split (j + 1) k ∙ ap (λ (x : ℕ). x * 2 ^ k + (2 ^ k - 1)) top in
    omega (arith, one_shl k w h) in
    ap₂ bit_and (sym (split n k)) mask
    ∙ and_block k (n / 2 ^ k) (2 ^ (j + 1) - 2 ^ 1) (n % 2 ^ k) (2 ^ k - 1) (mod-lt n (pow_pos k)) (omega (arith, pow_pos k))
    ∙ ap₂ (λ (x y : ℕ). x * 2 ^ k + y) even (and_mask (n % 2 ^ k) k ∙ mod-eq_of_lt (mod-lt n (pow_pos k)))
