-- The code's bit operations in plain arithmetic.
use mathlib.Core.Path.{◌≡◌, ap, ◌∙◌}
use Prim.Native.Nat.{ℕ, ◌+◌, ◌-◌, ◌*◌, ◌%◌, ◌^◌, ◌<◌}
use native.Mathlib.Omega.{arith}
use native.Mathlib.Nat.{mod-eq_of_lt, one-mul}
use lib.Bits.{bit_and, bit_xor, and_mask, xor_add_and}
use lib.Pow.{pow-lt, shl_exact}

-- n & 1
pub and_one : (n : ℕ) → bit_and n 1 ≡ n % 2
and_one n = and_mask n 1

-- n ^ 1: the lowest bit flipped
pub xor_one : (n : ℕ) → bit_xor n 1 ≡ n + 1 - 2 * (n % 2)
xor_one n = omega (arith, xor_add_and n 1, and_one n)

-- 1 << k in a number of w digits
pub one_shl : (k w : ℕ) → k < w → (1 * 2 ^ k) % 2 ^ w ≡ 2 ^ k
one_shl k w h = ap (λ (x : ℕ). x % 2 ^ w) (one-mul (2 ^ k)) ∙ mod-eq_of_lt (pow-lt h)

-- v << k, v a digit, in a number of w digits
pub digit_shl : (v k w : ℕ) → v < 2 → k < w → (v * 2 ^ k) % 2 ^ w ≡ v * 2 ^ k
digit_shl v k w hv h = shl_exact {a = v} 1 k w hv (omega arith)
