-- Binary digits of a number, the first with weight 1: read, written, and a number made of them.
use Rattle.std.specs.Prelude.{ℕ, zero, suc, ◌+◌, ◌*◌, ◌/◌, ◌%◌, ◌^◌, ◌<◌, ◌≡◌, Bool, eqb}

-- digit k of n, the one with weight 2 ^ k
abbrev pub digit : ℕ → ℕ → ℕ
digit n k = n / 2 ^ k % 2

-- digit k of n is set
abbrev pub is_set : ℕ → ℕ → Bool
is_set n k = eqb (digit n k) 1

-- digit k is the lowest set digit of n, a number of w digits
pub record LowestDigit (w n k : ℕ) : Type 0 where
  pub within : k < w
  pub one : digit n k ≡ 1
  pub below : (j : ℕ) → j < k → digit n j ≡ 0

-- n with v, which is 0 or 1, for its digit k
unfoldable pub set_digit : ℕ → ℕ → ℕ → ℕ
set_digit n k v = (n / 2 ^ (1 + k) * 2 + v) * 2 ^ k + n % 2 ^ k

-- the number whose digits below n are those of f, each 0 or 1
unfoldable pub from_digits : (ℕ → ℕ) → ℕ → ℕ
from_digits f zero = zero
from_digits f (suc n) = f n * 2 ^ n + from_digits f n
