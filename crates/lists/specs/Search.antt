-- The numbers that pass a test: which is the first, whether all do, how many do. "Lowest wire", "first place", "first such row" are all `first`.
use Rattle.std.specs.Prelude.{ℕ, zero, suc, ◌+◌, Bool, true, false, cond, not, nat_lt, Option, Some, None}

-- the first of the n numbers from i on that passes; i + n where none does
unfoldable pub first : (ℕ → Bool) → ℕ → ℕ → ℕ
first p i zero = i
first p i (suc n) = cond (p i) i (first p (suc i) n)

-- whether all of the n numbers from i on pass
unfoldable pub all_from : (ℕ → Bool) → ℕ → ℕ → Bool
all_from p i zero = true
all_from p i (suc n) = cond (p i) (all_from p (suc i) n) false

-- whether one of the numbers below n passes: not all fail
abbrev pub some_below : (ℕ → Bool) → ℕ → Bool
some_below p n = not (all_from (λ i. not (p i)) 0 n)

-- how many of the numbers below n pass
unfoldable pub count_below : (ℕ → Bool) → ℕ → ℕ
count_below p zero = 0
count_below p (suc n) = cond (p n) 1 0 + count_below p n

-- what a search that answers its bound where there is none says as an Option: n where it is below the bound
abbrev pub below : ℕ → ℕ → Option ℕ
below bound n = cond (nat_lt n bound) (Some n) None
