-- Decimal numbers of one to three digits, without leading zeros. 48 is the digit 0.
use Rattle.std.specs.Prelude.{ℕ, ◌+◌, ◌-◌, ◌*◌, ◌/◌, ◌%◌, cond, List, [], ◌∷◌, eqb, ltb, length, get_or}

-- "decimal, [..] no leading zeros": the digits of a number below 1000, as bytes
unfoldable pub decimal : ℕ → List ℕ
decimal n =
    cond (ltb n 10) ((48 + n) ∷ [])
    (cond (ltb n 100) ((48 + n / 10) ∷ (48 + n % 10) ∷ [])
    ((48 + n / 100) ∷ (48 + n / 10 % 10) ∷ (48 + n % 10) ∷ []))

-- The other way, for texts that are so spelt. It does not test that they are: of any other text it gives some number, which is spelt otherwise.
unfoldable pub digit_at : List ℕ → ℕ → ℕ
digit_at xs k = get_or xs k 0 - 48

unfoldable pub number : List ℕ → ℕ
number xs =
    cond (eqb (length xs) 1) (digit_at xs 0)
    (cond (eqb (length xs) 2) (10 * digit_at xs 0 + digit_at xs 1)
    (cond (eqb (length xs) 3) (100 * digit_at xs 0 + 10 * digit_at xs 1 + digit_at xs 2) 256))
