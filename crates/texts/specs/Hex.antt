-- "Upper-case hexadecimal": a digit as a byte and back; two and four digits as a number and back.
use Rattle.std.specs.Prelude.{ℕ, ◌+◌, ◌-◌, ◌*◌, ◌/◌, ◌%◌, Bool, cond, ◌&&◌, ◌||◌, List, [], ◌∷◌, ◌++◌, leb, ltb, get_or}

-- the lowest digit of a number, as a byte: 0 to 9, A to F
unfoldable pub digit_of : ℕ → ℕ
digit_of x = cond (ltb (x % 16) 10) (48 + x % 16) (55 + x % 16)

-- the digits of a number in two and in four places
abbrev pub two : ℕ → List ℕ
two x = digit_of (x / 16) ∷ digit_of x ∷ []

abbrev pub four : ℕ → List ℕ
four x = two (x / 256) ++ two x

-- the other way
unfoldable pub is_digit : ℕ → Bool
is_digit c = (leb 48 c && leb c 57) || (leb 65 c && leb c 70)

-- what a digit stands for; 0 for any other byte
unfoldable pub value_of : ℕ → ℕ
value_of c = cond (is_digit c) (cond (leb c 57) (c - 48) (c - 55)) 0

-- the number of the two, and of the four, digits from position `at` on
unfoldable pub pair_at : List ℕ → ℕ → ℕ
pair_at s at = 16 * value_of (get_or s at 0) + value_of (get_or s (at + 1) 0)

unfoldable pub quad_at : List ℕ → ℕ → ℕ
quad_at s at = 256 * pair_at s at + pair_at s (at + 2)
