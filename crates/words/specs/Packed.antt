-- Bits in a list of numbers that hold u of them each, the first with weight 1: read by position, and numbers made of bits.
use Rattle.std.specs.Prelude.{ℕ, ◌+◌, ◌*◌, ◌/◌, ◌%◌, ◌^◌, ◌<◌, List, get_or}
use Rattle.lists.specs.Tables.{tabulate}
use Rattle.digits.specs.Digits.{digit, from_digits}

-- bit p; 0 past the last number. Document 01: "position p is in byte p/8 with weight 2^(p mod 8)"; document 02, W7: "each tile row as one 64-bit number,
-- column c at weight 2^c", where row r, column c is position 54r + c.
unfoldable pub bit_in : ℕ → List ℕ → ℕ → ℕ
bit_in u xs p = digit (get_or xs (p / u) 0) (p % u)

-- the u bits of f from p on, as one number
abbrev pub number_from : ℕ → (ℕ → ℕ) → ℕ → ℕ
number_from u f p = from_digits (λ (k : ℕ). f (p + k)) u

-- n numbers of u bits each, whose bits are those of f
unfoldable pub packed : ℕ → (ℕ → ℕ) → ℕ → List ℕ
packed u f n = tabulate (λ (i : ℕ). number_from u f (i * u)) 0 n

-- no number has a digit set from u on
abbrev pub FitsIn : ℕ → List ℕ → Type 0
FitsIn u xs = (i : ℕ) → get_or xs i 0 < 2 ^ u
