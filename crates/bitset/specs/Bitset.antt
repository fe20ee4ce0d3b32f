-- A set of numbers below 65,536 in 1,089 words of 64 binary digits. The leaves, words 65 to 1,088, have a digit for each number. The words above them have
-- a digit for each word after word 0: word 0 for the words 1 to 64, word 1 + v for the 64 words from 65 + 64 v on. Those of words 1 to 16 are all the
-- leaves, so words 17 to 64 stay 0.
use Rattle.std.specs.Prelude.{ℕ, ◌+◌, ◌*◌, ◌/◌, ◌%◌, ◌<◌, ◌≤◌, ◌≡◌, Bool, List, ◌≢◌, ◌↔◌, length, get_or, set}
use Rattle.digits.specs.Digits.{digit, is_set, set_digit}

-- how many digits a word has
abbrev pub word_digits : ℕ
word_digits = 64

-- how many words a set has
abbrev pub word_count : ℕ
word_count = 1089

-- the words that tell of others are below this
abbrev pub tellers : ℕ
tellers = 17

-- the first leaf
abbrev pub leaves : ℕ
leaves = 65

-- members are below this
abbrev pub numbers : ℕ
numbers = 65536

-- word i; past the end, 0
abbrev pub word : List ℕ → ℕ → ℕ
word words i = get_or words i 0

-- whether n is a member; past the end, no
unfoldable pub has : List ℕ → ℕ → Bool
has words n = is_set (word words (leaves + n / word_digits)) (n % word_digits)

-- `after` is `words` with v, which is 0 or 1, for digit k of word i
pub record DigitWritten (words after : List ℕ) (i k v : ℕ) : Type 0 where
  pub bit : v < 2
  pub made : after ≡ set words i (set_digit (word words i) k v)

-- the word that digit k of word i stands for
abbrev pub word_below : ℕ → ℕ → ℕ
word_below i k = 1 + (word_digits * i + k)

-- digit k of word i is 1 exactly if the word that it stands for is not 0
abbrev pub Tells : List ℕ → ℕ → ℕ → Type 0
Tells words i k = (digit (word words i) k ≡ 1) ↔ (word words (word_below i k) ≢ 0)

-- the words of a set
pub record Bitset (words : List ℕ) : Type 0 where
  pub long : length words ≡ word_count
  pub spare : (i : ℕ) → tellers ≤ i → i < leaves → word words i ≡ 0
  pub tells : (i k : ℕ) → i < tellers → k < word_digits → Tells words i k
