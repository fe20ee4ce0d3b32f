-- What the code computes of each form is a number_from of the other's bits. Main laws: `eight_turn`; `word_is`, `byte_is`. Assumes nothing.
use mathlib.Core.Path.{◌≡◌, sym, ap, ap₂, ◌∙◌, subst}
use mathlib.Core.List.{List}
use Prim.Native.Nat.{ℕ, zero, suc, ◌+◌, ◌-◌, ◌*◌, ◌/◌, ◌%◌, ◌^◌, ◌<◌, ◌≤◌}
use native.Mathlib.Omega.{arith}
use native.Mathlib.Nat.{add-mul, mul_assoc, mul_comm, mod-lt, lt_of_lt_of_le}
use lib.Pow.{pow-add, pow_mono, pow_pos, shl_lt, shl_exact, shr_lt, shr-shr}
use lib.ListN.{get_or}
use Rattle.digits.specs.Digits.{digit, from_digits}
use Rattle.digits.proofs.DigitLaws.{digit_mod, digit_join, digit_from_digits, from_digits_lt, from_digits_ext, from_digits_shift, from_digits_mod}
use Rattle.words.specs.Packed.{bit_in, number_from}
use Rattle.ports.specs.Lengths.{columns}
use Rattle.words.specs.Forms.{byte_bits}
use Rattle.words.proofs.PackedLaws.{bit_in_lt, bit_in_number, number_is}

-- a number_from in two parts
pub from_digits_add : (f : ℕ → ℕ) (a b : ℕ) → from_digits f (a + b) ≡ from_digits f a + from_digits (λ (k : ℕ). f (a + k)) b * 2 ^ a
unfolding from_digits
from_digits_add f a zero = ap (from_digits f) (let e : a + 0 ≡ a = omega arith in e) ∙ omega arith
from_digits_add f a (suc b) =
    omega (
      arith,
      ap (from_digits f) (let e : a + suc b ≡ suc (a + b) = omega arith in e),
      from_digits_add f a b,
      add-mul (f (a + b) * 2 ^ b) (from_digits (λ (k : ℕ). f (a + k)) b) (2 ^ a),
      mul_assoc (f (a + b)) (2 ^ b) (2 ^ a),
      ap (λ (x : ℕ). f (a + b) * x) (pow-add 2 a b ∙ mul_comm (2 ^ a) (2 ^ b)),
    )

-- one byte more
module _ (bytes : List ℕ) (at j eight b : ℕ) (inv : eight ≡ number_from (byte_bits * j) (bit_in byte_bits bytes) (at * byte_bits)) (e : b ≡ get_or bytes (at + j) 0)
    (h : b < 2 ^ byte_bits) (l : j < 8) where
  abbrev next : ℕ → ℕ
  next k = bit_in byte_bits bytes (at * byte_bits + k)

  eight_byte : from_digits (λ (k : ℕ). next (byte_bits * j + k)) byte_bits ≡ b
  eight_byte =
      from_digits_ext (λ (k : ℕ). next (byte_bits * j + k)) (λ (k : ℕ). bit_in byte_bits bytes ((at + j) * byte_bits + k)) byte_bits
      (λ k m. ap (bit_in byte_bits bytes) (let q : at * byte_bits + (byte_bits * j + k) ≡ (at + j) * byte_bits + k = omega arith in q))
      ∙ number_is byte_bits (omega arith) bytes (at + j) (subst (λ (x : ℕ). x < 2 ^ byte_bits) e h) ∙ sym e

  pub eight_turn : eight + (b * 2 ^ (byte_bits * j)) % 2 ^ 64 ≡ number_from (byte_bits * (j + 1)) (bit_in byte_bits bytes) (at * byte_bits)
  eight_turn =
      ap₂ (λ (x y : ℕ). x + y) inv (shl_exact {a = b} byte_bits (byte_bits * j) 64 h (omega arith) ∙ ap (λ (x : ℕ). x * 2 ^ (byte_bits * j)) (sym eight_byte))
      ∙ sym (from_digits_add next (byte_bits * j) byte_bits)
      ∙ ap (from_digits next) (let q : byte_bits * j + byte_bits ≡ byte_bits * (j + 1) = omega arith in q)

  pub eight_fits : eight + (b * 2 ^ (byte_bits * j)) % 2 ^ 64 < 2 ^ 64
  eight_fits =
      subst (λ (x : ℕ). x < 2 ^ 64) (sym eight_turn)
      (lt_of_lt_of_le (from_digits_lt next (λ k. bit_in_lt byte_bits (omega arith) bytes _) (byte_bits * (j + 1)))
      (pow_mono {i = byte_bits * (j + 1)} {j = 64} (omega arith)))

-- row i of the bytes
pub word_is : (bytes : List ℕ) (i eight : ℕ) → eight ≡ number_from 64 (bit_in byte_bits bytes) (columns * i / byte_bits * byte_bits)
    → eight / 2 ^ (columns * i % byte_bits) % 18014398509481984 ≡ number_from columns (bit_in byte_bits bytes) (i * columns)
word_is bytes i eight e =
    let p : ℕ = columns * i in
    sym (from_digits_shift eight (p % byte_bits) columns)
    ∙ from_digits_ext (λ (k : ℕ). digit eight (p % byte_bits + k)) (λ (k : ℕ). bit_in byte_bits bytes (i * columns + k)) columns
    (λ k l. ap (λ (x : ℕ). digit x (p % byte_bits + k)) e
    ∙ digit_from_digits (λ (j : ℕ). bit_in byte_bits bytes (p / byte_bits * byte_bits + j)) (λ j. bit_in_lt byte_bits (omega arith) bytes _) 64
    (p % byte_bits + k) (omega arith)
    ∙ ap (bit_in byte_bits bytes) (let q : p / byte_bits * byte_bits + (p % byte_bits + k) ≡ i * columns + k = omega arith in q))

-- byte i of the words
module _ (words : List ℕ) (i : ℕ) where
  abbrev row : ℕ
  row = byte_bits * i / columns

  abbrev column : ℕ
  column = byte_bits * i % columns

  abbrev low : ℕ
  low = get_or words row 0 % 18014398509481984 / 2 ^ column

  abbrev high : ℕ
  high = get_or words (row + 1) 0 % 256

  pub low_lt : low < 2 ^ (columns - column)
  low_lt =
      shr_lt (columns - column) column
      (subst (λ (x : ℕ). get_or words row 0 % 18014398509481984 < 2 ^ x) (let e : columns ≡ columns - column + column = omega arith in e)
      (mod-lt (get_or words row 0) (pow_pos columns)))

  pub high_is : (high * 2 ^ (columns - column)) % 2 ^ 64 ≡ high * 2 ^ (columns - column)
  high_is = shl_exact {a = high} byte_bits (columns - column) 64 (omega arith) (omega arith)

  low_digit : (j : ℕ) → j < columns - column → digit low j ≡ bit_in columns words (i * byte_bits + j)
  low_digit j l =
      ap (λ (x : ℕ). x % 2) (shr-shr (get_or words row 0 % 2 ^ columns) column j)
      ∙ digit_mod (get_or words row 0) columns (column + j) (omega arith)
      ∙ sym (bit_in_number columns (omega arith) words row (column + j) (omega arith))
      ∙ ap (bit_in columns words) (let e : row * columns + (column + j) ≡ i * byte_bits + j = omega arith in e)

  high_digit : (j : ℕ) → j < byte_bits → digit high j ≡ bit_in columns words (i * byte_bits + (columns - column + j))
  high_digit j l =
      digit_mod (get_or words (row + 1) 0) byte_bits j l
      ∙ sym (bit_in_number columns (omega arith) words (row + 1) j (omega arith))
      ∙ ap (bit_in columns words) (let e : (row + 1) * columns + j ≡ i * byte_bits + (columns - column + j) = omega arith in e)

  pub both_fits : low + (high * 2 ^ (columns - column)) % 2 ^ 64 < 2 ^ 64
  both_fits =
      let a : 2 ^ (columns - column) ≤ 2 ^ columns = pow_mono {i = columns - column} {j = columns} (omega arith) in
      let b : high * 2 ^ (columns - column) < 2 ^ (byte_bits + (columns - column)) = shl_lt {a = high} byte_bits (columns - column) (omega arith) in
      let d : 2 ^ (byte_bits + (columns - column)) ≤ 2 ^ 62 = pow_mono {i = byte_bits + (columns - column)} {j = 62} (omega arith) in
      omega (arith, low_lt, high_is)

  pub byte_is : (low + (high * 2 ^ (columns - column)) % 2 ^ 64) % 256 ≡ number_from byte_bits (bit_in columns words) (i * byte_bits)
  byte_is =
      ap (λ (x : ℕ). (low + x) % 256) (high_is ∙ mul_comm high (2 ^ (columns - column)))
      ∙ sym (from_digits_mod (low + 2 ^ (columns - column) * high) byte_bits)
      ∙ from_digits_ext (digit (low + 2 ^ (columns - column) * high)) (λ (k : ℕ). bit_in columns words (i * byte_bits + k)) byte_bits
      (λ k l. digit_join (λ (j : ℕ). bit_in columns words (i * byte_bits + j)) low high (columns - column) byte_bits low_lt low_digit high_digit k (omega arith))

  -- as the code has it: x and y are the two words
  abbrev pub two_words : ℕ → ℕ → ℕ
  two_words x y = x % 18014398509481984 / 2 ^ column + (y % 256 * 2 ^ (columns - column)) % 2 ^ 64

  module _ (x y : ℕ) (a : x ≡ get_or words row 0) (b : y ≡ get_or words (row + 1) 0) where
    pub byte_of_two : two_words x y % 256 ≡ number_from byte_bits (bit_in columns words) (i * byte_bits)
    byte_of_two = ap₂ (λ (v w : ℕ). two_words v w % 256) a b ∙ byte_is

    pub two_fit : two_words x y < 2 ^ 64
    two_fit = subst (λ (v : ℕ). v < 2 ^ 64) (sym (ap₂ two_words a b)) both_fits
