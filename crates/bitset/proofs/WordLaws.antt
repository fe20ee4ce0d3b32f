-- What is read after digit k of word i was written. Main laws: `digit_written_same`, `-other`; `has_written_same`, `-other`. And the words of a set
-- with no member: `zeros_bitset`, `zeros_none`.
use mathlib.Core.Path.{◌≡◌, sym, ap, ◌∙◌}
use mathlib.Core.Bool.{false}
use mathlib.Core.List.{List}
use mathlib.Core.Logic.{⊎_elim, ◌≢◌}
use Prim.Native.Nat.{ℕ, ◌+◌, ◌/◌, ◌%◌, ◌^◌, ◌<◌}
use native.Mathlib.Omega.{arith}
use native.Mathlib.Nat.{mod-eq_of_lt}
use lib.Dec.{eqb}
use lib.ListN.{length, length-set}
use lib.Pow.{pow_pos, shr_le}
use lib.Seq.{get_or-set_same, get_or-set_other}
use Rattle.lists.specs.Tables.{zeros}
use Rattle.lists.proofs.CaseLaws.{eq_or_ne}
use Rattle.lists.proofs.TableLaws.{zeros_length, zeros_at}
use Rattle.digits.specs.Digits.{digit, set_digit}
use Rattle.digits.proofs.DigitLaws.{digit_set_same, digit_set_other, digit_past}
use Rattle.bitset.specs.Bitset.{Bitset, DigitWritten, has, word, word_below, word_count, word_digits, leaves}

-- the digits of 0
pub digit_zero : {n : ℕ} (k : ℕ) → n ≡ 0 → digit n k ≡ 0
digit_zero {n} k e = digit_past n 0 k (omega arith) (omega arith)

-- a word with a digit set is not 0
pub ne_zero_of_digit : {n : ℕ} (k : ℕ) → digit n k ≡ 1 → n ≢ 0
ne_zero_of_digit k d z = absurd (omega (arith, digit_zero k z))

-- 0 with a digit written 0 is 0
set_zero : (k : ℕ) → set_digit 0 k 0 ≡ 0
unfolding set_digit
set_zero k = let q : 0 / 2 ^ (1 + k) ≡ 0 = omega (arith, shr_le 0 (1 + k)) in rw (q, mod-eq_of_lt (pow_pos k)) (omega arith)

-- ---- digit k of word i is written

module _ {words after : List ℕ} {i k v : ℕ} (e : DigitWritten words after i k v) where
  pub written_length : length after ≡ length words
  written_length = ap length e.made ∙ length-set words i (set_digit (word words i) k v)

  pub word_written_other : (j : ℕ) → j ≢ i → word after j ≡ word words j
  word_written_other j ne = ap (λ (x : List ℕ). word x j) e.made ∙ get_or-set_other words i j (set_digit (word words i) k v) 0 ne

module _ {words after : List ℕ} {i k v : ℕ} (e : DigitWritten words after i k v) (l : i < length words) where
  word_written_same : word after i ≡ set_digit (word words i) k v
  word_written_same = ap (λ (x : List ℕ). word x i) e.made ∙ get_or-set_same words i (set_digit (word words i) k v) 0 l

  pub digit_written_same : digit (word after i) k ≡ v
  digit_written_same = ap (λ (x : ℕ). digit x k) word_written_same ∙ digit_set_same (word words i) k v e.bit

  pub digit_written_other : (j m : ℕ) → (j ≡ i → m ≢ k) → digit (word after j) m ≡ digit (word words j) m
  digit_written_other j m ne =
      ⊎_elim
      (λ (q : j ≡ i).
      ap (λ (x : ℕ). digit (word after x) m) q ∙ ap (λ (x : ℕ). digit x m) word_written_same ∙ digit_set_other (word words i) k v e.bit m (ne q)
      ∙ ap (λ (x : ℕ). digit (word words x) m) (sym q))
      (λ q. ap (λ (x : ℕ). digit x m) (word_written_other e j q)) (eq_or_ne j i)

  -- the number that the digit stands for, in a leaf, and the others
  pub has_written_same : (n : ℕ) → leaves + n / word_digits ≡ i → n % word_digits ≡ k → has after n ≡ eqb v 1
  unfolding has
  has_written_same n a b = rw (a, b) (ap (λ (x : ℕ). eqb x 1) digit_written_same)

  pub has_written_other : (m : ℕ) → (leaves + m / word_digits ≡ i → m % word_digits ≢ k) → has after m ≡ has words m
  unfolding has
  has_written_other m ne = ap (λ (x : ℕ). eqb x 1) (digit_written_other (leaves + m / word_digits) (m % word_digits) ne)

-- a word that is not 0 after a digit was written 0 was not 0 before
pub ne_zero_before : {words after : List ℕ} {i k : ℕ} → DigitWritten words after i k 0 → i < length words → word after i ≢ 0 → word words i ≢ 0
ne_zero_before {words} {after} {i} {k} e l ne z = ne (word_written_same e l ∙ ap (λ (x : ℕ). set_digit x k 0) z ∙ set_zero k)

-- ---- the words of no member

pub zeros_bitset : Bitset (zeros word_count)
zeros_bitset = record {
  long = zeros_length word_count;
  spare = λ i a b. zeros_at word_count i;
  tells = λ i k li lk. (
    λ d. absurd (ne_zero_of_digit k d (zeros_at word_count i)),
    λ ne. absurd (ne (zeros_at word_count (word_below i k))),
  );
}

pub zeros_none : (m : ℕ) → has (zeros word_count) m ≡ false
unfolding has
zeros_none m = ap (λ (x : ℕ). eqb x 1) (digit_zero (m % word_digits) (zeros_at word_count (leaves + m / word_digits)))
