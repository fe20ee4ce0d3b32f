-- A digit written in a leaf, then what stands above it, level by level. Main laws: `pending_start`, `pending_step`, `pending_end`; `pending_kept`.
use mathlib.Core.Path.{◌≡◌, sym, ap, ◌∙◌, subst}
use mathlib.Core.List.{List}
use mathlib.Core.Logic.{⊎_elim, ◌≢◌, ◌↔◌}
use Prim.Native.Nat.{ℕ, ◌<◌, ◌≤◌}
use native.Mathlib.Omega.{arith}
use lib.ListN.{length}
use Rattle.lists.proofs.CaseLaws.{eq_or_ne}
use Rattle.digits.specs.Digits.{digit}
use Rattle.bitset.specs.Bitset.{Bitset, Tells, DigitWritten, word, word_below, word_count, word_digits, tellers, leaves}
use Rattle.bitset.proofs.WordLaws.{written_length, word_written_other, digit_written_same, digit_written_other, ne_zero_before}

-- the words of a set, but for the digit that stands for word e
pub record Pending (words : List ℕ) (e : ℕ) : Type 0 where
  pub long : length words ≡ word_count
  pub spare : (i : ℕ) → tellers ≤ i → i < leaves → word words i ≡ 0
  pub tells : (i k : ℕ) → i < tellers → k < word_digits → word_below i k ≢ e → Tells words i k

pub pending_of : {words : List ℕ} → Bitset words → (e : ℕ) → Pending words e
pending_of s e = record { long = s.long; spare = s.spare; tells = λ i k li lk ne. s.tells i k li lk }

-- nothing stands for word 0
pub pending_end : {words : List ℕ} → Pending words 0 → Bitset words
pending_end p = record { long = p.long; spare = p.spare; tells = λ i k li lk. p.tells i k li lk (λ z. absurd (omega arith)) }

-- a digit and its word that are both as they were
tells_same : (words after : List ℕ) (i k : ℕ) → digit (word after i) k ≡ digit (word words i) k
    → word after (word_below i k) ≡ word words (word_below i k) → Tells words i k → Tells after i k
tells_same words after i k d w t = (λ x z. t.0 (sym d ∙ x) (sym w ∙ z), λ ne. d ∙ t.1 (λ z. ne (w ∙ z)))

module _ {words after : List ℕ} {i k v : ℕ} (e : DigitWritten words after i k v) (long : length words ≡ word_count) (l : i < word_count) where
  tells_kept : (j m : ℕ) → word_below j m ≢ i → (j ≡ i → m ≢ k) → Tells words j m → Tells after j m
  tells_kept j m out ne t = tells_same words after j m (digit_written_other e (omega arith) j m ne) (word_written_other e (word_below j m) out) t

  tells_new : (v ≡ 1) ↔ (word words (word_below i k) ≢ 0) → Tells after i k
  tells_new agrees =
      let d : digit (word after i) k ≡ v = digit_written_same e (omega arith) in
      let w : word after (word_below i k) ≡ word words (word_below i k) = word_written_other e (word_below i k) (λ z. absurd (omega arith)) in
      (λ a b. agrees.0 (sym d ∙ a) (sym w ∙ b), λ ne. d ∙ agrees.1 (λ b. ne (w ∙ b)))

module _ {words after : List ℕ} {i k v : ℕ} (e : DigitWritten words after i k v) where
  -- a digit of a leaf
  pub pending_start : Bitset words → leaves ≤ i → i < word_count → Pending after i
  pending_start s h l = record {
    long = written_length e ∙ s.long;
    spare = λ j a b. word_written_other e j (λ z. absurd (omega arith)) ∙ s.spare j a b;
    tells = λ j m lj lm out. tells_kept e s.long l j m out (λ z. absurd (omega arith)) (s.tells j m lj lm);
  }

  -- the digit that stands for word x
  pub pending_step : {x : ℕ} → Pending words x → i < tellers → k < word_digits → x ≡ word_below i k → (v ≡ 1) ↔ (word words x ≢ 0) → Pending after i
  pending_step {x} p li lk here agrees = record {
    long = written_length e ∙ p.long;
    spare = λ j a b. word_written_other e j (λ z. absurd (omega arith)) ∙ p.spare j a b;
    tells = all;
  }
    where
      l : i < word_count
      l = omega arith

      all : (j m : ℕ) → j < tellers → m < word_digits → word_below j m ≢ i → Tells after j m
      all j m lj lm out =
          ⊎_elim
          (λ (z : word_below j m ≡ x).
          let same_word : j ≡ i = omega arith in
          let same_digit : m ≡ k = omega arith in
          rw (same_word, same_digit)
          (tells_new e p.long l (subst (λ (y : ℕ). (v ≡ 1) ↔ (word words y ≢ 0)) here agrees)))
          (λ ne. tells_kept e p.long l j m out (λ a b. ne (let q : word_below j m ≡ x = omega arith in q)) (p.tells j m lj lm ne))
          (eq_or_ne (word_below j m) x)

-- word x, of which a digit was written 0, is not 0 still: nothing is pending
pub pending_kept : {words after : List ℕ} {x y m : ℕ} → DigitWritten words after x m 0 → Pending words y → x < word_count → Pending after x
    → (i k : ℕ) → i < tellers → k < word_digits → x ≡ word_below i k → x ≢ y → word after x ≢ 0 → Bitset after
pending_kept {words} {after} {x} {y} {m} e before l p i k li lk here ne full = record { long = p.long; spare = p.spare; tells = all }
  where
    tells_x : Tells after i k
    tells_x =
        let long = before.long in
        let d : digit (word after i) k ≡ digit (word words i) k = digit_written_other e (omega arith) i k (λ z. absurd (omega arith)) in
        let old : word words x ≢ 0 = ne_zero_before e (omega arith) full in
        let t = before.tells i k li lk (λ z. ne (here ∙ z)) in (
          λ a b. full (ap (word after) here ∙ b),
          λ b. d ∙ t.1 (λ z. old (ap (word words) here ∙ z)),
        )

    all : (j n : ℕ) → j < tellers → n < word_digits → Tells after j n
    all j n lj ln =
        ⊎_elim
        (λ (z : word_below j n ≡ x).
        let same_word : j ≡ i = omega arith in
        let same_digit : n ≡ k = omega arith in
        rw (same_word, same_digit) tells_x)
        (λ out. p.tells j n lj ln out) (eq_or_ne (word_below j n) x)
