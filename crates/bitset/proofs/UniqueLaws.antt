-- The members determine the words, so that what `new`, `insert` and `remove` promise leaves nothing open. Main law: `words_unique`.
use mathlib.Core.Path.{◌≡◌, sym, ap, ◌∙◌}
use mathlib.Core.List.{List}
use mathlib.Core.Logic.{⊎_elim, ◌≢◌}
use Prim.Native.Nat.{ℕ, ◌+◌, ◌-◌, ◌*◌, ◌/◌, ◌%◌, ◌^◌, ◌<◌, ◌≤◌}
use native.Mathlib.Omega.{arith}
use borrow.Author.Tests.{eq-eqb, eqb-true}
use lib.Dec.{eqb}
use lib.Seq.{ext_get_or}
use Rattle.lists.proofs.CaseLaws.{lt_or_le, eq_or_ne}
use Rattle.digits.specs.Digits.{digit}
use Rattle.digits.proofs.DigitLaws.{digits_same}
use Rattle.bitset.specs.Bitset.{Bitset, has, word, word_below, word_digits, tellers, leaves}

-- two digits that are 1 together
digit_agrees : (x y i k : ℕ) → (digit x i ≡ 1 → digit y k ≡ 1) → (digit y k ≡ 1 → digit x i ≡ 1) → digit x i ≡ digit y k
digit_agrees x y i k to from =
    ⊎_elim (λ (e : digit x i ≡ 1). e ∙ sym (to e))
    (λ (ne : digit x i ≢ 1). let other : digit y k ≢ 1 = λ e. ne (from e) in omega arith) (eq_or_ne (digit x i) 1)

-- words of 64 digits, as the code holds them
abbrev pub Fits : List ℕ → Type 0
Fits words = (i : ℕ) → word words i < 2 ^ word_digits

module _ {a b : List ℕ} (s : Bitset a) (t : Bitset b) (fa : Fits a) (fb : Fits b) (same : (m : ℕ) → has a m ≡ has b m) where
  word_same : (i j : ℕ) → i ≡ j → word a j ≡ word b j → word a i ≡ word b i
  word_same i j e h = ap (word a) e ∙ h ∙ ap (word b) (sym e)

  leaf_same : (u : ℕ) → word a (leaves + u) ≡ word b (leaves + u)
  unfolding has
  leaf_same u = digits_same word_digits _ _ (fa (leaves + u)) (fb (leaves + u)) each
    where
      tests : (k : ℕ) → k < word_digits → eqb (digit (word a (leaves + u)) k) 1 ≡ eqb (digit (word b (leaves + u)) k) 1
      tests k l =
          let at_word : (word_digits * u + k) / word_digits ≡ u = omega arith in
          let at_digit : (word_digits * u + k) % word_digits ≡ k = omega arith in
          rw (at_word, at_digit) at (same (word_digits * u + k))

      each : (k : ℕ) → k < word_digits → digit (word a (leaves + u)) k ≡ digit (word b (leaves + u)) k
      each k l =
          digit_agrees (word a (leaves + u)) (word b (leaves + u)) k k (λ e. eqb-true _ _ (sym (tests k l) ∙ eq-eqb _ _ e))
          (λ e. eqb-true _ _ (tests k l ∙ eq-eqb _ _ e))

  -- a word whose digits stand for words that are the same
  teller_same : (i : ℕ) → i < tellers → ((k : ℕ) → k < word_digits → word a (word_below i k) ≡ word b (word_below i k)) → word a i ≡ word b i
  teller_same i l below =
      digits_same word_digits _ _ (fa i) (fb i)
      (λ k lk.
      digit_agrees (word a i) (word b i) k k (λ e. (t.tells i k l lk).1 (λ z. (s.tells i k l lk).0 e (below k lk ∙ z)))
      (λ e. (s.tells i k l lk).1 (λ z. (t.tells i k l lk).0 e (sym (below k lk) ∙ z))))

  upper_same : (i : ℕ) → 0 < i → i < leaves → word a i ≡ word b i
  upper_same i p l =
      ⊎_elim
      (λ (h : i < tellers).
      teller_same i h (λ k lk. word_same (word_below i k) (leaves + (word_digits * (i - 1) + k)) (omega arith) (leaf_same (word_digits * (i - 1) + k))))
      (λ (h : tellers ≤ i). s.spare i h l ∙ sym (t.spare i h l)) (lt_or_le i tellers)

  all_same : (i : ℕ) → word a i ≡ word b i
  all_same i =
      ⊎_elim
      (λ (h : i < leaves).
      ⊎_elim (λ (z : i ≡ 0). word_same i 0 z (teller_same 0 (omega arith) (λ k lk. upper_same (word_below 0 k) (omega arith) (omega arith))))
      (λ (ne : i ≢ 0). upper_same i (omega arith) h) (eq_or_ne i 0))
      (λ (h : leaves ≤ i). word_same i (leaves + (i - leaves)) (omega arith) (leaf_same (i - leaves))) (lt_or_le i leaves)

  pub words_unique : a ≡ b
  words_unique = ext_get_or 0 a b (s.long ∙ sym t.long) (λ i l. all_same i)
