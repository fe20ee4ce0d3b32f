-- The lowest set digit of each level leads to the lowest member. Main laws: `lowest_is`, `lowest_none`; `full_of_set`,
-- `top_lt`: the words on the way are not 0.
use mathlib.Core.Path.{◌≡◌, sym, ap, ◌∙◌}
use mathlib.Core.Bool.{true, false}
use mathlib.Core.List.{List}
use mathlib.Core.Logic.{⊎_elim, ◌≢◌}
use Prim.Native.Nat.{ℕ, ◌+◌, ◌*◌, ◌/◌, ◌%◌, ◌<◌, ◌≤◌}
use native.Mathlib.Omega.{arith}
use lib.Dec.{eqb}
use Rattle.lists.specs.Search.{first}
use Rattle.lists.proofs.CaseLaws.{lt_or_le, eq_or_ne}
use Rattle.lists.proofs.SearchLaws.{first_at, first_none}
use Rattle.digits.specs.Digits.{digit, LowestDigit}
use Rattle.bitset.specs.Bitset.{Bitset, has, word, word_below, word_digits, tellers, leaves, numbers}
use Rattle.bitset.proofs.WordLaws.{digit_zero}

-- the m words from a on are 0
abbrev Clear : List ℕ → ℕ → ℕ → Type 0
Clear words a m = (j : ℕ) → j < m → word words (a + j) ≡ 0

-- the digits below k of a word are 0
abbrev ClearDigits : ℕ → ℕ → Type 0
ClearDigits value k = (j : ℕ) → j < k → digit value j ≡ 0

-- the digits of m words and k digits of the next
module _ (words : List ℕ) (a m k : ℕ) (few : k ≤ word_digits) (clear : Clear words a m) (low : ClearDigits (word words (a + m)) k) where
  digits_clear : (j : ℕ) → j < word_digits * m + k → digit (word words (a + j / word_digits)) (j % word_digits) ≡ 0
  digits_clear j l =
      ⊎_elim (λ (h : j / word_digits < m). digit_zero (j % word_digits) (clear (j / word_digits) h))
      (λ (h : m ≤ j / word_digits).
      let e : j / word_digits ≡ m = omega arith in
      rw e (low (j % word_digits) (omega arith)))
      (lt_or_le (j / word_digits) m)

  -- the words that they stand for
  next_clear : Bitset words → word_digits * (a + m) + k ≤ word_digits * tellers → Clear words (1 + word_digits * a) (word_digits * m + k)
  next_clear s bound j l =
      let d = digits_clear j l in
      ap (word words) (let here : 1 + word_digits * a + j ≡ 1 + (word_digits * (a + j / word_digits) + j % word_digits) = omega arith in here)
      ∙ ⊎_elim (λ z. z) (λ ne. absurd (let one = (s.tells (a + j / word_digits) (j % word_digits) (omega arith) (omega arith)).1 ne in omega arith))
      (eq_or_ne (word words (1 + (word_digits * (a + j / word_digits) + j % word_digits))) 0)

-- the numbers of m leaves and k digits of the next
none_below : (words : List ℕ) (m k : ℕ) → k ≤ word_digits → Clear words leaves m → ClearDigits (word words (leaves + m)) k → (n : ℕ) → n < word_digits * m + k
    → has words n ≡ false
unfolding has
none_below words m k few clear low n l = ap (λ (x : ℕ). eqb x 1) (digits_clear words leaves m k few clear low n l)

-- word 0 is 0: there is no member
pub lowest_none : {words : List ℕ} → Bitset words → word words 0 ≡ 0 → numbers ≡ first (has words) 0 numbers
lowest_none {words} s z =
    let middle : Clear words 1 16 =
    λ i l. next_clear words 0 0 word_digits (omega arith) (λ j l. absurd (omega arith)) (λ j l. digit_zero j z) s (omega arith) i (omega arith) in
    let leaf : Clear words leaves 1024 = next_clear words 1 16 0 (omega arith) middle (λ j l. absurd (omega arith)) s (omega arith) in
    sym (first_none (has words) numbers (λ n l. none_below words 1024 0 (omega arith) leaf (λ j h. absurd (omega arith)) n l))

-- the word x that a set digit stands for is not 0
pub full_of_set : {words : List ℕ} {i k x : ℕ} → Bitset words → LowestDigit word_digits (word words i) k → i < tellers → x ≡ word_below i k → word words x ≢ 0
full_of_set {words} {i} {k} {x} s d l e z = (s.tells i k l d.within).0 d.one (ap (word words) (sym e) ∙ z)

-- the digits of word 0 that stand for spare words are 0
pub top_lt : {words : List ℕ} {v : ℕ} → Bitset words → LowestDigit word_digits (word words 0) v → 1 + v < tellers
top_lt {words} {v} s d =
    let few = d.within in
    ⊎_elim (λ l. l) (λ l. absurd (full_of_set s d (omega arith) (omega arith) (s.spare (1 + v) l (omega arith)))) (lt_or_le (1 + v) tellers)

module _ {words : List ℕ} {v k j : ℕ} (s : Bitset words) (top : LowestDigit word_digits (word words 0) v) (middle : LowestDigit word_digits (word words (1 + v)) k)
    (leaf : LowestDigit word_digits (word words (leaves + (word_digits * v + k))) j) where
  member : has words (word_digits * (word_digits * v + k) + j) ≡ true
  unfolding has
  member =
      let few = leaf.within in
      let at_word : (word_digits * (word_digits * v + k) + j) / word_digits ≡ word_digits * v + k = omega arith in
      let at_digit : (word_digits * (word_digits * v + k) + j) % word_digits ≡ j = omega arith in
      rw (at_word, at_digit) (ap (λ (x : ℕ). eqb x 1) leaf.one)

  pub lowest_is : word_digits * (word_digits * v + k) + j ≡ first (has words) 0 numbers
  lowest_is =
      let lv = top_lt s top in
      let lk = middle.within in
      let lj = leaf.within in
      let above : Clear words 1 v =
      λ i l. next_clear words 0 0 v (omega arith) (λ n h. absurd (omega arith)) top.below s (omega arith) i (omega arith) in
      let before : Clear words leaves (word_digits * v + k) = next_clear words 1 v k (omega arith) above middle.below s (omega arith) in
      sym (first_at (has words) (word_digits * (word_digits * v + k) + j) numbers (omega arith) member
      (λ n l. none_below words (word_digits * v + k) j (omega arith) before leaf.below n l))
