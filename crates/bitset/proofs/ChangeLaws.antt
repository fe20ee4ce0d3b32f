-- A number inserted and removed, by a write at each level. Main laws: `inserted`; `removed_leaf`, `removed_middle`, `removed_top`.
use mathlib.Core.Path.{◌≡◌, refl, ◌∙◌}
use mathlib.Core.Bool.{Bool, true, false}
use mathlib.Core.List.{List}
use mathlib.Core.Logic.{◌≢◌}
use Prim.Native.Nat.{ℕ, ◌+◌, ◌/◌, ◌%◌, ◌<◌}
use native.Mathlib.Omega.{arith}
use lib.Dec.{eqb}
use lib.ListN.{length}
use Rattle.bitset.specs.Bitset.{Bitset, DigitWritten, has, word, word_count, word_digits, tellers, leaves, numbers}
use Rattle.bitset.proofs.WordLaws.{ne_zero_of_digit, digit_written_same, has_written_same, has_written_other}
use Rattle.bitset.proofs.LevelLaws.{Pending, pending_of, pending_start, pending_step, pending_end, pending_kept}

-- `after` is a set, in which n is a member if x says so, and all others are as in `words`
abbrev pub Changed : List ℕ → List ℕ → ℕ → Bool → Type 0
Changed words after n x = Bitset after × ((has after n ≡ x) × ((m : ℕ) → m ≢ n → has after m ≡ has words m))

-- the digit of n is written v: a change of the members
module _ {a b : List ℕ} {v : ℕ} (n : ℕ) (s : Bitset a) (l : n < numbers) (e : DigitWritten a b (leaves + n / word_digits) (n % word_digits) v) where
  leaf_here : has b n ≡ eqb v 1
  leaf_here = let long = s.long in has_written_same e (omega arith) n refl refl

  leaf_others : (m : ℕ) → m ≢ n → has b m ≡ has a m
  leaf_others m ne = let long = s.long in has_written_other e (omega arith) m (λ p q. ne (let z : m ≡ n = omega arith in z))

  leaf_pending : Pending b (leaves + n / word_digits)
  leaf_pending = pending_start e s (omega arith) (omega arith)

-- a digit above the leaves is written: no change of the members
upper_kept : {a b : List ℕ} {i k v : ℕ} → DigitWritten a b i k v → length a ≡ word_count → i < tellers → (m : ℕ) → has b m ≡ has a m
upper_kept e long l m = has_written_other e (omega arith) m (λ z. absurd (omega arith))

module _ {a b c d : List ℕ} (n : ℕ) (s : Bitset a) (l : n < numbers) (leaf : DigitWritten a b (leaves + n / word_digits) (n % word_digits) 1)
    (middle : DigitWritten b c (1 + n / word_digits / word_digits) (n / word_digits % word_digits) 1) (top : DigitWritten c d 0 (n / word_digits / word_digits) 1) where
  pub inserted : Changed a d n true
  inserted =
      let long = s.long in
      let p : Pending b (leaves + n / word_digits) = leaf_pending n s l leaf in
      let full : word b (leaves + n / word_digits) ≢ 0 = ne_zero_of_digit (n % word_digits) (digit_written_same leaf (omega arith)) in
      let q : Pending c (1 + n / word_digits / word_digits) = pending_step middle p (omega arith) (omega arith) (omega arith) (λ z. full, λ z. refl) in
      let long-b = p.long in
      let full_c : word c (1 + n / word_digits / word_digits) ≢ 0 = ne_zero_of_digit (n / word_digits % word_digits) (digit_written_same middle (omega arith)) in
      let kept : (m : ℕ) → has d m ≡ has b m = λ m. upper_kept top q.long (omega arith) m ∙ upper_kept middle p.long (omega arith) m in (
        pending_end (pending_step top q (omega arith) (omega arith) (omega arith) (λ z. full_c, λ z. refl)),
        (kept n ∙ leaf_here n s l leaf, λ m ne. kept m ∙ leaf_others n s l leaf m ne),
      )

module _ {a b : List ℕ} (n : ℕ) (s : Bitset a) (l : n < numbers) (leaf : DigitWritten a b (leaves + n / word_digits) (n % word_digits) 0) where
  -- the leaf has other members
  pub removed_leaf : word b (leaves + n / word_digits) ≢ 0 → Changed a b n false
  removed_leaf full = (
    pending_kept leaf (pending_of s 0) (omega arith) (leaf_pending n s l leaf) (1 + n / word_digits / word_digits) (n / word_digits % word_digits) (omega arith) (omega arith)
        (omega arith) (λ z. absurd (omega arith)) full,
    (leaf_here n s l leaf, leaf_others n s l leaf),
  )

  module _ {c : List ℕ} (clear : word b (leaves + n / word_digits) ≡ 0) (middle : DigitWritten b c (1 + n / word_digits / word_digits) (n / word_digits % word_digits) 0) where
    middle_pending : Pending c (1 + n / word_digits / word_digits)
    middle_pending =
        pending_step middle (leaf_pending n s l leaf) (omega arith) (omega arith) (omega arith) (λ z. absurd (omega arith), λ ne. absurd (ne clear))

    middle_kept : (m : ℕ) → has c m ≡ has b m
    middle_kept m = upper_kept middle (leaf_pending n s l leaf).long (omega arith) m

    -- the word above has other leaves
    pub removed_middle : word c (1 + n / word_digits / word_digits) ≢ 0 → Changed a c n false
    removed_middle full = (
      pending_kept middle (leaf_pending n s l leaf) (omega arith) middle_pending 0 (n / word_digits / word_digits) (omega arith) (omega arith) (omega arith)
          (λ z. absurd (omega arith)) full,
      (middle_kept n ∙ leaf_here n s l leaf, λ m ne. middle_kept m ∙ leaf_others n s l leaf m ne),
    )

    pub removed_top : {d : List ℕ} → word c (1 + n / word_digits / word_digits) ≡ 0 → DigitWritten c d 0 (n / word_digits / word_digits) 0 → Changed a d n false
    removed_top {d} clear-c top =
        let kept : (m : ℕ) → has d m ≡ has b m = λ m. upper_kept top middle_pending.long (omega arith) m ∙ middle_kept m in (
          pending_end
              (pending_step top middle_pending (omega arith) (omega arith) (omega arith) (λ z. absurd (omega arith), λ ne. absurd (ne clear-c))),
          (kept n ∙ leaf_here n s l leaf, λ m ne. kept m ∙ leaf_others n s l leaf m ne),
        )
