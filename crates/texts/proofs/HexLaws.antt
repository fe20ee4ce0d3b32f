-- A digit and what it stands for, both ways; the number of two and of four digits. Main laws: `digit_back`, `value_back`, `pair_high`,
-- `pair_low`, `pair_of`, `quad-of`.
use Prim.Native.Nat.{ℕ, ◌+◌, ◌-◌, ◌/◌, ◌%◌, ◌<◌, ◌≤◌}
use mathlib.Core.Path.{◌≡◌, ◌∙◌}
use mathlib.Core.Bool.{true, false, ◌&&◌}
use mathlib.Core.Logic.{◌⊎◌, inl, inr, ⊎_elim}
use mathlib.Core.List.{List}
use native.Mathlib.Omega.{arith}
use borrow.Author.Tests.{leb-true, le-leb, lt-leb, lt-ltb, le-ltb}
use lib.Dec.{leb}
use lib.ListN.{get_or}
use Rattle.lists.proofs.CaseLaws.{cases, lt_or_le, and_left, and_right, and_true, or_is, or_left, or_right}
use Rattle.texts.specs.Hex.{digit_of, is_digit, value_of, pair_at, quad_at}

-- ---- a digit

pub digit_is_one : (c : ℕ) → is_digit c ≡ true → ((48 ≤ c) × (c ≤ 57)) ⊎ ((65 ≤ c) × (c ≤ 70))
unfolding is_digit
digit_is_one c e =
    ⊎_elim (λ l. inl (leb-true 48 c (and_left (leb 48 c) (leb c 57) l), leb-true c 57 (and_right (leb 48 c) (leb c 57) l)))
    (λ r. inr (leb-true 65 c (and_left (leb 65 c) (leb c 70) r), leb-true c 70 (and_right (leb 65 c) (leb c 70) r)))
    (or_is (leb 48 c && leb c 57) (leb 65 c && leb c 70) e)

pub digit_least : (c : ℕ) → is_digit c ≡ true → 48 ≤ c
digit_least c e = ⊎_elim (λ k. k.0) (λ k. omega arith) (digit_is_one c e)

pub letter_least : (c : ℕ) → is_digit c ≡ true → 57 < c → 65 ≤ c
letter_least c e l = ⊎_elim (λ k. absurd (omega arith)) (λ k. k.0) (digit_is_one c e)

pub letter_most : (c : ℕ) → is_digit c ≡ true → 57 < c → c ≤ 70
letter_most c e l = ⊎_elim (λ k. absurd (omega arith)) (λ k. k.1) (digit_is_one c e)

pub digit_between : (c : ℕ) → ((48 ≤ c) × (c ≤ 57)) ⊎ ((65 ≤ c) × (c ≤ 70)) → is_digit c ≡ true
unfolding is_digit
digit_between c h =
    ⊎_elim (λ l. or_left (leb 48 c && leb c 57) _ (and_true (le-leb 48 c l.0) (le-leb c 57 l.1)))
    (λ r. or_right (leb 48 c && leb c 57) _ (and_true (le-leb 65 c r.0) (le-leb c 70 r.1))) h

module _ (c : ℕ) where
  value_low : 48 ≤ c → c ≤ 57 → value_of c ≡ c - 48
  unfolding value_of is_digit
  value_low h g = rw (le-leb 48 c h, le-leb c 57 g)

  value_high : 65 ≤ c → c ≤ 70 → value_of c ≡ c - 55
  unfolding value_of is_digit
  value_high h g = rw (le-leb 48 c (omega arith), lt-leb c 57 (omega arith), le-leb 65 c h, le-leb c 70 g)

  value_none : is_digit c ≡ false → value_of c ≡ 0
  unfolding value_of
  value_none e = rw e

  pub value_lt : value_of c < 16
  value_lt =
      ⊎_elim (λ d. ⊎_elim (λ l. omega (arith, value_low l.0 l.1)) (λ r. omega (arith, value_high r.0 r.1)) (digit_is_one c d))
      (λ n. omega (arith, value_none n)) (cases (is_digit c))

module _ (x : ℕ) where
  digit_low : x % 16 < 10 → digit_of x ≡ 48 + x % 16
  unfolding digit_of
  digit_low l = rw (lt-ltb (x % 16) 10 l)

  digit_high : 10 ≤ x % 16 → digit_of x ≡ 55 + x % 16
  unfolding digit_of
  digit_high l = rw (le-ltb (x % 16) 10 l)

  -- what is written is a digit, and stands for the number's lowest digit
  pub digit_is : is_digit (digit_of x) ≡ true
  digit_is =
      digit_between (digit_of x)
      (⊎_elim (λ l. let e = digit_low l in inl (omega arith)) (λ g. let e = digit_high g in inr (omega arith)) (lt_or_le (x % 16) 10))

  pub value_back : value_of (digit_of x) ≡ x % 16
  value_back =
      ⊎_elim (λ l. let e = digit_low l in omega (arith, value_low (digit_of x) (omega arith) (omega arith)))
      (λ g. let e = digit_high g in omega (arith, value_high (digit_of x) (omega arith) (omega arith))) (lt_or_le (x % 16) 10)

-- what is read, written again, is the digit
pub digit_back : (c : ℕ) → is_digit c ≡ true → digit_of (value_of c) ≡ c
digit_back c d =
    ⊎_elim (λ l. let v = value_low c l.0 l.1 in omega (arith, digit_low (value_of c) (omega arith)))
    (λ r. let v = value_high c r.0 r.1 in omega (arith, digit_high (value_of c) (omega arith))) (digit_is_one c d)

pub digit_same : (x y : ℕ) → x % 16 ≡ y % 16 → digit_of x ≡ digit_of y
unfolding digit_of
digit_same x y e = rw e

-- ---- two and four digits

module _ (s : List ℕ) (at : ℕ) where
  pub pair_lt : pair_at s at < 256
  unfolding pair_at
  pair_lt = omega (arith, value_lt (get_or s at 0), value_lt (get_or s (at + 1) 0))

  -- the digits of a pair are the two that stand there
  pub pair_high : is_digit (get_or s at 0) ≡ true → digit_of (pair_at s at / 16) ≡ get_or s at 0
  unfolding pair_at
  pair_high d =
      digit_same _ (value_of (get_or s at 0)) (omega (arith, value_lt (get_or s at 0), value_lt (get_or s (at + 1) 0))) ∙ digit_back (get_or s at 0) d

  pub pair_low : is_digit (get_or s (at + 1) 0) ≡ true → digit_of (pair_at s at) ≡ get_or s (at + 1) 0
  unfolding pair_at
  pair_low d = digit_same _ (value_of (get_or s (at + 1) 0)) (omega arith) ∙ digit_back (get_or s (at + 1) 0) d

  -- the other way: a number that fits is read back from its digits
  pub pair_of : (x : ℕ) → x < 256 → get_or s at 0 ≡ digit_of (x / 16) → get_or s (at + 1) 0 ≡ digit_of x → pair_at s at ≡ x
  unfolding pair_at
  pair_of x l h g = rw (h, g) (omega (arith, value_back (x / 16), value_back x))

module _ (s : List ℕ) (at : ℕ) where
  pub quad_lt : quad_at s at < 65536
  unfolding quad_at
  quad_lt = omega (arith, pair_lt s at, pair_lt s (at + 2))

  pub quad_high : quad_at s at / 256 ≡ pair_at s at
  unfolding quad_at
  quad_high = omega (arith, pair_lt s (at + 2))

  -- the lower pair of the four has the digits of the whole
  pub quad_low : quad_at s at % 256 ≡ pair_at s (at + 2)
  unfolding quad_at
  quad_low = omega (arith, pair_lt s (at + 2))
