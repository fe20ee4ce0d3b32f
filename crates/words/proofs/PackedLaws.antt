-- Bits in numbers of u bits each. Main laws: `bit_packed`, `bit_past`, `packed_back`, `bits_in_ext`, `bit_in_part`. Assumes nothing.
use mathlib.Core.Path.{◌≡◌, sym, ap, ◌∙◌, subst}
use mathlib.Core.Logic.{⊎_elim}
use mathlib.Core.List.{List}
use Prim.Native.Nat.{ℕ, ◌+◌, ◌*◌, ◌/◌, ◌%◌, ◌^◌, ◌<◌, ◌≤◌}
use native.Mathlib.Omega.{arith}
use native.Mathlib.Nat.{add-mul, div-add-mod', mod-lt, zero-div, div-lt_iff_lt-mul, le-div_iff_mul-le}
use lib.Arith.{digits_div, digits_mod, digits_lt}
use lib.Pow.{pow_pos}
use lib.ListN.{length, get_or, drop, length-take, get_or-eq_default}
use lib.Seq.{get_or-take, get_or-drop, ext_get_or}
use Rattle.lists.specs.Parts.{part}
use Rattle.lists.proofs.CaseLaws.{lt_or_le}
use Rattle.lists.proofs.TableLaws.{tabulate_length, tabulate_zero, tabulate_past}
use Rattle.digits.specs.Digits.{digit}
use Rattle.digits.proofs.DigitLaws.{from_digits_lt, digit_from_digits, from_digits_ext, from_digits_all}
use Rattle.words.specs.Packed.{bit_in, number_from, packed, FitsIn}

module _ (u : ℕ) (some : 0 < u) where
  pub bit_in_lt : (xs : List ℕ) (p : ℕ) → bit_in u xs p < 2
  unfolding bit_in
  bit_in_lt xs p = omega arith

  -- bit k of number i
  pub bit_in_number : (xs : List ℕ) (i k : ℕ) → k < u → bit_in u xs (i * u + k) ≡ digit (get_or xs i 0) k
  unfolding bit_in
  bit_in_number xs i k l = rw (digits_div i l, digits_mod i l)

  -- a number is its u bits
  pub number_is : (xs : List ℕ) (i : ℕ) → get_or xs i 0 < 2 ^ u → number_from u (bit_in u xs) (i * u) ≡ get_or xs i 0
  number_is xs i h =
      from_digits_ext (λ (k : ℕ). bit_in u xs (i * u + k)) (digit (get_or xs i 0)) u (bit_in_number xs i)
      ∙ from_digits_all (get_or xs i 0) u h

  place_lt : (n p : ℕ) → p < n * u → p / u < n
  place_lt n p h = (div-lt_iff_lt-mul some).1 h

  place_ge : (n p : ℕ) → n * u ≤ p → n ≤ p / u
  place_ge n p h = (le-div_iff_mul-le some).1 h

  -- ---- numbers made of bits

  module _ (f : ℕ → ℕ) (two : (p : ℕ) → f p < 2) (n : ℕ) where
    pub packed_length : length (packed u f n) ≡ n
    unfolding packed
    packed_length = tabulate_length (λ (i : ℕ). number_from u f (i * u)) 0 n

    pub packed_at : (i : ℕ) → i < n → get_or (packed u f n) i 0 ≡ number_from u f (i * u)
    unfolding packed
    packed_at i h = tabulate_zero (λ (j : ℕ). number_from u f (j * u)) 0 n i h

    pub packed_past : (i : ℕ) → n ≤ i → get_or (packed u f n) i 0 ≡ 0
    unfolding packed
    packed_past i h = tabulate_past (λ (j : ℕ). number_from u f (j * u)) 0 0 n i h

    pub packed_fits : FitsIn u (packed u f n)
    packed_fits i =
        ⊎_elim
        (λ (h : i < n). subst (λ (x : ℕ). x < 2 ^ u) (sym (packed_at i h)) (from_digits_lt (λ (k : ℕ). f (i * u + k)) (λ k. two (i * u + k)) u))
        (λ (h : n ≤ i). subst (λ (x : ℕ). x < 2 ^ u) (sym (packed_past i h)) (pow_pos u))
        (lt_or_le i n)

    pub bit_packed : (p : ℕ) → p < n * u → bit_in u (packed u f n) p ≡ f p
    unfolding bit_in
    bit_packed p h =
        ap (λ (x : ℕ). digit x (p % u)) (packed_at (p / u) (place_lt n p h))
        ∙ digit_from_digits (λ (k : ℕ). f (p / u * u + k)) (λ k. two (p / u * u + k)) u (p % u) (mod-lt p some)
        ∙ ap f (div-add-mod' p u)

    pub bit_packed_past : (p : ℕ) → n * u ≤ p → bit_in u (packed u f n) p ≡ 0
    unfolding bit_in
    bit_packed_past p h =
        ap (λ (x : ℕ). digit x (p % u)) (packed_past (p / u) (place_ge n p h)) ∙ ap (λ (x : ℕ). x % 2) (zero-div (2 ^ (p % u)))

  -- numbers are made of their bits
  pub packed_back : (xs : List ℕ) (n : ℕ) → length xs ≡ n → FitsIn u xs → packed u (bit_in u xs) n ≡ xs
  packed_back xs n e fits =
      ext_get_or 0 (packed u (bit_in u xs) n) xs (packed_length (bit_in u xs) (bit_in_lt xs) n ∙ sym e)
      (λ i h. packed_at (bit_in u xs) (bit_in_lt xs) n i
      (subst (λ (x : ℕ). i < x) (packed_length (bit_in u xs) (bit_in_lt xs) n) h) ∙ number_is xs i (fits i))

  -- two lists of numbers that agree at each bit are equal
  pub bits_in_ext : (xs ys : List ℕ) → length xs ≡ length ys → FitsIn u xs → FitsIn u ys → ((p : ℕ) → p < length xs * u → bit_in u xs p ≡ bit_in u ys p) → xs ≡ ys
  bits_in_ext xs ys n bx by h =
      ext_get_or 0 xs ys n
      (λ i l. sym (number_is xs i (bx i))
      ∙ from_digits_ext (λ (k : ℕ). bit_in u xs (i * u + k)) (λ (k : ℕ). bit_in u ys (i * u + k)) u (λ k m. h (i * u + k) (digits_lt l m))
      ∙ number_is ys i (by i))

  -- ---- past the end, and in a part

  pub bit_past : (xs : List ℕ) (n p : ℕ) → length xs ≤ n → n * u ≤ p → bit_in u xs p ≡ 0
  unfolding bit_in
  bit_past xs n p e h =
      ap (λ (x : ℕ). digit x (p % u)) (get_or-eq_default xs 0 (omega (arith, place_ge n p h))) ∙ ap (λ (x : ℕ). x % 2) (zero-div (2 ^ (p % u)))

  -- part t of k numbers holds k * u bits, the first of which is bit k * t * u of the whole
  pub bit_in_part : (k t : ℕ) (xs : List ℕ) (p : ℕ) → p < k * u → bit_in u (part k t xs) p ≡ bit_in u xs (k * t * u + p)
  unfolding bit_in
  bit_in_part k t xs p h =
      let r : p % u < u = mod-lt p some in
      let e : k * t * u + p ≡ (k * t + p / u) * u + p % u = omega (arith, div-add-mod' p u, add-mul (k * t) (p / u) u) in
      ap (λ (x : ℕ). digit x (p % u)) (get_or-take k (drop (k * t) xs) (p / u) 0 (place_lt k p h) ∙ get_or-drop (k * t) xs (p / u) 0)
      ∙ rw (e, digits_div (k * t + p / u) r, digits_mod (k * t + p / u) r)

  pub bit_past_part : (k t : ℕ) (xs : List ℕ) (p : ℕ) → k * u ≤ p → bit_in u (part k t xs) p ≡ 0
  bit_past_part k t xs p h = bit_past (part k t xs) k p (omega (arith, length-take k (drop (k * t) xs))) h
