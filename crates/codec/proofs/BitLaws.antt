-- The bits of a list of numbers: read, written, and two lists that agree at each bit; first over the number u of bits in a lent number,
-- then for the form that a tile's bits have. Main laws: `bit_set_same`, `bit_set_other`, `bits_ext`; `bit_count_step`, `bit_count_rows`. Assumes nothing.
use mathlib.Core.Path.{◌≡◌, refl, sym, ap, ap₂, ◌∙◌, subst}
use mathlib.Core.Bool.{true}
use mathlib.Core.Logic.{⊎_elim, ◌≢◌}
use mathlib.Core.List.{List}
use Prim.Native.Nat.{ℕ, zero, suc, ◌+◌, ◌*◌, ◌/◌, ◌%◌, ◌^◌, ◌<◌, ◌≤◌}
use native.Mathlib.Omega.{arith}
use native.Mathlib.Nat.{div-add-mod', mod-lt, zero-div}
use borrow.Author.Tests.{eqb-true}
use lib.Count.{ones}
use lib.Pow.{pow_pos}
use lib.Dec.{eqb}
use lib.ListN.{length, get_or, set, take, length-set}
use lib.Seq.{take_all, get_or-set_same, get_or-set_other, set-get_or, set_out, ext_get_or}
use native.Mathlib.Numerals.{add-one}
use Rattle.std.specs.List.{sum_by}
use Rattle.std.proofs.lemmas.List.Sums.{sum_by_more}
use Rattle.lists.specs.Search.{count_below}
use Rattle.lists.specs.Tables.{zeros}
use Rattle.lists.proofs.TableLaws.{zeros_length, zeros_at}
use Rattle.lists.proofs.SearchLaws.{all_at}
use Rattle.lists.proofs.CaseLaws.{lt_or_le, eq_or_ne}
use Rattle.lists.proofs.CountLaws.{count_ext, count_add, count_le}
use Rattle.digits.specs.Digits.{digit, is_set, set_digit}
use Rattle.digits.proofs.DigitLaws.{digit_mod, digit_set_same, digit_set_other, set_digit_lt}
use Rattle.digits.proofs.OnesLaws.{ones_count}
use Rattle.digits.proofs.MaskLaws.{digit_shl}
use Rattle.digits.proofs.WriteLaws.{digit_split}
use Rattle.words.specs.Packed.{bit_in}
use Rattle.words.proofs.PackedLaws.{bit_in_lt, bit_in_number, bits_in_ext}
use Rattle.codec.specs.Bits.{unit, bit_at, set_bit_in, set_bit, Fits, is_set_at, is_zero_at, is_empty, bit_count}
use Rattle.ports.specs.Lengths.{tile_numbers}

-- ---- u bits in a number

module _ (u : ℕ) (some : 0 < u) where
  same_place : (p q : ℕ) → q / u ≡ p / u → q % u ≡ p % u → q ≡ p
  same_place p q a b = sym (div-add-mod' q u) ∙ ap₂ (λ (x y : ℕ). x * u + y) a b ∙ div-add-mod' p u

  module _ (bits : List ℕ) (p v : ℕ) (hv : v < 2) where
    -- the number that v is written to
    abbrev new : ℕ
    new = set_digit (get_or bits (p / u) 0) (p % u) v

    in_set_same : p / u < length bits → bit_in u (set_bit_in u bits p v) p ≡ v
    unfolding bit_in set_bit_in
    in_set_same h = rw (get_or-set_same bits (p / u) new 0 h) (digit_set_same (get_or bits (p / u) 0) (p % u) v hv)

    in_set_other : (q : ℕ) → q ≢ p → bit_in u (set_bit_in u bits p v) q ≡ bit_in u bits q
    unfolding bit_in set_bit_in
    in_set_other q ne = ⊎_elim here away (eq_or_ne (q / u) (p / u))
      where
        away : q / u ≢ p / u → bit_in u (set_bit_in u bits p v) q ≡ bit_in u bits q
        away n = ap (λ (x : ℕ). digit x (q % u)) (get_or-set_other bits (p / u) (q / u) new 0 n)

        here : q / u ≡ p / u → bit_in u (set_bit_in u bits p v) q ≡ bit_in u bits q
        here e = ⊎_elim inside outside (lt_or_le (p / u) (length bits))
          where
            inside : p / u < length bits → bit_in u (set_bit_in u bits p v) q ≡ bit_in u bits q
            inside h =
                rw (e, get_or-set_same bits (p / u) new 0 h)
                (digit_set_other (get_or bits (p / u) 0) (p % u) v hv (q % u) (λ d. ne (same_place p q e d)))

            outside : length bits ≤ p / u → bit_in u (set_bit_in u bits p v) q ≡ bit_in u bits q
            outside h = ap (λ (l : List ℕ). bit_in u l q) (set_out bits (p / u) new h)

    in_set_fits : ((i : ℕ) → get_or bits i 0 < 2 ^ u) → (i : ℕ) → get_or (set_bit_in u bits p v) i 0 < 2 ^ u
    unfolding set_bit_in
    in_set_fits b i = ⊎_elim here away (eq_or_ne i (p / u))
      where
        away : i ≢ p / u → get_or (set_bit_in u bits p v) i 0 < 2 ^ u
        away n = subst (λ (x : ℕ). x < 2 ^ u) (sym (get_or-set_other bits (p / u) i new 0 n)) (b i)

        here : i ≡ p / u → get_or (set_bit_in u bits p v) i 0 < 2 ^ u
        here e = ⊎_elim inside outside (lt_or_le (p / u) (length bits))
          where
            inside : p / u < length bits → get_or (set_bit_in u bits p v) i 0 < 2 ^ u
            inside h =
                rw (e, get_or-set_same bits (p / u) new 0 h)
                (set_digit_lt (get_or bits (p / u) 0) (p % u) v hv u (mod-lt p some) (b (p / u)))

            outside : length bits ≤ p / u → get_or (set_bit_in u bits p v) i 0 < 2 ^ u
            outside h = subst (λ (l : List ℕ). get_or l i 0 < 2 ^ u) (sym (set_out bits (p / u) new h)) (b i)

  -- one number more: the ones more of its u digits
  ones_in_step : (bits : List ℕ) (i : ℕ)
      → count_below (λ (p : ℕ). eqb (bit_in u bits p) 1) (i * u + u) ≡ count_below (λ (p : ℕ). eqb (bit_in u bits p) 1) (i * u) + ones (get_or bits i 0 % 2 ^ u)
  ones_in_step bits i =
      count_add (λ (p : ℕ). eqb (bit_in u bits p) 1) (i * u) u
      ∙ ap (λ (x : ℕ). count_below (λ (p : ℕ). eqb (bit_in u bits p) 1) (i * u) + x)
      (count_ext (λ (j : ℕ). eqb (bit_in u bits (i * u + j)) 1) (is_set (get_or bits i 0 % 2 ^ u)) u
      (λ k l. ap (λ (x : ℕ). eqb x 1) (bit_in_number u some bits i k l ∙ sym (digit_mod (get_or bits i 0) u k l)))
      ∙ sym (ones_count u (get_or bits i 0 % 2 ^ u) (mod-lt (get_or bits i 0) (pow_pos u))))

-- ---- the bits of a tile

pub bit_lt : (bits : List ℕ) (p : ℕ) → bit_at bits p < 2
bit_lt bits p = bit_in_lt unit (omega arith) bits p

pub bit_of_zeros : (n p : ℕ) → bit_at (zeros n) p ≡ 0
unfolding bit_in
bit_of_zeros n p = rw (zeros_at n (p / unit)) (ap (λ (x : ℕ). x % 2) (zero-div (2 ^ (p % unit))))

-- a tile with no bit set has only zeros
pub empty_row : (bits : List ℕ) → is_empty bits ≡ true → (i : ℕ) → i < tile_numbers → get_or bits i 0 ≡ 0
empty_row bits e i h = eqb-true (get_or bits i 0) 0 (all_at (is_zero_at bits) 0 tile_numbers i e (omega arith) (omega arith))

pub empty_clear : (bits : List ℕ) → length bits ≡ tile_numbers → is_empty bits ≡ true → (p : ℕ) → bit_at bits p ≡ 0
empty_clear bits n e p =
    ap (λ (x : List ℕ). bit_at x p)
    (ext_get_or 0 bits (zeros tile_numbers) (n ∙ sym (zeros_length tile_numbers))
    (λ i l. empty_row bits e i (omega arith) ∙ sym (zeros_at tile_numbers i)))
    ∙ bit_of_zeros tile_numbers p

-- a position of the tile is in one of its lent numbers
pub position_within : {p n : ℕ} → p < 864 → n ≡ tile_numbers → p / unit < n
position_within h e = omega arith

-- the bits of row i
pub bit_of_row : (bits : List ℕ) (i k : ℕ) → k < unit → bit_at bits (unit * i + k) ≡ digit (get_or bits i 0) k
bit_of_row bits i k l = ap (λ (x : ℕ). bit_at bits (x + k)) (let e : unit * i ≡ i * unit = omega arith in e) ∙ bit_in_number unit (omega arith) bits i k l

-- a bit written over itself
pub set_bit_same : (bits : List ℕ) (p v : ℕ) → bit_at bits p ≡ v → set_bit bits p v ≡ bits
unfolding bit_in set_bit_in set_digit
set_bit_same bits p v e =
    let x : ℕ = get_or bits (p / unit) 0 in
    ap (λ (y : ℕ). set bits (p / unit) ((x / 2 ^ (1 + p % unit) * 2 + y) * 2 ^ (p % unit) + x % 2 ^ (p % unit))) (sym e)
    ∙ ap (set bits (p / unit)) (digit_split x (p % unit)) ∙ set-get_or bits (p / unit) 0

-- the row of a clear bit with v added at its place, as the code computes it
module _ (bits : List ℕ) (p v : ℕ) (hv : v < 2) (clear : bit_at bits p ≡ 0) where
  pub add_clear : get_or bits (p / unit) 0 + (v * 2 ^ (p % unit)) % 2 ^ 64 ≡ set_digit (get_or bits (p / unit) 0) (p % unit) v
  unfolding bit_in set_digit
  add_clear = omega (arith, digit_shl v (p % unit) 64 hv (omega arith), digit_split (get_or bits (p / unit) 0) (p % unit), ap (λ (x : ℕ). x * 2 ^ (p % unit)) clear)

  pub add_clear_lt : get_or bits (p / unit) 0 < 2 ^ 64 → get_or bits (p / unit) 0 + (v * 2 ^ (p % unit)) % 2 ^ 64 < 2 ^ 64
  add_clear_lt h = subst (λ (x : ℕ). x < 2 ^ 64) (sym add_clear) (set_digit_lt (get_or bits (p / unit) 0) (p % unit) v hv 64 (omega arith) h)

pub set_bit_length : (bits : List ℕ) (p v : ℕ) → length (set_bit bits p v) ≡ length bits
unfolding set_bit_in
set_bit_length bits p v = simp length-set

module _ (bits : List ℕ) (p v : ℕ) (hv : v < 2) where
  pub bit_set_same : p / unit < length bits → bit_at (set_bit bits p v) p ≡ v
  bit_set_same h = in_set_same unit (omega arith) bits p v hv h

  pub bit_set_other : (q : ℕ) → q ≢ p → bit_at (set_bit bits p v) q ≡ bit_at bits q
  bit_set_other q n = in_set_other unit (omega arith) bits p v hv q n

  pub set_bit_fits : Fits bits → Fits (set_bit bits p v)
  set_bit_fits b = in_set_fits unit (omega arith) bits p v hv b

-- two lists that agree at each bit are equal
pub bits_ext : (xs ys : List ℕ) → length xs ≡ length ys → Fits xs → Fits ys → ((p : ℕ) → p < length xs * unit → bit_at xs p ≡ bit_at ys p) → xs ≡ ys
bits_ext xs ys n bx by h = bits_in_ext unit (omega arith) xs ys n bx by h

-- one row more: its ones more
pub bit_count_step : (bits : List ℕ) (i : ℕ)
    → count_below (is_set_at (bit_at bits)) (unit * (i + 1)) ≡ count_below (is_set_at (bit_at bits)) (unit * i) + ones (get_or bits i 0 % 2 ^ unit)
bit_count_step bits i =
    ap (count_below (is_set_at (bit_at bits))) (let e : unit * (i + 1) ≡ i * unit + unit = omega arith in e)
    ∙ ones_in_step unit (omega arith) bits i
    ∙ ap (λ (x : ℕ). count_below (is_set_at (bit_at bits)) x + ones (get_or bits i 0 % 2 ^ unit)) (let e : i * unit ≡ unit * i = omega arith in e)

-- the ones of a row's columns
abbrev pub row_ones : ℕ → ℕ
row_ones row = ones (row % 2 ^ unit)

ones_of_rows : (bits : List ℕ) (n : ℕ) → n ≤ length bits → sum_by row_ones (take n bits) ≡ count_below (is_set_at (bit_at bits)) (unit * n)
unfolding count_below
ones_of_rows bits zero l = refl
ones_of_rows bits (suc n) l =
    let here = sum_by_more row_ones bits n 0 (omega arith) in
    let before = ones_of_rows bits n (omega arith) in
    let step = bit_count_step bits n in
    ap (λ (k : ℕ). sum_by row_ones (take k bits)) (sym (add-one n))
    ∙ (let e : sum_by row_ones (take (n + 1) bits) ≡ count_below (is_set_at (bit_at bits)) (unit * (n + 1)) = omega arith in e)
    ∙ ap (λ (k : ℕ). count_below (is_set_at (bit_at bits)) (unit * k)) (add-one n)

-- those of a tile's rows together are its set bits
pub bit_count_rows : (bits : List ℕ) → length bits ≡ tile_numbers → sum_by row_ones bits ≡ bit_count (bit_at bits)
bit_count_rows bits e =
    ap (sum_by row_ones) (sym (take_all tile_numbers bits (omega arith))) ∙ ones_of_rows bits tile_numbers (omega arith)

-- and few
pub row_ones_few : (bits : List ℕ) → length bits ≡ tile_numbers → sum_by row_ones bits < 2 ^ 32
row_ones_few bits e = omega (arith, bit_count_rows bits e, count_le (is_set_at (bit_at bits)) 864)
