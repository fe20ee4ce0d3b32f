-- A run of slots holds the digits of one number: a cell's bits, a field, a group's positions. Main laws: `run_written`: writing the number
-- writes the run, which was clear (`run_clear`); `run_back`: it is read back; `all_written`: what all runs together have written. Assumes nothing.
use mathlib.Core.Path.{◌≡◌, sym, ap, ◌∙◌, subst}
use mathlib.Core.Logic.{⊎_elim}
use mathlib.Core.Bool.{true, false}
use mathlib.Core.List.{List}
use Prim.Native.Nat.{ℕ, ◌+◌, ◌-◌, ◌^◌, ◌<◌, ◌≤◌}
use native.Mathlib.Omega.{arith}
use lib.ListN.{length, get_or}
use Rattle.lists.specs.Tables.{zeros}
use Rattle.lists.proofs.CaseLaws.{clash, lt_or_le}
use Rattle.lists.proofs.SearchLaws.{first_before}
use Rattle.lists.proofs.TableLaws.{zeros_length, zeros_at}
use Rattle.digits.specs.Digits.{digit, from_digits}
use Rattle.digits.proofs.DigitLaws.{from_digits_ext, from_digits_all, digit_from_digits}
use Rattle.routing.specs.Slots.{Slots, claims, Once}
use Rattle.routing.proofs.OwnerLaws.{claims_it}
use Rattle.ports.specs.Lengths.{tile_numbers}
use Rattle.codec.specs.Bits.{bit_at, set_bits}
use Rattle.codec.specs.Encode.{bits_of}
use Rattle.codec.specs.Writing.{Written}
use Rattle.codec.proofs.BitLaws.{bit_lt, bit_of_zeros, position_within}
use Rattle.codec.proofs.SetBitsLaws.{set_bits_length, set_bits_fits, set_bits_other, set_bits_at}
use Rattle.codec.proofs.EncodeLaws.{encode_slot, encode_is}

-- w slots from m on, of which the first n are used, stand at the positions `at` and hold the digits of v
pub record Run (S : Slots) (value : ℕ → ℕ) (m w n : ℕ) (at : ℕ → ℕ) (v : ℕ) : Type 0 where
  pub within : m + w ≤ S.count
  pub some : n ≤ w
  pub on : (k : ℕ) → k < n → S.used (m + k) ≡ true
  pub off : (k : ℕ) → k < w → n ≤ k → S.used (m + k) ≡ false
  pub stands : (k : ℕ) → k < n → S.at (m + k) ≡ at k
  pub in_tile : (k : ℕ) → k < n → at k < 864
  pub holds : (k : ℕ) → k < n → value (m + k) ≡ digit v k

module _ (S : Slots) (value : ℕ → ℕ) (m w n : ℕ) (at : ℕ → ℕ) (v : ℕ) (R : Run S value m w n at v) where
  -- a used slot of the run is one of the n
  early : (k : ℕ) → k < w → S.used (m + k) ≡ true → k < n
  early k h u = ⊎_elim (λ (l : k < n). l) (λ (l : n ≤ k). clash u (R.off k h l)) (lt_or_le k n)

  -- bits that read to v hold the run
  pub run_held : (bits : List ℕ) → v ≡ from_digits (λ (k : ℕ). bit_at bits (at k)) n → (k : ℕ) → k < n → bit_at bits (S.at (m + k)) ≡ value (m + k)
  run_held bits e k l =
      ap (bit_at bits) (R.stands k l)
      ∙ sym (digit_from_digits (λ (j : ℕ). bit_at bits (at j)) (λ j. bit_lt bits (at j)) n k l)
      ∙ ap (λ (x : ℕ). digit x k) (sym e) ∙ sym (R.holds k l)

  module _ (once : Once S) where
    distinct : (i j : ℕ) → i < n → j < n → at i ≡ at j → i ≡ j
    distinct i j a b e =
        omega (
          arith,
          once (m + i) (m + j) (omega (arith, R.within, R.some)) (omega (arith, R.within, R.some)) (R.on i a) (R.on j b)
              (R.stands i a ∙ e ∙ sym (R.stands j b)),
        )

    -- what is written is read back
    pub run_back : ((s : ℕ) → value s < 2) → v < 2 ^ n → from_digits (λ (k : ℕ). bit_at (bits_of S value) (at k)) n ≡ v
    run_back two h =
        from_digits_ext (λ (k : ℕ). bit_at (bits_of S value) (at k)) (digit v) n
        (λ k l. ap (bit_at (bits_of S value)) (sym (R.stands k l))
        ∙ encode_slot S value two once (m + k) (omega (arith, R.within, R.some)) (R.on k l)
        (subst (λ (p : ℕ). p < 864) (sym (R.stands k l)) (R.in_tile k l))
        ∙ R.holds k l)
        ∙ from_digits_all v n h

    module _ (bits : List ℕ) (W : Written S value m bits) where
      written_held : (s : ℕ) → s < m + w → S.used s ≡ true → bit_at (set_bits bits at v n) (S.at s) ≡ value s
      written_held s h u = ⊎_elim before inside (lt_or_le s m)
        where
          before : s < m → bit_at (set_bits bits at v n) (S.at s) ≡ value s
          before l =
              set_bits_other bits at v n (S.at s)
              (λ k a e. omega (
                arith,
                once s (m + k) (omega (arith, R.within)) (omega (arith, R.within, R.some)) u (R.on k a)
                    (e ∙ sym (R.stands k a)),
                R.within,
              ))
              ∙ W.held s l u

          inside : m ≤ s → bit_at (set_bits bits at v n) (S.at s) ≡ value s
          inside l =
              let e : m + (s - m) ≡ s = omega arith in
              let k : s - m < n = early (s - m) (omega arith) (subst (λ (x : ℕ). S.used x ≡ true) (sym e) u) in
              ap (λ (x : ℕ). bit_at (set_bits bits at v n) (S.at x)) (sym e)
              ∙ ap (bit_at (set_bits bits at v n)) (R.stands (s - m) k)
              ∙ set_bits_at bits at v n (s - m) k distinct (λ i a. position_within (R.in_tile i a) W.long)
              ∙ sym (R.holds (s - m) k) ∙ ap value e

      -- before it is written, the run is clear
      pub run_clear : (k : ℕ) → k < n → bit_at bits (at k) ≡ 0
      run_clear k l =
          W.clear (at k) (R.in_tile k l)
          (λ s h u e. omega (
            arith,
            once s (m + k) (omega (arith, R.within)) (omega (arith, R.within, R.some)) u (R.on k l) (e ∙ sym (R.stands k l)),
          ))

      pub run_written : Written S value (m + w) (set_bits bits at v n)
      run_written = record {
        long = set_bits_length bits at v n ∙ W.long;
        fits = set_bits_fits bits at v W.fits n;
        held = written_held;
        clear = λ p h none.
            set_bits_other bits at v n p (λ k a e. none (m + k) (omega (arith, R.some)) (R.on k a) (R.stands k a ∙ sym e))
            ∙ W.clear p h (λ s l. none s (omega arith));
      }

module _ (S : Slots) (value : ℕ → ℕ) where
  -- nothing is written yet
  pub none_written : (bits : List ℕ) (n : ℕ) → n ≡ tile_numbers → bits ≡ zeros n → Written S value 0 bits
  none_written bits n l e = record {
    long = ap length e ∙ zeros_length n ∙ l;
    fits = λ i. omega (arith, zero_at i);
    held = λ s h. absurd (omega arith);
    clear = λ p h f. ap (λ (x : List ℕ). bit_at x p) e ∙ bit_of_zeros n p;
  }
    where
      zero_at : (i : ℕ) → get_or bits i 0 ≡ 0
      zero_at i = ap (λ (x : List ℕ). get_or x i 0) e ∙ zeros_at n i

  -- slots that are not used are passed over
  pub skip_written : (m w : ℕ) (bits : List ℕ) → ((s : ℕ) → m ≤ s → s < m + w → S.used s ≡ false) → Written S value m bits → Written S value (m + w) bits
  skip_written m w bits off W = record {
    long = W.long;
    fits = W.fits;
    held = λ s h u. ⊎_elim (λ (l : s < m). W.held s l u) (λ (l : m ≤ s). clash u (off s l h)) (lt_or_le s m);
    clear = λ p h none. W.clear p h (λ s l. none s (omega arith));
  }

  -- all is written
  pub all_written : ((s : ℕ) → value s < 2) → (bits : List ℕ) → Written S value S.count bits → bits ≡ bits_of S value
  all_written two bits W =
      encode_is S value two bits W.long W.fits W.held
      (λ p h o. W.clear p h (λ s l u e. clash (claims_it S p s u e) (first_before (claims S p) 0 S.count s (omega arith) (omega arith))))
