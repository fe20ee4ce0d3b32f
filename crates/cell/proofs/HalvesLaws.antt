-- What a choice leaves of the bits, and where the wanted bit is after each of the four. Main law: `by_halves`.
use mathlib.Core.Path.{◌≡◌, ap, ◌∙◌}
use Prim.Native.Nat.{ℕ, zero, suc, ◌+◌, ◌-◌, ◌*◌, ◌/◌, ◌%◌, ◌^◌, ◌<◌, ◌≤◌}
use native.Mathlib.Omega.{arith}
use native.Mathlib.Nat.{mod-lt}
use lib.Bits.{bit_and, and_mask}
use lib.Pow.{pow_pos, shr-shr}
use Rattle.digits.specs.Digits.{digit}
use Rattle.digits.proofs.DigitLaws.{digit_mod}
use Rattle.digits.proofs.MaskLaws.{one_shl}
use Rattle.cell.specs.Lookup.{lookup_bit}
use Rattle.cell.specs.Halves.{halved, ByHalves}

-- a choice shifts by 0 or by n
pub shift_le : (choice : ℕ) {n : ℕ} → choice < 2 → n ≤ 8 → choice * n ≤ 8
shift_le zero c h = omega arith
shift_le (suc zero) c h = omega arith
shift_le (suc (suc choice)) c h = absurd (omega arith)

-- as the code has it: the bits shifted down, and a mask of n ones
pub halved_mask : (bits choice n : ℕ) → n < 16 → bit_and (bits / 2 ^ (choice * n)) ((1 * 2 ^ n) % 2 ^ 16 - 1) ≡ halved bits choice n
unfolding halved
halved_mask bits choice n h =
    ap (λ (x : ℕ). bit_and (bits / 2 ^ (choice * n)) (x - 1)) (one_shl n 16 h) ∙ and_mask (bits / 2 ^ (choice * n)) n

-- no more than n bits are left
pub halved_lt : (bits choice n : ℕ) → halved bits choice n < 2 ^ n
unfolding halved
halved_lt bits choice n = mod-lt (bits / 2 ^ (choice * n)) (pow_pos n)

-- and these are the n from choice · n on
pub halved_among : (bits choice n i : ℕ) → i < n → digit (halved bits choice n) i ≡ digit bits (choice * n + i)
unfolding halved
halved_among bits choice n i h = digit_mod (bits / 2 ^ (choice * n)) n i h ∙ ap (λ (x : ℕ). x % 2) (shr-shr bits (choice * n) i)

-- a choice between two bits leaves the one that it names
pub halved_one : (bits choice : ℕ) → halved bits choice 1 ≡ digit bits choice
unfolding halved
halved_one bits choice = ap (λ (x : ℕ). bits / 2 ^ x % 2) (let e : choice * 1 ≡ choice = omega arith in e)

module _ {table in0 in1 in2 in3 eight four two one : ℕ} (b0 : in0 < 2) (b1 : in1 < 2) (b2 : in2 < 2)
    (picks-eight : (i : ℕ) → i < 8 → digit eight i ≡ digit table (in3 * 8 + i))
    (picks-four : (i : ℕ) → i < 4 → digit four i ≡ digit eight (in2 * 4 + i))
    (picks-two : (i : ℕ) → i < 2 → digit two i ≡ digit four (in1 * 2 + i))
    (picks-one : one ≡ digit two in0) where
  -- "after each choice the bit wanted is the one the remaining inputs index among those left". Each line goes back to the one above it.
  pub by_halves : ByHalves table in0 in1 in2 in3 eight four two one
  unfolding lookup_bit
  by_halves = record { after_in3 = in3_done; after_in2 = in2_done; after_in1 = in1_done; after_in0 = picks-one ∙ in1_done }
    where
      in3_done : digit eight (in2 * 4 + in1 * 2 + in0) ≡ lookup_bit table in0 in1 in2 in3
      in3_done =
          picks-eight (in2 * 4 + in1 * 2 + in0) (omega arith)
          ∙ ap (digit table) (let e : in3 * 8 + (in2 * 4 + in1 * 2 + in0) ≡ in3 * 8 + in2 * 4 + in1 * 2 + in0 = omega arith in e)

      in2_done : digit four (in1 * 2 + in0) ≡ lookup_bit table in0 in1 in2 in3
      in2_done =
          picks-four (in1 * 2 + in0) (omega arith)
          ∙ ap (digit eight) (let e : in2 * 4 + (in1 * 2 + in0) ≡ in2 * 4 + in1 * 2 + in0 = omega arith in e)
          ∙ in3_done

      in1_done : digit two in0 ≡ lookup_bit table in0 in1 in2 in3
      in1_done = picks-two in0 b0 ∙ in2_done
