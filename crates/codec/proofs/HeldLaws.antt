-- A tile of which one row is held apart: a row taken as it stands, and a clear bit added to it. Main laws: `held_there`, `held_added`. Assumes nothing.
use mathlib.Core.Path.{◌≡◌, sym, ap, ap₂, ◌∙◌, subst}
use mathlib.Core.List.{List}
use Prim.Native.Nat.{ℕ, ◌+◌, ◌*◌, ◌/◌, ◌%◌, ◌^◌, ◌<◌}
use native.Mathlib.Omega.{arith}
use lib.Bits.{bit_and}
use lib.ListN.{length, get_or, set}
use lib.Seq.{get_or-set_same, set-get_or, set-set}
use Rattle.digits.specs.Digits.{digit, set_digit}
use Rattle.digits.proofs.MaskLaws.{and_one}
use Rattle.codec.specs.declared.held.HeldRow.{HeldRow}
use Rattle.codec.specs.Bits.{unit, bit_at, set_bit, set_bit_in}
use Rattle.codec.specs.Held.{with_held}
use Rattle.codec.proofs.BitLaws.{add_clear, add_clear_lt}

-- a row held as it stands in the tile
pub held_there : (bits : List ℕ) (i : ℕ) → with_held bits (record { row = i; word = get_or bits i 0 }) ≡ bits
unfolding with_held
held_there bits i = set-get_or bits i 0

-- digit k of v added to a clear bit at p, whose row is held; c is its column
module _ (bits meant : List ℕ) (h : HeldRow) (inv : with_held bits h ≡ meant) (p v k c : ℕ) (here : h.row ≡ p / unit) (column : c ≡ p % unit)
    (within : h.row < length bits) (clear : bit_at meant p ≡ 0) where
  row_is : get_or meant (p / unit) 0 ≡ h.word
  unfolding with_held
  row_is = rw (sym inv, sym here) (get_or-set_same bits h.row h.word 0 within)

  -- the row with the digit, as the code computes it
  abbrev added : ℕ
  added = h.word + (bit_and (v / 2 ^ k) 1 * 2 ^ c) % 2 ^ 64

  added_is : added ≡ get_or meant (p / unit) 0 + (digit v k * 2 ^ (p % unit)) % 2 ^ 64
  added_is = rw (row_is, and_one (v / 2 ^ k), column)

  pub held_added_lt : h.word < 2 ^ 64 → added < 2 ^ 64
  held_added_lt l =
      subst (λ (x : ℕ). x < 2 ^ 64) (sym added_is)
      (add_clear_lt meant p (digit v k) (omega arith) clear (subst (λ (x : ℕ). x < 2 ^ 64) (sym row_is) l))

  pub held_added : with_held bits (record { row = h.row; word = added }) ≡ set_bit meant p (digit v k)
  unfolding with_held set_bit_in
  held_added =
      let new : ℕ = set_digit (get_or meant (p / unit) 0) (p % unit) (digit v k) in
      ap (set bits h.row) (added_is ∙ add_clear meant p (digit v k) (omega arith) clear)
      ∙ sym (set-set bits h.row h.word new) ∙ ap₂ (λ (l : List ℕ) (r : ℕ). set l r new) inv here
