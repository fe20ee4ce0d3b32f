-- The bits of a tile whose slots hold values. Main laws: `encode_slot`: written, then read; `encode_is`: read, then written. Assumes nothing.
use mathlib.Core.Path.{◌≡◌, sym, ap, ◌∙◌}
use mathlib.Core.Logic.{⊎_elim}
use mathlib.Core.Bool.{Bool, true, false, cond}
use mathlib.Core.List.{List}
use Prim.Native.Nat.{ℕ, ◌<◌, ◌≤◌}
use native.Mathlib.Omega.{arith}
use borrow.Author.Tests.{lt-ltb, le-ltb}
use lib.Dec.{ltb}
use lib.ListN.{length}
use Rattle.lists.proofs.CaseLaws.{lt_or_le}
use Rattle.lists.proofs.SearchLaws.{first_true}
use Rattle.routing.specs.Slots.{Slots, claims, owner, Once}
use Rattle.routing.proofs.OwnerLaws.{claims_at, claims_used, owner_is}
use Rattle.words.proofs.PackedLaws.{packed_length, packed_fits, bit_packed}
use Rattle.codec.specs.Bits.{unit, bit_at, Fits}
use Rattle.ports.specs.Lengths.{tile_numbers}
use Rattle.codec.specs.Encode.{owned_bit, bits_of}
use Rattle.codec.proofs.BitLaws.{bits_ext}

module _ (S : Slots) (value : ℕ → ℕ) (two : (s : ℕ) → value s < 2) where
  owned_bit_lt : (p : ℕ) → owned_bit S value p < 2
  owned_bit_lt p = go (ltb (owner S p) S.count)
    where
      go : (b : Bool) → cond b (value (owner S p)) 0 < 2
      go true = two (owner S p)
      go false = omega arith

  pub encode_length : length (bits_of S value) ≡ tile_numbers
  unfolding bits_of
  encode_length = packed_length unit (omega arith) (owned_bit S value) owned_bit_lt tile_numbers

  -- the bits of the tile are those that the owners say
  pub encode_bit : (p : ℕ) → p < 864 → bit_at (bits_of S value) p ≡ owned_bit S value p
  unfolding bits_of
  encode_bit p h = bit_packed unit (omega arith) (owned_bit S value) owned_bit_lt tile_numbers p (omega arith)

  pub encode_fits : Fits (bits_of S value)
  unfolding bits_of
  encode_fits = packed_fits unit (omega arith) (owned_bit S value) owned_bit_lt tile_numbers

  -- a position that nothing claims
  pub encode_unclaimed : (p : ℕ) → p < 864 → S.count ≤ owner S p → bit_at (bits_of S value) p ≡ 0
  encode_unclaimed p h l = encode_bit p h ∙ rw (le-ltb (owner S p) S.count l)

  -- written, then read: each slot's bit is what was to be put there
  pub encode_slot : Once S → (s : ℕ) → s < S.count → S.used s ≡ true → S.at s < 864 → bit_at (bits_of S value) (S.at s) ≡ value s
  encode_slot once s h u l =
      encode_bit (S.at s) l
      ∙ (let e : owner S (S.at s) ≡ s = owner_is S once s h u in rw (e, lt-ltb s S.count h))

  -- read, then written: bits that are 0 where nothing claims them, and whose slots hold the values, are those bits
  pub encode_is : (bits : List ℕ) → length bits ≡ tile_numbers → Fits bits
      → ((s : ℕ) → s < S.count → S.used s ≡ true → bit_at bits (S.at s) ≡ value s)
      → ((p : ℕ) → p < 864 → S.count ≤ owner S p → bit_at bits p ≡ 0)
      → bits ≡ bits_of S value
  encode_is bits n fits held stray =
      bits_ext bits (bits_of S value) (n ∙ sym encode_length) fits encode_fits (λ p h. same p (omega arith) ∙ sym (encode_bit p (omega arith)))
    where
      same : (p : ℕ) → p < 864 → bit_at bits p ≡ owned_bit S value p
      same p h = ⊎_elim owned free (lt_or_le (owner S p) S.count)
        where
          owned : owner S p < S.count → bit_at bits p ≡ owned_bit S value p
          owned l =
              let c : claims S p (owner S p) ≡ true = first_true (claims S p) 0 S.count (omega arith) in
              ap (bit_at bits) (sym (claims_at S p (owner S p) c)) ∙ held (owner S p) l (claims_used S p (owner S p) c)
              ∙ rw (lt-ltb (owner S p) S.count l)

          free : S.count ≤ owner S p → bit_at bits p ≡ owned_bit S value p
          free l = stray p h l ∙ rw (le-ltb (owner S p) S.count l)
