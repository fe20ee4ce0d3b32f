-- Both forms carry the same bits. Main laws: `bytes_back`, `words_back`; `bits_same`: the words of bytes have the bytes' bits, at every position;
-- `tile_same`: a tile is read the same in both forms. Assumes nothing.
use mathlib.Core.Path.{◌≡◌, sym, ap, ap₂, ◌∙◌, subst, fun_ext}
use mathlib.Core.Logic.{⊎_elim}
use mathlib.Core.Bool.{Bool, false}
use mathlib.Core.List.{List}
use Prim.Native.Nat.{ℕ, ◌+◌, ◌*◌, ◌^◌, ◌<◌, ◌≤◌}
use native.Mathlib.Omega.{arith}
use borrow.Author.Tests.{lt-leb, leb-false}
use lib.Dec.{leb}
use lib.ListN.{length, get_or, get_or-eq_default}
use Rattle.lists.specs.Parts.{part}
use Rattle.lists.proofs.CaseLaws.{lt_or_le}
use Rattle.lists.proofs.SearchLaws.{first_before}
use Rattle.lists.proofs.PartLaws.{part_each}
use Rattle.words.specs.Packed.{bit_in, packed, FitsIn}
use Rattle.ports.specs.Lengths.{columns, tile_numbers, tile_bytes}
use Rattle.words.specs.Forms.{byte_bits, words_of, bytes_of, of_words, of_bytes, tiles_of_words, tiles_of_bytes, past_columns}
use Rattle.words.specs.Stray.{first_stray}
use Rattle.words.proofs.PackedLaws.{bit_in_lt, packed_length, packed_fits, packed_back, bit_packed, bit_packed_past, bit_past, bit_in_part, bit_past_part}

module _ (n : ℕ) (bytes : List ℕ) where
  pub words_length : length (words_of n bytes) ≡ tile_numbers * n
  unfolding words_of
  words_length = packed_length columns (omega arith) (bit_in byte_bits bytes) (bit_in_lt byte_bits (omega arith) bytes) (tile_numbers * n)

  pub words_fit : FitsIn columns (words_of n bytes)
  unfolding words_of
  words_fit = packed_fits columns (omega arith) (bit_in byte_bits bytes) (bit_in_lt byte_bits (omega arith) bytes) (tile_numbers * n)

  -- the bit at 864t + p is the same in both forms
  pub bit_of_words : (p : ℕ) → p < 864 * n → bit_in columns (words_of n bytes) p ≡ bit_in byte_bits bytes p
  unfolding words_of
  bit_of_words p h = bit_packed columns (omega arith) (bit_in byte_bits bytes) (bit_in_lt byte_bits (omega arith) bytes) (tile_numbers * n) p (omega arith)

  -- and past the last tile both have none
  pub bits_same : length bytes ≡ tile_bytes * n → bit_in columns (words_of n bytes) ≡ bit_in byte_bits bytes
  unfolding words_of
  bits_same e = fun_ext (λ p. ⊎_elim (bit_of_words p) (past p) (lt_or_le p (864 * n)))
    where
      past : (p : ℕ) → 864 * n ≤ p → bit_in columns (words_of n bytes) p ≡ bit_in byte_bits bytes p
      past p h =
          bit_packed_past columns (omega arith) (bit_in byte_bits bytes) (bit_in_lt byte_bits (omega arith) bytes) (tile_numbers * n) p (omega arith)
          ∙ sym (bit_past byte_bits (omega arith) bytes (tile_bytes * n) p (omega arith) (omega arith))

  pub bytes_back : length bytes ≡ tile_bytes * n → FitsIn byte_bits bytes → bytes_of n (words_of n bytes) ≡ bytes
  unfolding bytes_of
  bytes_back e fits =
      ap (λ (f : ℕ → ℕ). packed byte_bits f (tile_bytes * n)) (bits_same e) ∙ packed_back byte_bits (omega arith) bytes (tile_bytes * n) e fits

module _ (n : ℕ) (words : List ℕ) where
  pub bytes_length_lem : length (bytes_of n words) ≡ tile_bytes * n
  unfolding bytes_of
  bytes_length_lem = packed_length byte_bits (omega arith) (bit_in columns words) (bit_in_lt columns (omega arith) words) (tile_bytes * n)

  pub bytes_fit : FitsIn byte_bits (bytes_of n words)
  unfolding bytes_of
  bytes_fit = packed_fits byte_bits (omega arith) (bit_in columns words) (bit_in_lt columns (omega arith) words) (tile_bytes * n)

  pub bit_of_bytes : (p : ℕ) → p < 864 * n → bit_in byte_bits (bytes_of n words) p ≡ bit_in columns words p
  unfolding bytes_of
  bit_of_bytes p h = bit_packed byte_bits (omega arith) (bit_in columns words) (bit_in_lt columns (omega arith) words) (tile_bytes * n) p (omega arith)

  pub bits_same_back : length words ≡ tile_numbers * n → bit_in byte_bits (bytes_of n words) ≡ bit_in columns words
  unfolding bytes_of
  bits_same_back e = fun_ext (λ p. ⊎_elim (bit_of_bytes p) (past p) (lt_or_le p (864 * n)))
    where
      past : (p : ℕ) → 864 * n ≤ p → bit_in byte_bits (bytes_of n words) p ≡ bit_in columns words p
      past p h =
          bit_packed_past byte_bits (omega arith) (bit_in columns words) (bit_in_lt columns (omega arith) words) (tile_bytes * n) p (omega arith)
          ∙ sym (bit_past columns (omega arith) words (tile_numbers * n) p (omega arith) (omega arith))

  pub words_back : length words ≡ tile_numbers * n → FitsIn columns words → words_of n (bytes_of n words) ≡ words
  unfolding words_of
  words_back e fits =
      ap (λ (f : ℕ → ℕ). packed columns f (tile_numbers * n)) (bits_same_back e) ∙ packed_back columns (omega arith) words (tile_numbers * n) e fits

-- ---- a tile of a block

-- words that fit have nothing past their columns
pub past_none : (words : List ℕ) → FitsIn columns words → (r : ℕ) → leb (2 ^ columns) (get_or words r 0) ≡ false
past_none words fits r = lt-leb (2 ^ columns) (get_or words r 0) (fits r)

-- each tile is read the same in both forms: so are its settings, its faults and all answers, which are functions of what is read
module _ (n : ℕ) (bytes : List ℕ) (long : length bytes ≡ tile_bytes * n) where
  tile_bit_same : (t p : ℕ) → bit_in columns (part tile_numbers t (words_of n bytes)) p ≡ bit_in byte_bits (part tile_bytes t bytes) p
  tile_bit_same t p = ⊎_elim inside outside (lt_or_le p 864)
    where
      inside : p < 864 → bit_in columns (part tile_numbers t (words_of n bytes)) p ≡ bit_in byte_bits (part tile_bytes t bytes) p
      inside l =
          bit_in_part columns (omega arith) tile_numbers t (words_of n bytes) p (omega arith)
          ∙ ap (λ (f : ℕ → ℕ). f (tile_numbers * t * columns + p)) (bits_same n bytes long)
          ∙ ap (bit_in byte_bits bytes) (let e : tile_numbers * t * columns + p ≡ tile_bytes * t * byte_bits + p = omega arith in e)
          ∙ sym (bit_in_part byte_bits (omega arith) tile_bytes t bytes p (omega arith))

      outside : 864 ≤ p → bit_in columns (part tile_numbers t (words_of n bytes)) p ≡ bit_in byte_bits (part tile_bytes t bytes) p
      outside l =
          bit_past_part columns (omega arith) tile_numbers t (words_of n bytes) p (omega arith)
          ∙ sym (bit_past_part byte_bits (omega arith) tile_bytes t bytes p (omega arith))

  tile_past_same : (t r : ℕ) → leb (2 ^ columns) (get_or (part tile_numbers t (words_of n bytes)) r 0) ≡ false
  tile_past_same t = past_none (part tile_numbers t (words_of n bytes)) (part_each (λ (x : ℕ). x < 2 ^ columns) (omega arith) tile_numbers t (words_of n bytes) (words_fit n bytes))

  pub tile_same : (t : ℕ) → of_words (part tile_numbers t (words_of n bytes)) ≡ of_bytes (part tile_bytes t bytes)
  tile_same t = ap₂ (λ (b : ℕ → ℕ) (q : ℕ → Bool). record { bit = b; past = q }) (fun_ext (tile_bit_same t)) (fun_ext (tile_past_same t))

  -- the block as its tiles
  pub tiles_same : tiles_of_words (words_of n bytes) ≡ tiles_of_bytes bytes
  tiles_same = fun_ext tile_same

-- words of which none is stray fit
pub no_stray_fits : (words : List ℕ) → first_stray words ≡ length words → FitsIn columns words
no_stray_fits words e i = ⊎_elim inside outside (lt_or_le i (length words))
  where
    inside : i < length words → get_or words i 0 < 2 ^ columns
    inside l = leb-false (2 ^ columns) (get_or words i 0) (first_before (past_columns words) 0 (length words) i (omega arith) (omega arith))

    outside : length words ≤ i → get_or words i 0 < 2 ^ columns
    outside l = subst (λ (x : ℕ). x < 2 ^ columns) (sym (get_or-eq_default words 0 l)) (omega arith)
