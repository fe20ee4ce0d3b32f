-- The tiles of a block that was decoded or encoded, and what the tests of a tile say of it. Main laws: `decoded_at_lem`, `decoded_reads`, `tiles_read_one`,
-- `decoded_is`; `encoded_at_lem`, `encoded_reads`, `encoded_is`; `bitless_lowest`, `bitless_is`, `none_bitless`, `bits_none`. Assumes nothing.
use mathlib.Core.Path.{◌≡◌, sym, subst, ap, ◌∙◌}
use mathlib.Core.Bool.{true, not}
use mathlib.Core.Logic.{⊎_elim}
use mathlib.Core.List.{List, ◌++◌}
use Prim.Native.Nat.{ℕ, zero, suc, ◌+◌, ◌-◌, ◌*◌, ◌^◌, ◌<◌, ◌≤◌}
use native.Mathlib.Omega.{arith}
use borrow.Author.Tests.{not-true, not-false}
use lib.ListN.{length, take, get_or, get_or-append}
use lib.Seq.{length-take-le, get_or-append-add}
use Rattle.lists.specs.Parts.{joined}
use Rattle.lists.proofs.CaseLaws.{clash, test_false, lt_or_le}
use Rattle.lists.proofs.SearchLaws.{first_at, first_none, first_true, first_before}
use Rattle.lists.proofs.PartLaws.{part_length, joined_length, part_joined, joined_is}
use Rattle.routing.specs.LogicTile.{logic_tile}
use Rattle.routing.specs.Rules.{TableRules}
use Rattle.routing.specs.Slots.{slots_of}
use Rattle.ports.specs.Lengths.{tile_numbers, settings_length}
use Rattle.codec.specs.Bits.{unit, bit_at, tile_of, Fits}
use Rattle.codec.specs.Reading.{Decodable, ReadsTo, HasBits}
use Rattle.codec.specs.Decode.{decode}
use Rattle.codec.specs.Encode.{encode, slot_value}
use Rattle.codec.specs.Limits.{settings_fit}
use Rattle.codec.specs.Writing.{Writable}
use Rattle.codec.proofs.DecodeLaws.{decode_length}
use Rattle.codec.proofs.EncodeLaws.{encode_length, encode_fits}
use Rattle.codec.proofs.TileRunLaws.{slot_value_lt}
use Rattle.codec.proofs.ReadingLaws.{decode_reads, reads_unique, settings_fit_exact}
use Rattle.codec.proofs.SettingsBack.{settings_back, encode_decodable}
use Rattle.codec.proofs.BitsBack.{bits_back}
use Rattle.config.specs.Blocks.{bits_at, settings_at, room_length, decoded_at, decoded, bitless_at, bitless_tile, encoded_at, encoded, tiles_of}
use Rattle.config.specs.Facts.{LowestBitless, TilesRead}

-- the bits, and the settings, of a tile have a tile's length
pub bits_at_length : (bits : List ℕ) (n t : ℕ) → length bits ≡ tile_numbers * n → t < n → length (bits_at bits t) ≡ tile_numbers
bits_at_length bits n t e h = part_length tile_numbers t n bits e (omega arith)

pub settings_at_length : (settings : List ℕ) (n t : ℕ) → length settings ≡ settings_length * n → t < n
    → length (settings_at settings t) ≡ settings_length
settings_at_length settings n t e h = part_length settings_length t n settings e (omega arith)

-- the front of the room that reading decodes into, as long as the settings of n tiles
pub front_length : (n k : ℕ) (room : List ℕ) → n ≤ 64 → k ≡ settings_length * n → length room ≡ room_length → length (take k room) ≡ k
front_length n k room few e long = length-take-le k room (omega arith)

-- ---- bits to settings

module _ (table bits : List ℕ) (n : ℕ) where
  decoded_tile : (t : ℕ) → t < n → length (decoded_at table (tiles_of bits) t) ≡ settings_length
  unfolding decoded_at
  decoded_tile t h = decode_length table (bits_at bits t)

  pub decoded_length : length (decoded table (tiles_of bits) n) ≡ settings_length * n
  decoded_length = joined_length settings_length (decoded_at table (tiles_of bits)) n decoded_tile

  pub decoded_at_lem : (t : ℕ) → t < n → settings_at (decoded table (tiles_of bits) n) t ≡ decode table (bit_at (bits_at bits t))
  unfolding decoded_at
  decoded_at_lem t h = part_joined settings_length (decoded_at table (tiles_of bits)) n t h decoded_tile

  module _ (T : TableRules logic_tile table) where
    -- what is decoded is what the bits read to
    pub decoded_reads : ((t : ℕ) → t < n → Decodable table (tiles_of bits t)) → TilesRead table (tiles_of bits) (decoded table (tiles_of bits) n) n
    decoded_reads clean = record {
      decodable = clean;
      reads = λ t l. subst (ReadsTo table (bit_at (bits_at bits t))) (sym (decoded_at_lem t l)) (decode_reads table (bits_at bits t) T);
    }

    -- and nothing else: tiles read to one settings only
    pub tiles_read_one : (a b : List ℕ) → TilesRead table (tiles_of bits) a n → TilesRead table (tiles_of bits) b n → (t : ℕ) → t < n → settings_at a t ≡ settings_at b t
    tiles_read_one a b x y t l = reads_unique table (bits_at bits t) T (x.decodable t l) (settings_at a t) (settings_at b t) (x.reads t l) (y.reads t l)

    -- what they read to is what is decoded
    pub decoded_is : (a : List ℕ) → length a ≡ settings_length * n → TilesRead table (tiles_of bits) a n → decoded table (tiles_of bits) n ≡ a
    unfolding decoded_at
    decoded_is a long x =
        joined_is settings_length n (decoded_at table (tiles_of bits)) a long
        (λ t l. reads_unique table (bits_at bits t) T (x.decodable t l) _ _ (decode_reads table (bits_at bits t) T) (x.reads t l))

-- ---- settings to bits

-- rows that fit their columns behind others, and parts of such rows, joined
append_fits : (front back : List ℕ) → Fits front → Fits back → Fits (front ++ back)
append_fits front back F B i = ⊎_elim within behind (lt_or_le i (length front))
  where
    within : i < length front → get_or (front ++ back) i 0 < 2 ^ unit
    within l = rw (get_or-append front back 0 i l) (F i)

    behind : length front ≤ i → get_or (front ++ back) i 0 < 2 ^ unit
    behind l =
        subst (λ (k : ℕ). get_or (front ++ back) k 0 < 2 ^ unit) (let e : length front + (i - length front) ≡ i = omega arith in e)
        (rw (get_or-append-add front back (i - length front) 0) (B (i - length front)))

joined_fits : (f : ℕ → List ℕ) (n : ℕ) → ((t : ℕ) → t < n → Fits (f t)) → Fits (joined f n)
unfolding joined
joined_fits f zero by = λ i. omega arith
joined_fits f (suc n) by = append_fits (joined f n) (f n) (joined_fits f n (λ t h. by t (omega arith))) (by n (omega arith))

module _ (table settings : List ℕ) (n : ℕ) where
  encoded_tile : (t : ℕ) → t < n → length (encoded_at table settings t) ≡ tile_numbers
  unfolding encoded_at
  encoded_tile t h = encode_length (slots_of logic_tile table) (slot_value table (settings_at settings t)) (slot_value_lt table (settings_at settings t))

  pub encoded_length : length (encoded table settings n) ≡ tile_numbers * n
  encoded_length = joined_length tile_numbers (encoded_at table settings) n encoded_tile

  pub encoded_fits : Fits (encoded table settings n)
  unfolding encoded_at
  encoded_fits =
      joined_fits (encoded_at table settings) n
      (λ t h. encode_fits (slots_of logic_tile table) (slot_value table (settings_at settings t)) (slot_value_lt table (settings_at settings t)))

  pub encoded_at_lem : (t : ℕ) → t < n → bits_at (encoded table settings n) t ≡ encode table (settings_at settings t)
  unfolding encoded_at
  encoded_at_lem t h = part_joined tile_numbers (encoded_at table settings) n t h encoded_tile

  module _ (T : TableRules logic_tile table) (long : length settings ≡ settings_length * n) where
    pub fit_bits : (t : ℕ) → t < n → settings_fit table (settings_at settings t) ≡ true → HasBits table (settings_at settings t)
    fit_bits t h e = (settings_fit_exact table (settings_at settings t) T (settings_at_length settings n t long h)).0 e

    -- settings that fit can be written
    fit_writable : (t : ℕ) → t < n → settings_fit table (settings_at settings t) ≡ true → Writable table (settings_at settings t)
    fit_writable t h e = record { rules = T; long = settings_at_length settings n t long h; fit = e }

    pub bitless_lowest : bitless_tile table settings n < n → LowestBitless table settings n (bitless_tile table settings n)
    unfolding bitless_at
    bitless_lowest h = record {
      within = h;
      bitless = λ H. clash ((settings_fit_exact table (settings_at settings (bitless_tile table settings n)) T (settings_at_length settings n _ long h)).1 H)
          (not-true _ (first_true (bitless_at table settings) 0 n (omega arith)));
      lower = λ s l. fit_bits s (omega arith) (not-false _ (first_before (bitless_at table settings) 0 n s (omega arith) l));
    }

    bits_fit : (t : ℕ) → t < n → HasBits table (settings_at settings t) → settings_fit table (settings_at settings t) ≡ true
    bits_fit t h H = (settings_fit_exact table (settings_at settings t) T (settings_at_length settings n t long h)).1 H

    -- no other tile is the lowest
    pub bitless_is : (t : ℕ) → LowestBitless table settings n t → t ≡ bitless_tile table settings n
    unfolding bitless_at
    bitless_is t low =
        sym (first_at (bitless_at table settings) t n low.within
        (ap not (test_false (settings_fit table (settings_at settings t)) (fit_bits t low.within) low.bitless))
        (λ s l. ap not (bits_fit s (let h = low.within in omega arith) (low.lower s l))))

    pub none_bitless : n ≤ bitless_tile table settings n → (t : ℕ) → t < n → HasBits table (settings_at settings t)
    unfolding bitless_at
    none_bitless pass t h = fit_bits t h (not-false _ (first_before (bitless_at table settings) 0 n t (omega arith) (omega arith)))

    pub bits_none : ((t : ℕ) → t < n → HasBits table (settings_at settings t)) → n ≡ bitless_tile table settings n
    unfolding bitless_at
    bits_none has = sym (first_none (bitless_at table settings) n (λ t l. ap not (bits_fit t l (has t l))))

    -- what is encoded reads to the settings
    pub encoded_reads : ((t : ℕ) → t < n → settings_fit table (settings_at settings t) ≡ true) → TilesRead table (tiles_of (encoded table settings n)) settings n
    encoded_reads fit = record {
      decodable = λ t l. subst (λ (b : List ℕ). Decodable table (tile_of b)) (sym (encoded_at_lem t l)) (encode_decodable table (settings_at settings t) (fit_writable t l (fit t l)));
      reads = λ t l. subst (λ (b : List ℕ). ReadsTo table (bit_at b) (settings_at settings t)) (sym (encoded_at_lem t l))
          (subst (ReadsTo table (bit_at (encode table (settings_at settings t)))) (settings_back table (settings_at settings t) (fit_writable t l (fit t l)))
          (decode_reads table (encode table (settings_at settings t)) T));
    }

  -- and nothing else: bits that read to the settings are what is encoded
  pub encoded_is : TableRules logic_tile table → (bits : List ℕ) → length bits ≡ tile_numbers * n → TilesRead table (tiles_of bits) settings n
      → encoded table settings n ≡ bits
  unfolding encoded_at
  encoded_is T bits long x =
      joined_is tile_numbers n (encoded_at table settings) bits long
      (λ t l. ap (encode table) (sym (reads_unique table (bits_at bits t) T (x.decodable t l) _ _ (decode_reads table (bits_at bits t) T) (x.reads t l)))
      ∙ bits_back table (bits_at bits t) T (x.decodable t l) (bits_at_length bits n t long l))
