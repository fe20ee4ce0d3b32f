-- Both forms of a block carry the same settings and answers (document 02, W7): what is read of bytes is what is read of their words. Main laws:
-- `settings_same`, `tiles_read_same`, `fault_same`; `read_same`, `count_same`. Assumes nothing.
use Rattle.std.specs.Prelude.{Ok, Err}
use mathlib.Core.Path.{◌≡◌, sym, ap, ap₂, ◌∙◌, subst}
use mathlib.Core.Bool.{Bool, ◌&&◌}
use mathlib.Core.List.{List}
use mathlib.Core.Logic.{◌↔◌}
use Prim.Native.Nat.{ℕ, ◌*◌}
use borrow.Author.Tests.{eq-eqb}
use lib.Dec.{eqb, ltb}
use lib.ListN.{length}
use Rattle.refusal.specs.Grounds.{unless}
use Rattle.refusal.specs.declared.Refusal.TheVariants.{WrongSize, WrongLength, OutOfRange}
use Rattle.ports.specs.declared.size.Size.{Size}
use Rattle.ports.specs.Block.{tile_count, allowed}
use Rattle.ports.specs.Lengths.{table_length, tile_bytes, bits_length, bytes_length, settings_total}
use Rattle.words.specs.Forms.{TileBits, words_of, tiles_of_bytes}
use Rattle.words.proofs.FormsLaws.{words_length, tiles_same}
use Rattle.codec.specs.Bits.{bit_count}
use Rattle.config.specs.Blocks.{tiles_of, decoded}
use Rattle.config.specs.Facts.{LowestFault, TilesRead}
use Rattle.config.specs.Entry.{read_answer, read_answer_of, bit_count_answer}
use Rattle.config.specs.Bytes.{read_bytes_answer, count_bytes_answer}

module _ (table : List ℕ) (n : ℕ) (bytes : List ℕ) (long : length bytes ≡ tile_bytes * n) where
  -- the words' tiles are the bytes' tiles
  same : tiles_of (words_of n bytes) ≡ tiles_of_bytes bytes
  same = tiles_same n bytes long

  -- the same settings, computed
  pub settings_same : decoded table (tiles_of (words_of n bytes)) n ≡ decoded table (tiles_of_bytes bytes) n
  settings_same = ap (λ (tile : ℕ → TileBits). decoded table tile n) same

  -- and sentence by sentence
  pub tiles_read_same : (settings : List ℕ) → TilesRead table (tiles_of (words_of n bytes)) settings n ↔ TilesRead table (tiles_of_bytes bytes) settings n
  tiles_read_same settings = (
    subst (λ (tile : ℕ → TileBits). TilesRead table tile settings n) same,
    subst (λ (tile : ℕ → TileBits). TilesRead table tile settings n) (sym same),
  )

  -- the same place, or none, is at fault
  pub fault_same : (place : ℕ) → LowestFault table (tiles_of (words_of n bytes)) n place ↔ LowestFault table (tiles_of_bytes bytes) n place
  fault_same place = (
    subst (λ (tile : ℕ → TileBits). LowestFault table tile n place) same,
    subst (λ (tile : ℕ → TileBits). LowestFault table tile n place) (sym same),
  )

module _ (S : Size) (bytes : List ℕ) (long : length bytes ≡ bytes_length S) where
  abbrev words : List ℕ
  words = words_of (tile_count S) bytes

  -- both lengths are the exact ones
  exact_same : eqb (length words) (bits_length S) ≡ eqb (length bytes) (bytes_length S)
  exact_same = eq-eqb _ _ (words_length (tile_count S) bytes) ∙ sym (eq-eqb _ _ long)

  -- the same answer of a read
  pub read_same : (table : List ℕ) (settings : ℕ) → read_answer S table words settings ≡ read_bytes_answer S table bytes settings
  unfolding read_answer
  read_same table settings =
      ap₂ (λ (exact : Bool) (tile : ℕ → TileBits). read_answer_of S table (eqb (length table) table_length && (exact && eqb settings (settings_total S))) tile)
      exact_same (tiles_same (tile_count S) bytes long)

  -- the same count of set bits
  pub count_same : (tile : ℕ) → bit_count_answer S words tile ≡ count_bytes_answer S bytes tile
  unfolding bit_count_answer
  count_same tile =
      ap₂ (λ (exact : Bool) (block : ℕ → TileBits).
      unless (allowed S) (Err WrongSize)
      (unless exact (Err WrongLength)
      (unless (ltb tile (tile_count S)) (Err (OutOfRange tile)) (Ok (bit_count (block tile).bit)))))
      exact_same (tiles_same (tile_count S) bytes long)
