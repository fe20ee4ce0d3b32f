-- Document 02, W7: "Show that both forms carry the same settings and answers, and keep the bytes at the file edge." Over the answers of the calls: each
-- conversion is the other's inverse, and what is read, written, counted, compared and built of words is what it was of the bytes that they were made of.
-- Proved, with no other hypothesis, by `same_forms` (proofs/FormsLaws.antt).
use Rattle.std.specs.Prelude.{ℕ, ◌≡◌, Bool, ◌↔◌, List, length, Ok}
use Rattle.ports.specs.declared.size.Size.{Size}
use Rattle.ports.specs.declared.size.Block.{Block}
use Rattle.ports.specs.Block.{size_of, tile_count}
use Rattle.words.specs.Packed.{FitsIn}
use Rattle.words.specs.Forms.{byte_bits, SameBits, words_of, bytes_of, tiles_of_bytes}
use Rattle.words.specs.Answers.{words_answer, bytes_answer}
use Rattle.config.specs.Blocks.{tiles_of, decoded, encoded}
use Rattle.config.specs.Facts.{LowestFault, TilesRead}
use Rattle.config.specs.Entry.{read_answer, bit_count_answer}
use Rattle.config.specs.Bytes.{read_bytes_answer, count_bytes_answer}
use Rattle.compare.specs.Entry.{compare_answer}
use Rattle.block.specs.Building.{build_answer}

-- `words_of_bytes` says yes to these bytes, with words lent for it
abbrev pub Converts : Size → List ℕ → Type 0
Converts S bytes = (words : List ℕ) × (words_answer S (length bytes) (length words) ≡ (Ok tt))

pub record SameForms : Type 0 where
  -- the same bit at every position, and "columns 54 to 63 zero"
  pub same_bits : (S : Size) (bytes : List ℕ) → Converts S bytes → SameBits (tile_count S) bytes (words_of (tile_count S) bytes)
  -- there and back; `FitsIn byte_bits` is what a lent &[u8] is: each number is below 256
  pub bytes_back : (S : Size) (bytes : List ℕ) → FitsIn byte_bits bytes → Converts S bytes
      → (bytes_answer S (words_of (tile_count S) bytes) (length bytes) ≡ (Ok tt)) × (bytes_of (tile_count S) (words_of (tile_count S) bytes) ≡ bytes)
  pub words_back : (S : Size) (words bytes : List ℕ) → bytes_answer S words (length bytes) ≡ (Ok tt)
      → (words_answer S (length (bytes_of (tile_count S) words)) (length words) ≡ (Ok tt)) × (words_of (tile_count S) (bytes_of (tile_count S) words) ≡ words)
  -- a tile is the same in both, so that whatever is said of the tiles of the one holds of the other's ..
  pub same_tiles : (S : Size) (bytes : List ℕ) → Converts S bytes → tiles_of (words_of (tile_count S) bytes) ≡ tiles_of_bytes bytes
  -- .. which settings they read to, and which position is at fault first
  pub reads_to : (S : Size) (table bytes settings : List ℕ) → Converts S bytes
      → TilesRead table (tiles_of (words_of (tile_count S) bytes)) settings (tile_count S) ↔ TilesRead table (tiles_of_bytes bytes) settings (tile_count S)
  pub faults : (S : Size) (table bytes : List ℕ) (place : ℕ) → Converts S bytes
      → LowestFault table (tiles_of (words_of (tile_count S) bytes)) (tile_count S) place ↔ LowestFault table (tiles_of_bytes bytes) (tile_count S) place
  -- "the same settings", of every tile; and what is written of them
  pub settings : (S : Size) (table bytes : List ℕ) → Converts S bytes
      → decoded table (tiles_of (words_of (tile_count S) bytes)) (tile_count S) ≡ decoded table (tiles_of_bytes bytes) (tile_count S)
  pub writes : (S : Size) (table bytes : List ℕ) (settings : ℕ) → Converts S bytes → read_bytes_answer S table bytes settings ≡ (Ok tt)
      → encoded table (decoded table (tiles_of_bytes bytes) (tile_count S)) (tile_count S) ≡ words_of (tile_count S) bytes
  -- "and answers": of reading and of the bit count ..
  pub reads : (S : Size) (table bytes : List ℕ) (settings : ℕ) → Converts S bytes
      → read_answer S table (words_of (tile_count S) bytes) settings ≡ read_bytes_answer S table bytes settings
  pub counts : (S : Size) (bytes : List ℕ) (tile : ℕ) → Converts S bytes
      → bit_count_answer S (words_of (tile_count S) bytes) tile ≡ count_bytes_answer S bytes tile
  -- .. of comparing and of building; `lengths` is whether all that is lent has the exact length. The lists that they write, and all that `contentions`
  -- finds, are made of the settings, which are the same
  pub compares : (A B : Size) (table first second : List ℕ) (lengths : Bool) (list : ℕ) → Converts A first → Converts B second
      → compare_answer A B table (tiles_of (words_of (tile_count A) first)) (tiles_of (words_of (tile_count B) second)) lengths list
      ≡ compare_answer A B table (tiles_of_bytes first) (tiles_of_bytes second) lengths list
  pub builds : (B : Block) (table bytes : List ℕ) (lengths : Bool) → Converts (size_of B) bytes
      → build_answer B table (tiles_of (words_of (tile_count (size_of B)) bytes)) lengths ≡ build_answer B table (tiles_of_bytes bytes) lengths
