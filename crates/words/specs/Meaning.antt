-- What each answer of the two conversions says. Document 02, W7: "Show that both forms carry the same settings and answers, and keep the bytes at the file
-- edge"; "Refusals: 4 for a set bit in columns 54 to 63".
use Rattle.std.specs.Prelude.{ℕ, ◌≡◌, List, length, Result, Ok, Err}
use Rattle.ports.specs.declared.size.Size.{Size}
use Rattle.ports.specs.Block.{Allowed, tile_count}
use Rattle.ports.specs.Lengths.{bits_length, bytes_length}
use Rattle.refusal.specs.declared.Refusal.{Refusal}
use Rattle.refusal.specs.declared.Refusal.TheVariants.{WrongSize, WrongLength, Undecodable}
use Rattle.words.specs.Packed.{FitsIn}
use Rattle.words.specs.Forms.{byte_bits, SameBits}
use Rattle.words.specs.Stray.{LowestStray}

-- 1 and 2 are not given: the size, and the lengths of both forms
pub record BothLong (S : Size) (bytes words : ℕ) : Type 0 where
  pub right_size : Allowed S
  pub bytes_long : bytes ≡ bytes_length S
  pub words_long : words ≡ bits_length S

-- grounds 1 and 2 of both conversions
pub data FormNo (S : Size) (bytes words : ℕ) : Refusal → Type 0 where
  by_size : (Allowed S → ⊥) → FormNo S bytes words WrongSize
  by_length : Allowed S → (BothLong S bytes words → ⊥) → FormNo S bytes words WrongLength

-- bytes to words; `before` and `after` are the lent words
abbrev pub WordsSay : Size → List ℕ → List ℕ → List ℕ → Result (Unit {0}) Refusal → Type 0
WordsSay S bytes before after (Ok _) = BothLong S (length bytes) (length before) × (length after ≡ length before) × SameBits (tile_count S) bytes after
WordsSay S bytes before after (Err refusal) = (after ≡ before) × FormNo S (length bytes) (length before) refusal

-- words to bytes; `before` and `after` are the lent bytes, and `fits` of a yes says that no word was stray. A byte is below 256
pub data BytesNo (S : Size) (words : List ℕ) (bytes : ℕ) : Refusal → Type 0 where
  by_form : {refusal : Refusal} → FormNo S bytes (length words) refusal → BytesNo S words bytes refusal
  by_stray : {place : ℕ} → BothLong S bytes (length words) → LowestStray words place → BytesNo S words bytes (Undecodable place)

abbrev pub BytesSay : Size → List ℕ → List ℕ → List ℕ → Result (Unit {0}) Refusal → Type 0
BytesSay S words before after (Ok _) =
    BothLong S (length before) (length words) × (length after ≡ length before) × SameBits (tile_count S) after words × FitsIn byte_bits after
BytesSay S words before after (Err refusal) = (after ≡ before) × BytesNo S words (length before) refusal
