-- Reading and counting the bytes of document 01, as before document 02, W7: "Show that both forms carry the same settings and answers". No call reads or counts
-- bytes any more; these are what the answers on words are held against (proofs/FormsLaws.antt).
use Rattle.refusal.specs.declared.Refusal.{Refusal}
use Rattle.std.specs.Prelude.{ℕ, ◌&&◌, List, eqb, ltb, length, Result, Ok, Err}
use Rattle.refusal.specs.Grounds.{unless}
use Rattle.refusal.specs.declared.Refusal.TheVariants.{WrongSize, WrongLength, OutOfRange}
use Rattle.ports.specs.declared.size.Size.{Size}
use Rattle.ports.specs.Block.{tile_count, allowed}
use Rattle.ports.specs.Lengths.{table_length, bytes_length, settings_total}
use Rattle.words.specs.Forms.{tiles_of_bytes}
use Rattle.codec.specs.Bits.{bit_count}
use Rattle.config.specs.Entry.{read_answer_of}

-- "Lengths: bits 108 [..], each times W·H"
abbrev pub read_bytes_answer : Size → List ℕ → List ℕ → ℕ → Result (Unit {0}) Refusal
read_bytes_answer S table bytes settings =
    read_answer_of S table (eqb (length table) table_length && (eqb (length bytes) (bytes_length S) && eqb settings (settings_total S))) (tiles_of_bytes bytes)

abbrev pub count_bytes_answer : Size → List ℕ → ℕ → Result ℕ Refusal
count_bytes_answer S bytes tile =
    unless (allowed S) (Err WrongSize)
    (unless (eqb (length bytes) (bytes_length S)) (Err WrongLength)
    (unless (ltb tile (tile_count S)) (Err (OutOfRange tile))
    (Ok (bit_count (tiles_of_bytes bytes tile).bit))))
