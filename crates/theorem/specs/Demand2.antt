-- Demand 2, sentence by sentence, over the answers of `read`, `write`, those for ASCII files, `wire_number`, `build` and `follow`. Proved, with no other hypothesis, by
-- `demand2` (proofs/Demand2Laws.antt).
use Rattle.std.specs.Prelude.{ℕ, ◌<◌, ◌≡◌, ◌↔◌, List, length, Ok, Err}
use Rattle.refusal.specs.Grounds.{answer_number}
use Rattle.refusal.specs.Memory.{output}
use Rattle.refusal.specs.declared.Refusal.TheVariants as refusals
use Rattle.ports.specs.declared.size.Size.{Size}
use Rattle.ports.specs.declared.size.Block.{Block}
use Rattle.ports.specs.Block.{tile_count, tiles, Sized, port_of}
use Rattle.ports.specs.Lengths.{ports_per_tile, settings_total}
use Rattle.fabric.specs.Joins.{Linked, Lowest}
use Rattle.fabric.specs.WireNumber.{wire_number}
use Rattle.codec.specs.Reading.{Decodable, ReadsTo}
use Rattle.config.specs.Blocks.{settings_at, tiles_of, decoded, encoded}
use Rattle.config.specs.Entry.{read_answer, write_answer}
use Rattle.config.specs.Facts.{Checked}
use Rattle.config.specs.Meaning.{ReadSays}
use Rattle.asc.specs.Area.{area_at}
use Rattle.asc.specs.Content.{written}
use Rattle.asc.specs.Answers as files
use Rattle.equations.specs.Switches.{Contention, LowestContention}
use Rattle.block.specs.declared.lengths.RoomLent.{RoomLent}
use Rattle.contention.specs.Entry.{settings_read}
use Rattle.theorem.specs.Calls.{PassesFour, PassesNine, Beyond, built, followed, file_of}

pub record Demand2 : Type 0 where
  -- "Settings are read as the IceStorm tile documents and the lent routing table say": what each answer of `read` says of bits and settings; a yes
  -- exactly if the table keeps its rules and every tile can be decoded; and what is written is all that the bits read to
  pub reads : (S : Size) (table bits settings : List ℕ)
      → ReadSays S table bits settings (output (answer_number (read_answer S table bits (length settings))) settings (decoded table (tiles_of bits) (tile_count S)))
      (read_answer S table bits (length settings))
  pub reads_exactly : (S : Size) (table bits : List ℕ) (settings : ℕ) → (read_answer S table bits settings ≡ (Ok tt))
      ↔ (Checked S table (length bits) settings × ((T : ℕ) → T < tile_count S → Decodable table (tiles_of bits T)))
  pub reads_one : (S : Size) (table bits : List ℕ) (n : ℕ) → read_answer S table bits n ≡ (Ok tt) → (settings : List ℕ) → length settings ≡ settings_total S
      → ((T : ℕ) → T < tile_count S → ReadsTo table (tiles_of bits T).bit (settings_at settings T)) → decoded table (tiles_of bits) (tile_count S) ≡ settings
  -- "Writing settings gives bits that read back the same"
  pub written_reads : (S : Size) (table settings : List ℕ) (bits : ℕ) → write_answer S table settings bits ≡ (Ok tt)
      → (read_answer S table (encoded table settings (tile_count S)) (length settings) ≡ (Ok tt))
      × (decoded table (tiles_of (encoded table settings (tile_count S))) (tile_count S) ≡ settings)
  -- "and bits that were read are written back the same": over words, of which a yes of `read` has found no set bit past a row's columns
  pub read_writes : (S : Size) (table bits : List ℕ) (settings : ℕ) → read_answer S table bits settings ≡ (Ok tt)
      → (write_answer S table (decoded table (tiles_of bits) (tile_count S)) (length bits) ≡ (Ok tt))
      × (encoded table (decoded table (tiles_of bits) (tile_count S)) (tile_count S) ≡ bits)
  -- document 02, W1: "A written file read back at its corner and size gives the same block", whether it can be decoded or not
  pub file_back : (S : Size) (x y : ℕ) (bits text : List ℕ) → files.write_answer (area_at S x y) bits (length text) ≡ (Ok tt)
      → (files.read_answer (area_at S x y) (written (area_at S x y) bits) (length bits) ≡ (Ok tt))
      × (files.bits_read (area_at S x y) (written (area_at S x y) bits) ≡ bits)
  -- "Demand 2 then covers this route to the bits as well": where the file has a length, settings that are written to bits can be written to a file, and
  -- are the same when both are read back; and a file that was read can be written, and reads the same. `text` and `room` are the room for the file
  pub filed_reads : (S : Size) (x y : ℕ) (table settings bits text : List ℕ) → write_answer S table settings (length bits) ≡ (Ok tt)
      → files.length_answer (area_at S x y) ≡ Ok (length text)
      → (files.write_answer (area_at S x y) (encoded table settings (tile_count S)) (length text) ≡ (Ok tt))
      × (files.read_answer (area_at S x y) (file_of S x y table settings) (length bits) ≡ (Ok tt))
      × (read_answer S table (files.bits_read (area_at S x y) (file_of S x y table settings)) (length settings) ≡ (Ok tt))
      × (decoded table (tiles_of (files.bits_read (area_at S x y) (file_of S x y table settings))) (tile_count S) ≡ settings)
  pub read_files : (S : Size) (x y : ℕ) (text bits room : List ℕ) → files.read_answer (area_at S x y) text (length bits) ≡ (Ok tt)
      → files.length_answer (area_at S x y) ≡ Ok (length room)
      → (files.write_answer (area_at S x y) (files.bits_read (area_at S x y) text) (length room) ≡ (Ok tt))
      × (files.read_answer (area_at S x y) (written (area_at S x y) (files.bits_read (area_at S x y) text)) (length bits) ≡ (Ok tt))
      × (files.bits_read (area_at S x y) (written (area_at S x y) (files.bits_read (area_at S x y) text)) ≡ files.bits_read (area_at S x y) text)
  -- "Two port names are one wire exactly if the published joins inside the block link them": every port has a number, that of its wire
  pub numbered : (B : Block) (T q : ℕ) → Sized B → T < tiles B → q < ports_per_tile → (w : ℕ) × (wire_number B T q ≡ Ok w)
  pub one_wire : (B : Block) (T q T' q' w w' : ℕ) → wire_number B T q ≡ Ok w → wire_number B T' q' ≡ Ok w'
      → Linked B (port_of T q) (port_of T' q') ↔ (w ≡ w')
  pub lowest_port : (B : Block) (T q w : ℕ) → wire_number B T q ≡ Ok w → Lowest B (port_of T q) w
  -- "Once the earlier checks pass, a fight is refused exactly if two enabled switches end on one wire", by `build` and by `follow`
  pub fight_exactly : (B : Block) (table bits settings : List ℕ) (room : RoomLent) → PassesFour B table bits settings room
      → ((w : ℕ) × (built B table bits settings room ≡ Err (refusals.Contention w)))
      ↔ ((w : ℕ) × Contention B table (settings_read B table bits) w)
  -- .. those are passed exactly if `build` gives none of their grounds ..
  pub four_exactly : (B : Block) (table bits settings : List ℕ) (room : RoomLent)
      → PassesFour B table bits settings room ↔ Beyond 4 (built B table bits settings room)
  -- .. and "5: fight: lowest wire"
  pub fight_lowest : (B : Block) (table bits settings : List ℕ) (room : RoomLent) (w : ℕ)
      → built B table bits settings room ≡ Err (refusals.Contention w) → LowestContention B table (settings_read B table bits) w
  pub follow_fight_exactly : (B : Block) (table settings wires sources marks : List ℕ) (tile port : ℕ)
      → PassesNine B table settings wires sources marks
      → ((w : ℕ) × (followed B table settings tile port wires sources marks ≡ Err (refusals.Contention w)))
      ↔ ((w : ℕ) × Contention B table settings w)
  pub follow_fight_lowest : (B : Block) (table settings wires sources marks : List ℕ) (tile port w : ℕ)
      → followed B table settings tile port wires sources marks ≡ Err (refusals.Contention w) → LowestContention B table settings w
