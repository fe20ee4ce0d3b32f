-- Demand 1: "It refuses only on the grounds numbered in document 01 [..], in the orders given there. On a refusal the outputs keep their old contents; the
-- work room comes back zeroed, or untouched under refusals 1 and 2." Proved, with no hypothesis, by `demand1` (proofs/Demand1Laws.antt). That every call
-- takes whatever it is handed and ends is in its contract: none has a `requires`.
use Rattle.std.specs.Prelude.{ℕ, ◌≡◌, ◌⊎◌, ◌≢◌, List, length}
use Rattle.lists.specs.Tables.{zeros}
use Rattle.refusal.specs.declared.Refusal.{Refusal}
use Rattle.refusal.specs.Grounds.{number_of, answer_number, answer_value, number_value}
use Rattle.refusal.specs.Memory.{output, work_room}
use Rattle.ports.specs.declared.size.Size.{Size}
use Rattle.ports.specs.declared.size.Block.{Block}
use Rattle.ports.specs.Block.{tile_count}
use Rattle.fabric.specs.WireNumber.{wire_number}
use Rattle.cell.specs.Lookup.{looked_up}
use Rattle.config.specs.Entry.{read_answer, write_answer, bit_count_answer}
use Rattle.config.specs.Blocks.{decoded, tiles_of}
use Rattle.compare.specs.Lengths.{compare_lent}
use Rattle.compare.specs.Entry.{part_answer}
use Rattle.block.specs.declared.lengths.RoomLent.{RoomLent}
use Rattle.block.specs.Lengths.{build_lent, follow_lent}
use Rattle.block.specs.Drivers.{followed_value}
use Rattle.contention.specs.Lengths.{contention_lent}
use Rattle.contention.specs.Entry.{settings_read}
use Rattle.sim.specs.declared.lengths.StepRoomLent.{StepRoomLent}
use Rattle.sim.specs.Lengths.{inputs_lent, step_lent}
use Rattle.words.specs.Answers.{words_answer, bytes_answer}
use Rattle.asc.specs.Area.{area_at}
use Rattle.asc.specs.Answers as files
use Rattle.frames.specs.Input.{parsed}
use Rattle.reporting.specs.Report.{report_of}
use Rattle.theorem.specs.Calls.{built, followed, stepped, contended, compared}
use Rattle.theorem.specs.EntryGrounds.{WireGrounds, LookupGrounds, CountGrounds, ReadGrounds, WriteGrounds}
use Rattle.theorem.specs.CompareGrounds.{CompareGrounds, PartGrounds}
use Rattle.theorem.specs.FormGrounds.{WordsGrounds, BytesGrounds}
use Rattle.theorem.specs.FileGrounds.{FileReadGrounds, FileLengthGrounds, FileWriteGrounds}
use Rattle.theorem.specs.BlockGrounds.{BuildGrounds, FollowGrounds, StepGrounds}
use Rattle.theorem.specs.ContentionGrounds.{ContentionGrounds}
use Rattle.theorem.specs.ReportGrounds.{ParseGrounds, ReportSays}

pub record Demand1 : Type 0 where
  -- "It refuses only on the grounds numbered in document 01 [..], in the orders given there": each call's table of grounds, over the number of its answer
  -- and what comes with it
  pub wire_number_lem : (B : Block) (tile port : ℕ) → WireGrounds B tile port (answer_number (wire_number B tile port)) (number_value (wire_number B tile port))
  pub lookup : (table inputs : ℕ) → LookupGrounds table inputs (answer_number (looked_up table inputs)) (number_value (looked_up table inputs))
  pub bit_count_lem : (S : Size) (bits : List ℕ) (tile : ℕ)
      → CountGrounds S bits tile (answer_number (bit_count_answer S bits tile)) (number_value (bit_count_answer S bits tile))
  pub read : (S : Size) (table bits settings : List ℕ)
      → ReadGrounds S table bits settings (answer_number (read_answer S table bits (length settings))) (answer_value (read_answer S table bits (length settings)))
  pub write : (S : Size) (table settings bits : List ℕ)
      → WriteGrounds S table settings bits (answer_number (write_answer S table settings (length bits)))
      (answer_value (write_answer S table settings (length bits)))
  pub compare : (A B : Size) (table first second list before after : List ℕ)
      → CompareGrounds A B table first second (decoded table (tiles_of first) (tile_count A)) (decoded table (tiles_of second) (tile_count A))
      (compare_lent table first second before after) list (answer_number (compared A B table first second list before after))
      (number_value (compared A B table first second list before after))
  pub tile_part : (A B : Size) (first second : List ℕ) (tile : ℕ)
      → PartGrounds A B first second tile (answer_number (part_answer A B (length first) (length second) tile))
      (answer_value (part_answer A B (length first) (length second) tile))
  pub file_read : (S : Size) (x y : ℕ) (text bits : List ℕ)
      → FileReadGrounds (area_at S x y) text bits (answer_number (files.read_answer (area_at S x y) text (length bits)))
      (answer_value (files.read_answer (area_at S x y) text (length bits)))
  pub file_length : (S : Size) (x y : ℕ)
      → FileLengthGrounds (area_at S x y) (answer_number (files.length_answer (area_at S x y))) (number_value (files.length_answer (area_at S x y)))
  pub file_write : (S : Size) (x y : ℕ) (bits text : List ℕ)
      → FileWriteGrounds (area_at S x y) bits text (answer_number (files.write_answer (area_at S x y) bits (length text)))
      (answer_value (files.write_answer (area_at S x y) bits (length text)))
  pub words_of_bytes : (S : Size) (bytes words : List ℕ)
      → WordsGrounds S bytes words (answer_number (words_answer S (length bytes) (length words))) (answer_value (words_answer S (length bytes) (length words)))
  pub bytes_of_words : (S : Size) (words bytes : List ℕ)
      → BytesGrounds S words bytes (answer_number (bytes_answer S words (length bytes))) (answer_value (bytes_answer S words (length bytes)))
  pub build : (B : Block) (table bits settings : List ℕ) (room : RoomLent)
      → BuildGrounds B table bits (settings_read B table bits) (build_lent table bits settings room)
      (answer_number (built B table bits settings room)) (number_value (built B table bits settings room))
  pub follow : (B : Block) (table settings : List ℕ) (tile port : ℕ) (wires sources marks : List ℕ)
      → FollowGrounds B table settings tile port (follow_lent table settings wires sources marks)
      (answer_number (followed B table settings tile port wires sources marks)) (followed_value (followed B table settings tile port wires sources marks))
  pub step : (B : Block) (table settings list state before after : List ℕ) (room : StepRoomLent)
      → StepGrounds B table settings list state before after (step_lent (inputs_lent table settings list state before after) room)
      (answer_number (stepped B table settings list state before after room)) (answer_value (stepped B table settings list state before after room))
  pub contentions : (B : Block) (table bits list settings wires heads nexts : List ℕ)
      → ContentionGrounds B table bits (settings_read B table bits) (contention_lent table bits settings wires heads nexts) (length list)
      (answer_number (contended B table bits list settings wires heads nexts)) (number_value (contended B table bits list settings wires heads nexts))
  -- the same of the report program: of reading its frames, and of its report, whose last line has the number and the place
  pub parse : (input : List ℕ) → ParseGrounds input (parsed input) (answer_number (parsed input)) (answer_value (parsed input))
  pub report : (input : List ℕ) → ReportSays input (report_of input)
  -- "On a refusal the outputs keep their old contents": every output's clause is `output` of the answer's number
  pub outputs_kept : (refusal : Refusal) (old new : List ℕ) → output (number_of refusal) old new ≡ old
  -- "the work room comes back zeroed, or untouched under refusals 1 and 2": every part's clause is `work_room` of the answer's number
  pub room_untouched : (number : ℕ) → (number ≡ 1) ⊎ (number ≡ 2) → (old : List ℕ) → work_room number old ≡ old
  pub room_zeroed : (number : ℕ) → number ≢ 1 → number ≢ 2 → (old : List ℕ) → work_room number old ≡ zeros (length old)
