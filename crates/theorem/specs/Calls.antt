-- What the calls answer and write, over what is lent to them: the clauses of their contracts, with a name each.
--   built == what `build` answers        list_built == what a yes of `build` writes; settings_read of `contention` == what a yes of `read` writes
--   followed == what `follow` answers    stepped == what `step` answers                    compared == what `compare` answers
--   contended == what `contentions` answers
--   values_stepped, state_stepped == what a yes of `step` writes
--   file_of == the file of settings that are written to bits, and these to it
--   PassesFour, PassesNine == checks 1 to 4 of `build`, and 1, 2, 3 and 9 of `follow`, pass
use Rattle.drivers.specs.declared.follow.Driver.{Driver}
use Rattle.std.specs.Prelude.{◌≡◌, List, ℕ, ◌<◌, length, Result, Ok, Err}
use Rattle.refusal.specs.declared.Refusal.{Refusal}
use Rattle.refusal.specs.Grounds.{number_of}
use Rattle.ports.specs.declared.size.Size.{Size}
use Rattle.ports.specs.declared.size.Block.{Block}
use Rattle.ports.specs.Block.{size_of, tile_count}
use Rattle.ports.specs.Lengths.{bits_length, ports}
use Rattle.config.specs.Blocks.{encoded, tiles_of}
use Rattle.config.specs.Entry.{read_answer, write_answer}
use Rattle.compare.specs.Lengths.{compare_lent, compare_exact}
use Rattle.compare.specs.Entry.{compare_answer}
use Rattle.asc.specs.Area.{area_at}
use Rattle.asc.specs.Content.{written}
use Rattle.equations.specs.Settling.{block_list}
use Rattle.block.specs.declared.lengths.RoomLent.{RoomLent}
use Rattle.block.specs.Lengths.{RoomLong, build_lent, build_exact, follow_lent, follow_exact}
use Rattle.block.specs.Building.{build_answer}
use Rattle.block.specs.Drivers.{follow_answer}
use Rattle.contention.specs.Lengths.{contention_lent, contention_exact}
use Rattle.contention.specs.Entry.{contentions_answer, settings_read}
use Rattle.stepper.specs.Settling.{settled_by, port_values}
use Rattle.stepper.specs.Clocking.{next_states}
use Rattle.sim.specs.declared.lengths.StepRoomLent.{StepRoomLent}
use Rattle.sim.specs.Lengths.{inputs_lent, step_lent, step_exact}
use Rattle.sim.specs.Stepping.{step_answer}

-- `settings` is the first part of the work room of `build`; `room` has the lengths of the list and of the other parts
abbrev pub built : Block → (table bits settings : List ℕ) → RoomLent → Result ℕ Refusal
built B table bits settings room = build_answer B table (tiles_of bits) (build_exact B (build_lent table bits settings room))

-- `build` gives none of grounds 1 to n
abbrev pub Beyond : ℕ → Result ℕ Refusal → Type 0
Beyond n answer = (refusal : Refusal) → answer ≡ Err refusal → n < number_of refusal

-- checks 1 to 4: `read` says yes to these bits, the byte for the east column is 0 or 1, and the rest of what is lent to `build` is as long as it
-- must be
pub record PassesFour (B : Block) (table bits settings : List ℕ) (room : RoomLent) : Type 0 where
  pub read_done : read_answer (size_of B) table bits (length settings) ≡ (Ok tt)
  pub east_known : B.east < 2
  pub room_long : RoomLong B room

-- `before` and `after` are the work room of `compare`
abbrev pub compared : (A B : Size) → (table first second list before after : List ℕ) → Result ℕ Refusal
compared A B table first second list before after =
    compare_answer A B table (tiles_of first) (tiles_of second) (compare_exact A (compare_lent table first second before after)) (length list)

-- the ASCII file, at corner x, y, of the bits that a yes of `write` writes for these settings
abbrev pub file_of : Size → (x y : ℕ) → (table settings : List ℕ) → List ℕ
file_of S x y table settings = written (area_at S x y) (encoded table settings (tile_count S))

abbrev pub list_built : Block → (table bits : List ℕ) → List ℕ
list_built B table bits = block_list B table (settings_read B table bits)

-- `settings`, `wires`, `heads` and `nexts` are the work room of `contentions`
abbrev pub contended : Block → (table bits list settings wires heads nexts : List ℕ) → Result ℕ Refusal
contended B table bits list settings wires heads nexts =
    contentions_answer B table bits (contention_exact B (contention_lent table bits settings wires heads nexts)) (length list)

-- `wires`, `sources` and `marks` are the work room of `follow`
abbrev pub followed : Block → (table settings : List ℕ) → (tile port : ℕ) → (wires sources marks : List ℕ) → Result Driver Refusal
followed B table settings tile port wires sources marks =
    follow_answer B table settings tile port (follow_exact B (follow_lent table settings wires sources marks))

-- checks 1, 2, 3 and 9: `write` says yes to these settings, the byte for the east column is 0 or 1, and the work room of `follow` is as long as it
-- must be
pub record PassesNine (B : Block) (table settings wires sources marks : List ℕ) : Type 0 where
  pub write_done : write_answer (size_of B) table settings (bits_length (size_of B)) ≡ (Ok tt)
  pub east_known : B.east < 2
  pub wires_long : length wires ≡ ports B
  pub sources_long : length sources ≡ ports B
  pub marks_long : length marks ≡ ports B

-- `room` has the lengths of the outputs and of the work room of `step`
abbrev pub stepped : Block → (table settings list state before after : List ℕ) → StepRoomLent → Result (Unit {0}) Refusal
stepped B table settings list state before after room =
    step_answer B table settings list state before after (step_exact B (step_lent (inputs_lent table settings list state before after) room))

abbrev pub values_stepped : Block → (list state before : List ℕ) → List ℕ
values_stepped B list state before = port_values B (settled_by B list state before)

abbrev pub state_stepped : Block → (settings list state before after : List ℕ) → List ℕ
state_stepped B settings list state before after = next_states B settings (settled_by B list state before) (settled_by B list state after) state
