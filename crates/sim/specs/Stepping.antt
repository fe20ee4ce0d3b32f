-- What `step` answers ("a step [checks] 1, 2, 3, 9, 12, 10 [..] in these orders").
use Rattle.refusal.specs.declared.Refusal.{Refusal}
use Rattle.std.specs.Prelude.{ℕ, Bool, List, ◌++◌, ltb, leb, length, get_or, Result, Ok, Err}
use Rattle.lists.specs.Search.{first}
use Rattle.refusal.specs.Grounds.{unless}
use Rattle.refusal.specs.declared.Refusal.TheVariants.{WrongSize, WrongLength, Table, NoSuchSettings, Row, NotABit}
use Rattle.ports.specs.declared.size.Block.{Block}
use Rattle.ports.specs.Block.{tiles, sized}
use Rattle.ports.specs.Lengths.{ports}
use Rattle.routing.specs.LogicTile.{logic_tile}
use Rattle.routing.specs.TableCheck.{faulty_part, table_ok}
use Rattle.config.specs.Blocks.{bitless_tile}
use Rattle.stepper.specs.Settling.{bad_row}

-- "10: state, before or after byte above 1: index, the three joined"; their number where there is none
abbrev pub above_one : List ℕ → ℕ → Bool
above_one bytes i = ltb 1 (get_or bytes i 0)

abbrev pub bad_byte : List ℕ → ℕ
bad_byte bytes = first (above_one bytes) 0 (length bytes)

-- grounds 12 and 10
unfoldable pub run_answer : Block → List ℕ → List ℕ → List ℕ → List ℕ → Result (Unit {0}) Refusal
run_answer B list state before after =
    unless (leb (ports B) (bad_row B list)) (Err (Row (bad_row B list)))
    (unless (leb (length (state ++ before ++ after)) (bad_byte (state ++ before ++ after))) (Err (NotABit (bad_byte (state ++ before ++ after))))
    (Ok tt))

-- grounds 3, 9, 12 and 10
unfoldable pub inputs_answer : Block → List ℕ → List ℕ → List ℕ → List ℕ → List ℕ → List ℕ → Result (Unit {0}) Refusal
inputs_answer B t st list state before after =
    unless (table_ok logic_tile t) (Err (Table (faulty_part logic_tile t)))
    (unless (leb (tiles B) (bitless_tile t st (tiles B))) (Err (NoSuchSettings (bitless_tile t st (tiles B))))
    (run_answer B list state before after))

unfoldable pub step_answer : Block → List ℕ → List ℕ → List ℕ → List ℕ → List ℕ → List ℕ → Bool → Result (Unit {0}) Refusal
step_answer B t st list state before after lengths =
    unless (sized B) (Err WrongSize) (unless lengths (Err WrongLength) (inputs_answer B t st list state before after))
