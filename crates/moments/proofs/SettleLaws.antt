-- What settling answers, one law a ground, and what a yes shows. Main laws: `stands_passed`, `run_row`, `run_bytes`, `run_shows`;
-- `settle_size`, `settle_length`, `settle_inputs`; `settle_cleared`. Assumes nothing.
use Rattle.refusal.specs.declared.Refusal.{Refusal}
use Rattle.std.specs.Prelude.{Result, Ok, Err}
use Prim.Native.Nat.{ℕ, ◌*◌, ◌<◌, ◌≤◌}
use mathlib.Core.Path.{◌≡◌, refl, sym, ◌∙◌, ap}
use mathlib.Core.Bool.{Bool, true, false}
use mathlib.Core.List.{List, ◌++◌}
use native.Mathlib.Omega.{arith}
use borrow.Author.Tests.{le-leb, lt-leb, leb-true}
use lib.Dec.{leb}
use lib.ListN.{length}
use Rattle.lists.specs.Tables.{zeros}
use Rattle.refusal.specs.Grounds.{answer_number}
use Rattle.refusal.specs.Memory.{work_room}
use Rattle.refusal.proofs.GroundsLaws.{unless_cases, unless_passed}
use Rattle.refusal.specs.declared.Refusal.TheVariants.{WrongSize, WrongLength, Row}
use Rattle.ports.specs.declared.size.Block.{Block}
use Rattle.ports.specs.Block.{tiles, sized}
use Rattle.ports.specs.Lengths.{ports}
use Rattle.netlist.specs.Rows.{row_length}
use Rattle.netlist.specs.Running.{Bits}
use Rattle.netlist.proofs.CheckingLaws.{first_bad_unique}
use Rattle.routing.specs.LogicTile.{logic_tile}
use Rattle.routing.specs.TableCheck.{table_ok}
use Rattle.config.specs.Blocks.{bitless_tile}
use Rattle.stepper.specs.Settling.{wire_marks, bad_row, Runnable}
use Rattle.sim.specs.Stepping.{bad_byte}
use Rattle.moments.specs.Checks.{settings_answer, bytes_answer}
use Rattle.moments.specs.Settling.{run_answer, settle_answer}
use Rattle.moments.specs.Meaning.{Stands}
use Rattle.sim.proofs.ByteLaws.{bits_of, bits_left, bits_right}
use Rattle.sim.proofs.StepLaws.{bad_row_first}
use Rattle.moments.proofs.ByteLaws.{bytes_shows}

-- ---- grounds 12 and 10

-- a list whose rows all stand where they may has no such row, and the other way
pub stands_passed : (B : Block) (list : List ℕ) → Stands B list → bad_row B list ≡ ports B
stands_passed B list stands =
    first_bad_unique list (8 * tiles B) (wire_marks B) (ports B) (bad_row B list) (ports B) (bad_row_first B list)
    (record { within = omega arith; before = stands; here = λ l h. absurd (omega arith) })

pub passed_stands : (B : Block) (list : List ℕ) → bad_row B list ≡ ports B → Stands B list
passed_stands B list e i l = (bad_row_first B list).before i (omega (arith, e))

module _ (B : Block) (list state lent : List ℕ) where
  pub run_row : (row : ℕ) → row ≡ bad_row B list → row < ports B → Err (Row row) ≡ run_answer B list state lent
  unfolding run_answer
  run_row row e l = rw (← e, lt-leb (ports B) row l)

  pub run_bytes : ports B ≤ bad_row B list → bytes_answer (state ++ lent) ≡ run_answer B list state lent
  unfolding run_answer
  run_bytes stands = rw (le-leb _ _ stands)

  module _ (done : run_answer B list state lent ≡ (Ok tt)) where
    checks_passed : (ports B ≤ bad_row B list) × (bytes_answer (state ++ lent) ≡ (Ok tt))
    unfolding run_answer
    checks_passed =
        let row = unless_passed {A = Result (Unit {0}) Refusal} answer_number (leb (ports B) (bad_row B list)) _ _ (Ok tt) (λ z. absurd (omega arith)) done in
        (leb-true _ _ row.0, row.1)

    run_passed : bad_row B list ≡ ports B
    run_passed = let l = checks_passed.0 in omega (arith, (bad_row_first B list).within)

    run_bits : Bits (state ++ lent)
    run_bits = bits_of (state ++ lent) (bytes_shows (state ++ lent) checks_passed.1)

    -- a yes: the list can be run
    pub run_shows : length list ≡ row_length * ports B → length state ≡ 8 * tiles B → length lent ≡ ports B → Runnable B list state lent
    run_shows el es eb = record {
      list_long = el;
      passed = run_passed;
      state_long = es;
      state_bits = bits_left state lent run_bits;
      lent_long = eb;
      lent_bits = bits_right state lent run_bits;
    }

-- ---- grounds 1 and 2

module _ (B : Block) (t st list state lent : List ℕ) where
  pub settle_size : (lengths : Bool) → sized B ≡ false → Err WrongSize ≡ settle_answer B t st list state lent lengths
  unfolding settle_answer
  settle_size lengths e = rw e

  pub settle_length : (lengths : Bool) → sized B ≡ true → lengths ≡ false → Err WrongLength ≡ settle_answer B t st list state lent lengths
  unfolding settle_answer
  settle_length lengths e l = rw (e, l)

  pub settle_inputs : (lengths : Bool) → sized B ≡ true → lengths ≡ true
      → settings_answer t st (tiles B) (run_answer B list state lent) ≡ settle_answer B t st list state lent lengths
  unfolding settle_answer
  settle_inputs lengths e l = rw (e, l)

-- ---- memory

-- the work room is zeroed under every ground but 1 and 2, and on a yes
abbrev Zeroed : Result (Unit {0}) Refusal → Type 0
Zeroed a = (old : List ℕ) → zeros (length old) ≡ work_room (answer_number a) old

inputs_zeroed : (B : Block) (t st list state lent : List ℕ) → Zeroed (settings_answer t st (tiles B) (run_answer B list state lent))
unfolding settings_answer run_answer bytes_answer
inputs_zeroed B t st list state lent =
    unless_cases Zeroed (table_ok logic_tile t) _ _ (λ e old. refl)
    (λ e. unless_cases Zeroed (leb (tiles B) (bitless_tile t st (tiles B))) _ _ (λ e old. refl)
    (λ e. unless_cases Zeroed (leb (ports B) (bad_row B list)) _ _ (λ e old. refl)
    (λ e. unless_cases Zeroed (leb (length (state ++ lent)) (bad_byte (state ++ lent))) _ _ (λ e old. refl) (λ e old. refl))))

-- a part of the work room of which the length is the old one, cleared
pub settle_cleared : (B : Block) (t st list state lent old : List ℕ) (a : Result (Unit {0}) Refusal) (n : ℕ)
    → a ≡ settings_answer t st (tiles B) (run_answer B list state lent) → n ≡ length old → zeros n ≡ work_room (answer_number a) old
settle_cleared B t st list state lent old a n e l =
    ap zeros l ∙ inputs_zeroed B t st list state lent old ∙ ap (λ (x : Result (Unit {0}) Refusal). work_room (answer_number x) old) (sym e)
