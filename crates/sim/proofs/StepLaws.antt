-- What a step answers, one law a ground, and what a yes shows. Main laws: `bad_row_first`, `run_row`, `run_byte`, `run_done`, `run_shows`; `inputs_table`,
-- `inputs_settings`, `inputs_run`, `inputs_shows`; `step_size`, `step_length`, `step_inputs`; `room_cleared`.
use Rattle.std.specs.Prelude.{Result, Ok, Err}
use Prim.Native.Nat.{ℕ, ◌*◌, ◌<◌, ◌≤◌}
use mathlib.Core.Path.{◌≡◌, refl, sym, ◌∙◌, ap, subst}
use mathlib.Core.Bool.{Bool, true, false}
use mathlib.Core.List.{List, ◌++◌}
use native.Mathlib.Omega.{arith}
use borrow.Author.Tests.{le-leb, lt-leb, leb-true}
use lib.Dec.{leb}
use lib.ListN.{length}
use Rattle.lists.specs.Tables.{zeros}
use Rattle.refusal.specs.Grounds.{unless, answer_number}
use Rattle.refusal.specs.Memory.{work_room}
use Rattle.refusal.proofs.GroundsLaws.{unless_passed}
use Rattle.refusal.specs.declared.Refusal.{Refusal}
use Rattle.refusal.specs.declared.Refusal.TheVariants.{WrongSize, WrongLength, Table, NoSuchSettings, NotABit, Row}
use Rattle.ports.specs.declared.size.Block.{Block}
use Rattle.ports.specs.Block.{tiles, sized}
use Rattle.ports.specs.Lengths.{ports}
use Rattle.netlist.specs.Rows.{row_length}
use Rattle.netlist.specs.Checking.{FirstBad}
use Rattle.netlist.specs.Running.{Bits}
use Rattle.netlist.proofs.CheckingLaws.{first_bad_exact}
use Rattle.routing.specs.LogicTile.{logic_tile}
use Rattle.routing.specs.TableCheck.{faulty_part, table_ok}
use Rattle.config.specs.Blocks.{bitless_tile}
use Rattle.stepper.specs.Settling.{wire_marks, bad_row, Runnable}
use Rattle.sim.specs.Stepping.{bad_byte, run_answer, inputs_answer, step_answer}
use Rattle.stepper.proofs.SettledLaws.{marks_length}
use Rattle.sim.proofs.ByteLaws.{bits_of_joined}

pub never_done : (q : Refusal) → ◌≡◌ {A = Result (Unit {0}) Refusal} (Err q) (Ok tt) → ⊥
never_done q e = let z : ◌≡◌ {A = ℕ} 0 1 = cc in omega arith

-- ---- grounds 12 and 10

-- the row that is found is the first that may not stand where it does
pub bad_row_first : (B : Block) (list : List ℕ) → FirstBad list (8 * tiles B) (wire_marks B) (ports B) (bad_row B list)
bad_row_first B list =
    subst (λ (n : ℕ). FirstBad list (8 * tiles B) (wire_marks B) n (bad_row B list)) (marks_length B) (first_bad_exact list (8 * tiles B) (wire_marks B))

module _ (B : Block) (list state before after : List ℕ) where
  abbrev joined : List ℕ
  joined = state ++ before ++ after

  pub run_row : bad_row B list < ports B → Err (Row (bad_row B list)) ≡ run_answer B list state before after
  unfolding run_answer
  run_row l = rw (lt-leb _ _ l)

  module _ (stands : ports B ≤ bad_row B list) where
    pub run_byte : bad_byte joined < length joined
        → Err (NotABit (bad_byte joined)) ≡ run_answer B list state before after
    unfolding run_answer
    run_byte l = rw (le-leb _ _ stands, lt-leb _ _ l)

    pub run_done : length joined ≤ bad_byte joined → (Ok tt) ≡ run_answer B list state before after
    unfolding run_answer
    run_done l = rw (le-leb _ _ stands, le-leb _ _ l)

  module _ (done : run_answer B list state before after ≡ (Ok tt)) where
    checks_passed : (ports B ≤ bad_row B list) × (length joined ≤ bad_byte joined)
    unfolding run_answer
    checks_passed =
        let row = unless_passed {A = Result (Unit {0}) Refusal} answer_number (leb (ports B) (bad_row B list)) _ _ (Ok tt) (λ z. absurd (omega arith)) done in
        let byte = unless_passed {A = Result (Unit {0}) Refusal} answer_number (leb (length joined) (bad_byte joined)) _ _ (Ok tt) (λ z. absurd (omega arith)) row.1 in
        (leb-true _ _ row.0, leb-true _ _ byte.0)

    run_passed : bad_row B list ≡ ports B
    run_passed = let l = checks_passed.0 in omega (arith, (bad_row_first B list).within)

    run_bits : Bits state × Bits before × Bits after
    run_bits = bits_of_joined state before after checks_passed.1

    -- a yes: the list can be run on before and on after
    pub run_shows : length list ≡ row_length * ports B → length state ≡ 8 * tiles B → length before ≡ ports B → length after ≡ ports B
        → Runnable B list state before × Runnable B list state after
    run_shows el es eb ea = (
      record { list_long = el; passed = run_passed; state_long = es; state_bits = run_bits.0; lent_long = eb; lent_bits = run_bits.1 },
      record { list_long = el; passed = run_passed; state_long = es; state_bits = run_bits.0; lent_long = ea; lent_bits = run_bits.2 },
    )

-- ---- grounds 3 and 9

module _ (B : Block) (t st list state before after : List ℕ) where
  pub inputs_table : table_ok logic_tile t ≡ false → Err (Table (faulty_part logic_tile t)) ≡ inputs_answer B t st list state before after
  unfolding inputs_answer
  inputs_table e = rw e

  module _ (kept : table_ok logic_tile t ≡ true) where
    pub inputs_settings : bitless_tile t st (tiles B) < tiles B
        → Err (NoSuchSettings (bitless_tile t st (tiles B))) ≡ inputs_answer B t st list state before after
    unfolding inputs_answer
    inputs_settings l = rw (kept, lt-leb _ _ l)

    pub inputs_run : tiles B ≤ bitless_tile t st (tiles B) → run_answer B list state before after ≡ inputs_answer B t st list state before after
    unfolding inputs_answer
    inputs_run l = rw (kept, le-leb _ _ l)

  pub inputs_shows : inputs_answer B t st list state before after ≡ (Ok tt)
      → (table_ok logic_tile t ≡ true) × (tiles B ≤ bitless_tile t st (tiles B)) × (run_answer B list state before after ≡ (Ok tt))
  unfolding inputs_answer
  inputs_shows e =
      let table = unless_passed {A = Result (Unit {0}) Refusal} answer_number (table_ok logic_tile t) _ _ (Ok tt) (λ z. absurd (omega arith)) e in
      let settings = unless_passed {A = Result (Unit {0}) Refusal} answer_number (leb (tiles B) (bitless_tile t st (tiles B))) _ _ (Ok tt) (λ z. absurd (omega arith)) table.1 in
      (table.0, leb-true _ _ settings.0, settings.1)

-- ---- grounds 1 and 2

module _ (B : Block) (t st list state before after : List ℕ) where
  pub step_size : (lengths : Bool) → sized B ≡ false → Err WrongSize ≡ step_answer B t st list state before after lengths
  unfolding step_answer
  step_size lengths e = rw e

  pub step_length : (lengths : Bool) → sized B ≡ true → lengths ≡ false → Err WrongLength ≡ step_answer B t st list state before after lengths
  unfolding step_answer
  step_length lengths e l = rw (e, l)

  pub step_inputs : (lengths : Bool) → sized B ≡ true → lengths ≡ true
      → inputs_answer B t st list state before after ≡ step_answer B t st list state before after lengths
  unfolding step_answer
  step_inputs lengths e l = rw (e, l)

-- ---- memory

-- the work room is zeroed under every ground but 1 and 2, and on a yes
abbrev Zeroed : Result (Unit {0}) Refusal → Type 0
Zeroed a = (old : List ℕ) → work_room (answer_number a) old ≡ zeros (length old)

zeroed : (a b c d : Bool) (part tile row index : ℕ)
    → Zeroed (unless a (Err (Table part)) (unless b (Err (NoSuchSettings tile)) (unless c (Err (Row row)) (unless d (Err (NotABit index)) (Ok tt)))))
zeroed false b c d part tile row index old = refl
zeroed true false c d part tile row index old = refl
zeroed true true false d part tile row index old = refl
zeroed true true true false part tile row index old = refl
zeroed true true true true part tile row index old = refl

inputs_zeroed : (B : Block) (t st list state before after : List ℕ) → Zeroed (inputs_answer B t st list state before after)
unfolding inputs_answer run_answer
inputs_zeroed B t st list state before after =
    zeroed (table_ok logic_tile t) (leb (tiles B) (bitless_tile t st (tiles B))) (leb (ports B) (bad_row B list))
    (leb (length (joined B list state before after)) (bad_byte (joined B list state before after))) _ _ _ _

-- a part of the work room of which the length is the old one, cleared
pub room_cleared : (B : Block) (t st list state before after old : List ℕ) (a : Result (Unit {0}) Refusal) (n : ℕ) → a ≡ inputs_answer B t st list state before after
    → n ≡ length old → zeros n ≡ work_room (answer_number a) old
room_cleared B t st list state before after old a n e l =
    ap zeros l ∙ sym (ap (λ (x : Result (Unit {0}) Refusal). work_room (answer_number x) old) e ∙ inputs_zeroed B t st list state before after old)
