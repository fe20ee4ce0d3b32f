-- What `settle` answers ("settling gives 1, 2, 3, 9, 12, 10").
use Rattle.refusal.specs.declared.Refusal.{Refusal}
use Rattle.std.specs.Prelude.{ℕ, Bool, List, ◌++◌, leb, Result, Err}
use Rattle.refusal.specs.Grounds.{unless}
use Rattle.refusal.specs.declared.Refusal.TheVariants.{WrongSize, WrongLength, Row}
use Rattle.ports.specs.declared.size.Block.{Block}
use Rattle.ports.specs.Block.{tiles, sized}
use Rattle.ports.specs.Lengths.{ports}
use Rattle.stepper.specs.Settling.{bad_row}
use Rattle.moments.specs.Checks.{settings_answer, bytes_answer}

-- grounds 12 and 10, this over state and lent values joined
unfoldable pub run_answer : Block → List ℕ → List ℕ → List ℕ → Result (Unit {0}) Refusal
run_answer B list state lent = unless (leb (ports B) (bad_row B list)) (Err (Row (bad_row B list))) (bytes_answer (state ++ lent))

unfoldable pub settle_answer : Block → List ℕ → List ℕ → List ℕ → List ℕ → List ℕ → Bool → Result (Unit {0}) Refusal
settle_answer B t st list state lent lengths =
    unless (sized B) (Err WrongSize)
    (unless lengths (Err WrongLength)
    (settings_answer t st (tiles B) (run_answer B list state lent)))
