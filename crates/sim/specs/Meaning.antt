-- What the answers of `step` say, in the paper's words. proofs/MeaningLaws.antt shows it of every answer.
use Rattle.std.specs.Prelude.{ℕ, ◌<◌, ◌≤◌, List, ◌++◌, length, get_or, Result, Ok, Err}
use Rattle.refusal.specs.declared.Refusal.{Refusal}
use Rattle.refusal.specs.declared.Refusal.TheVariants.{WrongSize, WrongLength, Table, NoSuchSettings, NotABit, Row}
use Rattle.ports.specs.declared.size.Block.{Block}
use Rattle.ports.specs.Block.{size_of, tiles, Sized}
use Rattle.ports.specs.Lengths.{ports, state_length}
use Rattle.netlist.specs.Checking.{RowStands, FirstBad}
use Rattle.netlist.specs.Running.{Bits}
use Rattle.routing.specs.LogicTile.{logic_tile}
use Rattle.routing.specs.Rules.{TableRules, FirstBroken}
use Rattle.codec.specs.Reading.{HasBits}
use Rattle.config.specs.Blocks.{settings_at}
use Rattle.config.specs.Facts.{LowestBitless}
use Rattle.stepper.specs.Settling.{wire_marks}
use Rattle.sim.specs.declared.lengths.StepLent.{StepLent}
use Rattle.sim.specs.Lengths.{StepLong}

-- "state, before or after byte above 1", place "index, the three joined": the first such byte
pub record FirstAbove (bytes : List ℕ) (index : ℕ) : Type 0 where
  pub within : index < length bytes
  pub before : (i : ℕ) → i < index → get_or bytes i 0 ≤ 1
  pub above : 1 < get_or bytes index 0

module _ (B : Block) (t st list state before after : List ℕ) (lent : StepLent) where
  -- none of grounds 1, 2, 3 and 9
  pub record Steppable : Type 0 where
    pub size : Sized B
    pub lengths : StepLong B lent
    pub rules : TableRules logic_tile t
    pub has_bits : (T : ℕ) → T < tiles B → HasBits t (settings_at st T)

  -- nor ground 12: every row may stand where it does. A block's wire is a port that is the lowest of its chain of joins (`wire_own_exact`,
  -- fabric/proofs/WireLaws.antt).
  abbrev pub Stands : Type 0
  Stands = (i : ℕ) → i < ports B → RowStands list (state_length (size_of B)) (wire_marks B) i

  -- "a step [checks] 1, 2, 3, 9, 12, 10": what each no says; there is no other
  pub data StepNo : Refusal → Type 0 where
    wrong_size : (Sized B → ⊥) → StepNo WrongSize
    wrong_length : Sized B → (StepLong B lent → ⊥) → StepNo WrongLength
    broken : (part : ℕ) → Sized B → StepLong B lent → FirstBroken logic_tile t part → StepNo (Table part)
    bitless : (T : ℕ) → Sized B → StepLong B lent → TableRules logic_tile t → LowestBitless t st (tiles B) T → StepNo (NoSuchSettings T)
    bad_row_lem : (row : ℕ) → Steppable → row < ports B → FirstBad list (state_length (size_of B)) (wire_marks B) (ports B) row → StepNo (Row row)
    not_a_bit : (index : ℕ) → Steppable → Stands → FirstAbove (state ++ before ++ after) index → StepNo (NotABit index)

  -- a yes: none of them holds; what it writes is in the clauses `values` and `next`
  abbrev pub StepSays : Result (Unit {0}) Refusal → Type 0
  StepSays (Ok _) = Steppable × Stands × Bits state × Bits before × Bits after
  StepSays (Err refusal) = StepNo refusal
