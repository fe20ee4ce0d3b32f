-- Demand 3, sentence by sentence, over the answers of `build`, `read` and `step`. Proved, with no other hypothesis, by `demand3` (proofs/Demand3Laws.antt).
use Rattle.std.specs.Prelude.{ℕ, ◌≡◌, ◌↔◌, List, Ok, Err}
use Rattle.refusal.specs.declared.Refusal.TheVariants.{Loop}
use Rattle.ports.specs.declared.size.Block.{Block}
use Rattle.equations.specs.Switches.{NoContention}
use Rattle.equations.specs.Equations.{Depends, LowestLooped}
use Rattle.equations.specs.Settling.{Inputs}
use Rattle.block.specs.declared.lengths.RoomLent.{RoomLent}
use Rattle.block.specs.Meaning.{NoDisabledCarry}
use Rattle.stepper.specs.Settling.{settled_by}
use Rattle.sim.specs.declared.lengths.StepRoomLent.{StepRoomLent}
use Rattle.sim.specs.Lengths.{StepRoomLong}
use Rattle.contention.specs.Entry.{settings_read}
use Rattle.theorem.specs.Calls.{PassesFour, Beyond, built, list_built, stepped, values_stepped, state_stepped}
use Rattle.theorem.specs.Choice.{OnlyChoice, StepMeans, StepInputs}
use Rattle.theorem.specs.Listing.{Listing}

module _ (B : Block) (table bits : List ℕ) where
  abbrev st : List ℕ
  st = settings_read B table bits

  abbrev list : List ℕ
  list = list_built B table bits

  -- "Each block that passes checks 1 to 6"
  pub record PassesSix (settings : List ℕ) (room : RoomLent) : Type 0 where
    pub passes_four : PassesFour B table bits settings room
    pub no_contention : NoContention B table (settings_read B table bits)
    pub no_carry : NoDisabledCarry B table (settings_read B table bits)

  -- what is said of a block that `build` accepts with so many rows, its settings being those that `read` writes
  pub record AcceptedBlock (rows : ℕ) : Type 0 where
    -- "Each accepted block is turned into a list of rows, one for each wire, in document 01's order."
    pub listing : Listing B table st list rows
    -- "For all flip-flop states and all lent outside values of 0 and 1, running that list gives [..]. Every other choice of 0 or 1 [..]"
    pub settles : (state lent : List ℕ) → Inputs B state lent → OnlyChoice B table st state lent (settled_by B list state lent)
    -- "A step takes that block's size, table, settings and list, any such state and any two such sets of lent values, before and after."
    pub step_taken : (state before after : List ℕ) (room : StepRoomLent) → StepInputs B state before after → StepRoomLong B room
        → stepped B table st list state before after room ≡ (Ok tt)
    -- "Unless a ground refuses it, it writes each port's value from the one set of wire values [..]. From that set, and the one [..] after, it moves
    -- every cell's state by document 01's rules."
    pub step_means : (state before after : List ℕ) (room : StepRoomLent) → stepped B table st list state before after room ≡ (Ok tt)
        → StepMeans B table st state before after (values_stepped B list state before) (state_stepped B st list state before after)

pub record Demand3 : Type 0 where
  -- "Each block that passes checks 1 to 6 [..] is refused as a loop, by every call that makes check 7, exactly if some wire depends on itself."
  pub loop_exactly : (B : Block) (table bits settings : List ℕ) (room : RoomLent) → PassesSix B table bits settings room
      → ((w : ℕ) × (built B table bits settings room ≡ Err (Loop w))) ↔ ((w : ℕ) × Depends B table (settings_read B table bits) w w)
  -- .. those are passed exactly if `build` gives none of their grounds ..
  pub six_exactly : (B : Block) (table bits settings : List ℕ) (room : RoomLent)
      → PassesSix B table bits settings room ↔ Beyond 6 (built B table bits settings room)
  -- .. and "7: loop: lowest wire depending on itself"
  pub loop_lowest : (B : Block) (table bits settings : List ℕ) (room : RoomLent) (w : ℕ) → built B table bits settings room ≡ Err (Loop w)
      → LowestLooped B table (settings_read B table bits) w
  pub accepted : (B : Block) (table bits settings : List ℕ) (room : RoomLent) (rows : ℕ) → built B table bits settings room ≡ Ok rows
      → AcceptedBlock B table bits rows
