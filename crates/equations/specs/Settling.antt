-- Demand 3 without the step: the list of an accepted block, what running it gives, and that this is the one choice of values that the
-- block's equations allow. The demand itself, over what the calls promise, stands in `theorem`, and rests on this.
use Rattle.std.specs.Prelude.{ℕ, ◌*◌, ◌≤◌, ◌<◌, ◌≡◌, ◌≢◌, List, length, get_or}
use Rattle.ports.specs.declared.size.Block.{Block}
use Rattle.ports.specs.Block.{tiles}
use Rattle.ports.specs.Lengths.{ports}
use Rattle.fabric.specs.Wire.{wire_of}
use Rattle.fabric.specs.Count.{wires}
use Rattle.netlist.specs.Order.{order}
use Rattle.netlist.specs.Rows.{graph_of}
use Rattle.netlist.specs.Running.{run_from, Bits}
use Rattle.netlist.specs.OrderedRows.{list_of}
use Rattle.equations.specs.Equations.{Meets}
use Rattle.equations.specs.WireRows.{wire_rows}

-- "a list of rows, one for each wire, in document 01's order": the rows in the order, then zeros
abbrev pub block_list : Block → List ℕ → List ℕ → List ℕ
block_list B t st = list_of (wire_rows B t st) (ports B)

-- "Running a list takes its rows in order, as many as the block has wires." `room` is what stood in the room for the values.
abbrev pub run_of : Block → List ℕ → List ℕ → List ℕ → List ℕ → List ℕ → List ℕ
run_of B t st state lent room = run_from (block_list B t st) state lent 0 (wires B) room

-- "all flip-flop states and all lent outside values of 0 and 1": a byte a cell, a byte a port
pub record Inputs (B : Block) (state lent : List ℕ) : Type 0 where
  pub state_bits : Bits state
  pub lent_bits : Bits lent
  pub state_long : 8 * tiles B ≤ length state
  pub lent_long : ports B ≤ length lent

pub record Settles (B : Block) (t st : List ℕ) : Type 0 where
  -- "The answer has the row count, which is the number of wires."
  pub count : length (order (graph_of (wire_rows B t st)) (ports B)) ≡ wires B
  -- "running that list gives wire values that meet every cell, carry and switch equation, with constants, flip-flop outs and open wires"
  pub meets : (state lent room : List ℕ) → ports B ≤ length room → Meets B t st state lent (run_of B t st state lent room)
  -- "Every wire has a value of 0 or 1"
  pub bits : (state lent room : List ℕ) → Inputs B state lent → ports B ≤ length room
      → (p : ℕ) → p < ports B → get_or (run_of B t st state lent room) (wire_of B p) 0 < 2
  -- what meets the equations has these values at every wire
  pub only : (state lent room v : List ℕ) → ports B ≤ length room → Meets B t st state lent v
      → (p : ℕ) → p < ports B → get_or v (wire_of B p) 0 ≡ get_or (run_of B t st state lent room) (wire_of B p) 0
  -- "Every other choice of 0 or 1 for the wires breaks at least one of these."
  pub others_break : (state lent room v : List ℕ) → ports B ≤ length room
      → (p : ℕ) → p < ports B → get_or v (wire_of B p) 0 ≢ get_or (run_of B t st state lent room) (wire_of B p) 0 → Meets B t st state lent v → ⊥
