-- Ground 2, "a lent length differs from the exact one": the lengths lent to `step`, and the exact ones, as tests and as facts. The figures
-- are those of ports/specs/Lengths.antt.
use Rattle.std.specs.Prelude.{◌≡◌, Bool, ◌&&◌, List, ℕ, eqb, length}
use Rattle.ports.specs.declared.size.Block.{Block}
use Rattle.ports.specs.Block.{size_of}
use Rattle.ports.specs.Lengths.{table_length, settings_total, state_length, ports, list_length}
use Rattle.sim.specs.declared.lengths.InputsLent.{InputsLent}
use Rattle.sim.specs.declared.lengths.StepRoomLent.{StepRoomLent}
use Rattle.sim.specs.declared.lengths.StepLent.{StepLent}

-- what a step reads
abbrev pub inputs_lent : (table settings list state before after : List ℕ) → InputsLent
inputs_lent table settings list state before after = record {
  table = length table;
  settings = length settings;
  list = length list;
  state = length state;
  before = length before;
  after = length after;
}

abbrev pub inputs_exact : Block → InputsLent → Bool
inputs_exact B lent =
    eqb lent.table table_length
    && (eqb lent.settings (settings_total (size_of B))
    && (eqb lent.list (list_length B)
    && (eqb lent.state (state_length (size_of B)) && (eqb lent.before (ports B) && eqb lent.after (ports B)))))

-- these lengths are the exact ones
pub record InputsLong (B : Block) (lent : InputsLent) : Type 0 where
  pub table_long : lent.table ≡ table_length
  pub settings_long : lent.settings ≡ settings_total (size_of B)
  pub list_long : lent.list ≡ list_length B
  pub state_long : lent.state ≡ state_length (size_of B)
  pub before_long : lent.before ≡ ports B
  pub after_long : lent.after ≡ ports B

-- what it writes: the outputs values and next, then the work room
abbrev pub step_room_lent : (values next wires own marks first second : List ℕ) → StepRoomLent
step_room_lent values next wires own marks first second = record {
  values = length values;
  next = length next;
  wires = length wires;
  own = length own;
  marks = length marks;
  first = length first;
  second = length second;
}

abbrev pub step_room_exact : Block → StepRoomLent → Bool
step_room_exact B lent =
    eqb lent.values (ports B)
    && (eqb lent.next (state_length (size_of B))
    && (eqb lent.wires (ports B)
    && (eqb lent.own (ports B) && (eqb lent.marks (ports B) && (eqb lent.first (ports B) && eqb lent.second (ports B))))))

-- these lengths are the exact ones
pub record StepRoomLong (B : Block) (lent : StepRoomLent) : Type 0 where
  pub values_long : lent.values ≡ ports B
  pub next_long : lent.next ≡ state_length (size_of B)
  pub wires_long : lent.wires ≡ ports B
  pub own_long : lent.own ≡ ports B
  pub marks_long : lent.marks ≡ ports B
  pub first_long : lent.first ≡ ports B
  pub second_long : lent.second ≡ ports B

-- both
abbrev pub step_lent : InputsLent → StepRoomLent → StepLent
step_lent inputs room = record { inputs = inputs; room = room }

abbrev pub step_exact : Block → StepLent → Bool
step_exact B lent = inputs_exact B lent.inputs && step_room_exact B lent.room

-- these lengths are the exact ones
pub record StepLong (B : Block) (lent : StepLent) : Type 0 where
  pub inputs_long : InputsLong B lent.inputs
  pub room_long : StepRoomLong B lent.room
