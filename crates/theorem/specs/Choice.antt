-- The one choice of values that a block's equations allow, and what a step does with it (demand 3).
use Rattle.std.specs.Prelude.{ℕ, ◌<◌, ◌≡◌, ◌≢◌, List, length, get_or}
use Rattle.ports.specs.declared.size.Block.{Block}
use Rattle.ports.specs.Block.{size_of}
use Rattle.ports.specs.Lengths.{ports, state_length}
use Rattle.netlist.specs.declared.row.Row.{Row}
use Rattle.netlist.specs.Running.{row_value, Bits}
use Rattle.equations.specs.Equations.{Meets}
use Rattle.equations.specs.RowMeaning.{RowSays}
use Rattle.stepper.specs.Settling.{port_value, port_values, PortBits}
use Rattle.stepper.specs.Clocking.{next_states}

module _ (B : Block) (t st : List ℕ) where
  module _ (state lent : List ℕ) where
    -- the values x break the equation of a wire, which is given, with the sentence that says what the wire equals
    pub record Breaks (x : List ℕ) : Type 0 where
      pub wire : ℕ
      pub row : Row
      pub says : RowSays B t st wire row
      pub differs : get_or x wire 0 ≢ row_value row state lent x

    -- the values v are the one choice of 0 or 1 for the wires that meets every equation under this state and these lent values
    pub record OnlyChoice (v : List ℕ) : Type 0 where
      -- "wire values that meet every cell, carry and switch equation, with constants, flip-flop outs and open wires as document 01 gives them"
      pub meets : Meets B t st state lent v
      -- "Every wire has a value of 0 or 1"
      pub bits : PortBits B v
      -- "Every other choice of 0 or 1 for the wires breaks at least one of these."
      pub only : (x : List ℕ) → (p : ℕ) → p < ports B → port_value B x p ≢ port_value B v p → Meets B t st state lent x → ⊥
      pub others_break : (x : List ℕ) → (p : ℕ) → p < ports B → port_value B x p ≢ port_value B v p → Breaks x

  -- "A step [..] writes each port's value from the one set of wire values that the equations allow under the old state and before. From that set,
  -- and the one they allow under the old state and after, it moves every cell's state by document 01's rules."
  pub record StepMeans (state before after values next : List ℕ) : Type 0 where
    pub b : List ℕ
    pub a : List ℕ
    pub one_before : OnlyChoice state before b
    pub one_after : OnlyChoice state after a
    pub written : values ≡ port_values B b
    pub moved : next ≡ next_states B st b a state

-- n bytes of 0 and 1
pub record BitBytes (n : ℕ) (bytes : List ℕ) : Type 0 where
  pub long : length bytes ≡ n
  pub bits : Bits bytes

-- "any such state and any two such sets of lent values, before and after"
pub record StepInputs (B : Block) (state before after : List ℕ) : Type 0 where
  pub state_bytes : BitBytes (state_length (size_of B)) state
  pub before_bytes : BitBytes (ports B) before
  pub after_bytes : BitBytes (ports B) after
