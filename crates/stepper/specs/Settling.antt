-- Settled values (document 01, 'The list and a step'): "It runs the list on before and on after, both with the old state, writes each port's
-- before value"; and what grounds 2, 12 and 10 show of a list, a state and lent values, so that the list can be run.
use Rattle.std.specs.Prelude.{ℕ, ◌*◌, ◌<◌, ◌≡◌, cond, List, length, get_or}
use Rattle.lists.specs.Tables.{tabulate, zeros}
use Rattle.ports.specs.declared.size.Block.{Block}
use Rattle.ports.specs.Block.{tiles}
use Rattle.ports.specs.Lengths.{ports}
use Rattle.fabric.specs.Wire.{wire_of}
use Rattle.fabric.specs.Count.{own_wire, wires}
use Rattle.netlist.specs.Rows.{row_length}
use Rattle.netlist.specs.Running.{run_from, Bits}
use Rattle.netlist.specs.Checking.{first_bad_row}

-- "Running a list takes its rows in order, as many as the block has wires." What stood in the room before is not read: it starts as zeros.
unfoldable pub settled_by : Block → List ℕ → List ℕ → List ℕ → List ℕ
settled_by B list state lent = run_from list state lent 0 (wires B) (zeros (ports B))

-- "a port has its wire's [value]"
abbrev pub port_value : Block → List ℕ → ℕ → ℕ
port_value B values p = get_or values (wire_of B p) 0

-- the value of each port, one after another
unfoldable pub port_values : Block → List ℕ → List ℕ
port_values B values = tabulate (port_value B values) 0 (ports B)

-- "Every wire has a value of 0 or 1, and a port has its wire's."
abbrev pub PortBits : Block → List ℕ → Type 0
PortBits B values = (p : ℕ) → p < ports B → port_value B values p < 2

-- the marks of a block's wires: 1 at each port that is its own wire
abbrev pub wire_mark : Block → ℕ → ℕ
wire_mark B p = cond (own_wire B p) 1 0

unfoldable pub wire_marks : Block → List ℕ
wire_marks B = tabulate (wire_mark B) 0 (ports B)

-- "12: [..] first such row, from 0"; the number of rows where there is none
abbrev pub bad_row : Block → List ℕ → ℕ
bad_row B list = first_bad_row list (8 * tiles B) (wire_marks B)

-- a list that ground 12 lets pass, the block's own or not, with a state and lent values of 0 and 1
pub record Runnable (B : Block) (list state lent : List ℕ) : Type 0 where
  pub list_long : length list ≡ row_length * ports B
  pub passed : bad_row B list ≡ ports B
  pub state_long : length state ≡ 8 * tiles B
  pub state_bits : Bits state
  pub lent_long : length lent ≡ ports B
  pub lent_bits : Bits lent
