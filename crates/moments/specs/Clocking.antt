-- How every cell's state moves (document 01, 'The list and a step'), from what stands at the ports of its tile before, `b`, and after, `a`.
--   handed == the values of a tile's own ports, among values that are handed over (document 02, W11)
--   of_wires == the values of the same ports' wires, as in document 01's step; `clock_of_settled` shows that it is the same of settled values
use Rattle.refusal.specs.declared.Refusal.{Refusal}
use Rattle.std.specs.Prelude.{ℕ, ◌+◌, ◌*◌, ◌/◌, ◌%◌, ◌≤◌, ◌≡◌, Bool, List, ◌++◌, length, get_or, Result, Err}
use Rattle.lists.specs.Tables.{tabulate}
use Rattle.refusal.specs.Grounds.{unless}
use Rattle.refusal.specs.declared.Refusal.TheVariants.{WrongSize, WrongLength}
use Rattle.ports.specs.declared.size.Size.{Size}
use Rattle.ports.specs.declared.size.Block.{Block}
use Rattle.ports.specs.Block.{block, port_of, tile_port, tile_count, allowed, Allowed}
use Rattle.ports.specs.Lengths.{ports_per_tile, ports, settings_total, state_length}
use Rattle.ports.specs.PortIndex.{clk, cen, s_r, in_port}
use Rattle.cell.specs.declared.logic.Cell.{Cell}
use Rattle.cell.specs.declared.flip_flop.Control.{Control}
use Rattle.cell.specs.Settings.{cell_of}
use Rattle.cell.specs.Lookup.{lookup_bit}
use Rattle.cell.specs.NextState.{ticked, next_state}
use Rattle.netlist.specs.Running.{Bits}
use Rattle.equations.specs.Tiles.{table_of, flags_at, inverted}
use Rattle.stepper.specs.Settling.{port_value}
use Rattle.moments.specs.Checks.{settings_answer, bytes_answer}

-- "Clocking reads each tile's own clk, cen, s_r and in ports, whatever values it is handed": the value of port q of tile T, of which the port's own
-- number is the place
abbrev pub handed : List ℕ → ℕ → ℕ → ℕ
handed values T q = get_or values (port_of T q) 0

-- "a port has its wire's [value]": the value of port q of tile T, from the wires' values
abbrev pub of_wires : Block → List ℕ → ℕ → ℕ → ℕ
of_wires B values T q = port_value B values (tile_port B T q)

module _ (st : List ℕ) where
  -- cell i of tile T
  abbrev pub cell_at : ℕ → ℕ → Cell
  cell_at T i = cell_of (table_of st T i) (flags_at st T i)

  -- "A tile ticks if clk goes 0 to 1 without NegClk, or 1 to 0 with it"; cen before, s_r before and after
  abbrev pub control_of : (b a : ℕ → ℕ → ℕ) → ℕ → Control
  control_of b a T = record { tick = ticked (inverted st T) (b T clk) (a T clk); enable = b T cen; before = b T s_r; after = a T s_r }

  -- "The lookup here is the settings' table at the before values of the cell's in ports"
  abbrev pub lookup_at : (b : ℕ → ℕ → ℕ) → ℕ → ℕ → ℕ
  lookup_at b T i = lookup_bit (table_of st T i) (b T (in_port i 0)) (b T (in_port i 1)) (b T (in_port i 2)) (b T (in_port i 3))

  -- cell i of tile T is number 8T + i of the state
  unfoldable pub next_cell : (b a : ℕ → ℕ → ℕ) → List ℕ → ℕ → ℕ
  next_cell b a state c = next_state (cell_at (c / 8) (c % 8)) (control_of b a (c / 8)) (lookup_at b (c / 8) (c % 8)) (get_or state c 0)

-- the new state of every cell of a block of size S
unfoldable pub next_states : Size → List ℕ → (b a : ℕ → ℕ → ℕ) → List ℕ → List ℕ
next_states S st b a state = tabulate (next_cell st b a state) 0 (state_length S)

-- a value for each port. Clocking rests on no join, so a size is enough: both bytes for the column to the east have as many ports
abbrev pub values_length : Size → ℕ
values_length S = ports (block S.w S.h 0)

-- the values of tile T's ports are among those that are handed over
abbrev pub PortsInside : List ℕ → ℕ → Type 0
PortsInside values T = ports_per_tile * T + ports_per_tile ≤ length values

-- what grounds 1, 2 and 10 show of what is handed over, so that cells can be clocked
pub record Clockable (S : Size) (st state before after : List ℕ) : Type 0 where
  pub size : Allowed S
  pub settings_long : length st ≡ settings_total S
  pub state_long : length state ≡ state_length S
  pub before_long : length before ≡ values_length S
  pub before_bits : Bits before
  pub after_long : length after ≡ values_length S

-- What `clock` answers ("clocking 1, 2, 3, 9, 10, where 10 also covers settled values, after the state").
unfoldable pub clock_answer : Size → List ℕ → List ℕ → List ℕ → List ℕ → List ℕ → Bool → Result (Unit {0}) Refusal
clock_answer S t st state before after lengths =
    unless (allowed S) (Err WrongSize)
    (unless lengths (Err WrongLength)
    (settings_answer t st (tile_count S) (bytes_answer (state ++ before ++ after))))
