-- How every cell's state moves in a step, from the wires' values `b` before and `a` after (document 01, 'The list and a step').
use Rattle.std.specs.Prelude.{ℕ, ◌*◌, ◌/◌, ◌%◌, List, get_or}
use Rattle.lists.specs.Tables.{tabulate}
use Rattle.ports.specs.declared.size.Block.{Block}
use Rattle.ports.specs.Block.{tiles, tile_port}
use Rattle.ports.specs.PortIndex.{clk, cen, s_r, in_port}
use Rattle.cell.specs.declared.logic.Cell.{Cell}
use Rattle.cell.specs.declared.flip_flop.Control.{Control}
use Rattle.cell.specs.Settings.{cell_of}
use Rattle.cell.specs.Lookup.{lookup_bit}
use Rattle.cell.specs.NextState.{ticked, next_state}
use Rattle.equations.specs.Tiles.{table_of, flags_at, inverted}
use Rattle.stepper.specs.Settling.{port_value}

-- the value of port q of tile T
abbrev pub value_at : Block → List ℕ → ℕ → ℕ → ℕ
value_at B values T q = port_value B values (tile_port B T q)

module _ (B : Block) (st : List ℕ) where
  -- cell i of tile T
  abbrev pub cell_at : ℕ → ℕ → Cell
  cell_at T i = cell_of (table_of st T i) (flags_at st T i)

  -- "A tile ticks if clk goes 0 to 1 without NegClk, or 1 to 0 with it"; cen before, s_r before and after
  abbrev pub control_of : List ℕ → List ℕ → ℕ → Control
  control_of b a T =
      record { tick = ticked (inverted st T) (value_at B b T clk) (value_at B a T clk); enable = value_at B b T cen; before = value_at B b T s_r; after = value_at B a T s_r }

  -- "The lookup here is the settings' table at the before values of the cell's in ports"
  abbrev pub lookup_at : List ℕ → ℕ → ℕ → ℕ
  lookup_at b T i =
      lookup_bit (table_of st T i) (value_at B b T (in_port i 0)) (value_at B b T (in_port i 1)) (value_at B b T (in_port i 2)) (value_at B b T (in_port i 3))

  -- cell i of tile T is number 8T + i of the state
  unfoldable pub next_cell : List ℕ → List ℕ → List ℕ → ℕ → ℕ
  next_cell b a state c = next_state (cell_at (c / 8) (c % 8)) (control_of b a (c / 8)) (lookup_at b (c / 8) (c % 8)) (get_or state c 0)

  -- the state after the step
  unfoldable pub next_states : List ℕ → List ℕ → List ℕ → List ℕ
  next_states b a state = tabulate (next_cell b a state) 0 (8 * tiles B)
