-- The wires of outputs, computed: the lowest of the ports that show one output of a cell, of a tile inside the block or outside it.
use Rattle.std.specs.Prelude.{ℕ, ◌+◌, ◌-◌, min}
use Rattle.ports.specs.declared.size.Block.{Block}
use Rattle.ports.specs.Block.{port}
use Rattle.ports.specs.PortIndex.{output_at}

-- the lowest port for output i of the tile (X - 1, Y - 1): that of the tile furthest south and west that sees it
abbrev pub first_output : Block → ℕ → ℕ → ℕ → ℕ
first_output B X Y i = port B (X - 2) (Y - 2) (output_at (min X 2) (min Y 2) i)

-- the wire of the tile (x, y)'s port for output i of the tile (x + dx - 1, y + dy - 1)
abbrev pub output_wire : Block → ℕ → ℕ → ℕ → ℕ → ℕ → ℕ
output_wire B x y dx dy i = first_output B (x + dx) (y + dy) i
