-- How many wires a block has (document 01, 'The list and a step': "the row count, which is the number of wires").
use Rattle.std.specs.Prelude.{ℕ, Bool, eqb}
use Rattle.lists.specs.Search.{count_below}
use Rattle.ports.specs.declared.size.Block.{Block}
use Rattle.ports.specs.Lengths.{ports}
use Rattle.fabric.specs.Wire.{wire_of}

-- whether a port of the block is the lowest of its wire; it says nothing of a number that is no port of the block
unfoldable pub own_wire : Block → ℕ → Bool
own_wire B p = eqb (wire_of B p) p

-- how many wires a block has: each has one lowest port, and these are counted
unfoldable pub wires : Block → ℕ
wires B = count_below (own_wire B) (ports B)
