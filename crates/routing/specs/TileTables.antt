-- The kind of a block's tile, and the table that says what its bits mean. All tiles are logic tiles under one lent table. Whatever lists
-- switches or settings goes through these two, so another kind of tile is a change here.
use Rattle.std.specs.Prelude.{ℕ, List}
use Rattle.ports.specs.declared.size.Block.{Block}
use Rattle.routing.specs.TileKind.{TileKind}
use Rattle.routing.specs.LogicTile.{logic_tile}

-- what tile T of a block is
abbrev pub kind_of : Block → ℕ → TileKind
kind_of B T = logic_tile

-- its table, of what is lent as tables
abbrev pub table_for : Block → List ℕ → ℕ → List ℕ
table_for B tables T = tables
