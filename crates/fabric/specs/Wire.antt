-- The number of the wire that a port is on, computed: "A wire's number is its lowest port number." proofs/WireLaws.antt proves that it is
-- the number by the joins.
use Rattle.std.specs.Prelude.{ℕ, zero, suc, ◌/◌, ◌%◌, List}
use Rattle.lists.specs.Tables.{tabulate}
use Rattle.ports.specs.declared.size.Block.{Block}
use Rattle.ports.specs.declared.Port.{Port}
use Rattle.ports.specs.declared.Port.TheVariants.{Sp4HL, Sp4HR, Sp4VT, Sp4VB, Sp4RVB, Sp12HL, Sp12HR, Sp12VT, Sp12VB, Local, Glb2Local, In, Out, NeighOp, Clk, Cen, SR, GlbNetwk, CarryIn, CarryInMux, Cout, Lout, Ltin}
use Rattle.ports.specs.Block.{port}
use Rattle.ports.specs.Lengths.{ports, ports_per_tile}
use Rattle.ports.specs.PortIndex.{glb_netwk, carry_in, cout_port, lout_port, ltin}
use Rattle.ports.specs.Ports.{port_at}
use Rattle.ports.specs.PortNames.{index_of}
use Rattle.fabric.specs.Span.{flip, span4_row, span12_row}
use Rattle.fabric.specs.SpanWire.{row_wire, sp4_column, sp12_column, right_wire}
use Rattle.fabric.specs.OutputWire.{output_wire}

-- port q of the tile to the south, where the block has that tile, else the tile's own port
abbrev pub below : Block → ℕ → ℕ → ℕ → ℕ → ℕ
below B x zero own q = port B x 0 own
below B x (suc y) own q = port B x y q

-- the lowest port on the wire of the port P of the tile (x, y)
unfoldable pub wire_at : Block → ℕ → ℕ → Port → ℕ
wire_at B x y (Sp4HL k) = row_wire flip span4_row B y x k
wire_at B x y (Sp4HR k) = row_wire flip span4_row B y (suc x) k
wire_at B x y (Sp4VT k) = sp4_column B x (suc y) k
wire_at B x y (Sp4VB k) = sp4_column B x y k
wire_at B x y (Sp4RVB k) = right_wire B x y k
wire_at B x y (Sp12HL k) = row_wire flip span12_row B y x k
wire_at B x y (Sp12HR k) = row_wire flip span12_row B y (suc x) k
wire_at B x y (Sp12VT k) = sp12_column B x (suc y) k
wire_at B x y (Sp12VB k) = sp12_column B x y k
wire_at B x y (Out i) = output_wire B x y 1 1 i
wire_at B x y (NeighOp dx dy i) = output_wire B x y dx dy i
wire_at B x y (GlbNetwk n) = port B 0 0 (glb_netwk n)
wire_at B x y CarryIn = below B x y carry_in (cout_port 7)
wire_at B x y Ltin = below B x y ltin (lout_port 7)
-- these have no join, or only one to a port of a tile to the north
wire_at B x y (Local k) = port B x y (index_of (Local k))
wire_at B x y (Glb2Local k) = port B x y (index_of (Glb2Local k))
wire_at B x y (In i j) = port B x y (index_of (In i j))
wire_at B x y Clk = port B x y (index_of Clk)
wire_at B x y Cen = port B x y (index_of Cen)
wire_at B x y SR = port B x y (index_of SR)
wire_at B x y CarryInMux = port B x y (index_of CarryInMux)
wire_at B x y (Cout i) = port B x y (index_of (Cout i))
wire_at B x y (Lout i) = port B x y (index_of (Lout i))

-- the number of the wire that port number p of a block is on
unfoldable pub wire_of : Block → ℕ → ℕ
wire_of B p = wire_at B (p / ports_per_tile % B.w) (p / ports_per_tile / B.w) (port_at (p % ports_per_tile))

-- the wire of each port of the block, one after another
unfoldable pub wires_of : Block → List ℕ
wires_of B = tabulate (wire_of B) 0 (ports B)
