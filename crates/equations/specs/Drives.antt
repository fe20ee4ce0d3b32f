-- What drives the wire of a port where no switch does: nothing, a constant, or the output of a cell. It is the same for all ports of a
-- wire (proofs/DriveLaws.antt), so it can be asked at the wire's own number.
use Rattle.std.specs.Prelude.{ℕ, zero, suc, ◌+◌, ◌*◌, ◌/◌, ◌%◌, cond, ◌&&◌, ltb}
use Rattle.ports.specs.declared.size.Block.{Block}
use Rattle.ports.specs.declared.Port.{Port}
use Rattle.ports.specs.declared.Port.TheVariants.{Sp4HL, Sp4HR, Sp4VT, Sp4VB, Sp4RVB, Sp12HL, Sp12HR, Sp12VT, Sp12VB, Local, Glb2Local, In, Out, NeighOp, Clk, Cen, SR, GlbNetwk, CarryIn, CarryInMux, Cout, Lout, Ltin}
use Rattle.ports.specs.Lengths.{ports_per_tile}
use Rattle.ports.specs.Ports.{port_at}
use Rattle.equations.specs.declared.drives.Drive.{Drive}
use Rattle.equations.specs.declared.drives.Drive.TheVariants.{Nothing, Low, High, CellOut, CellLout, CellCout, CarryMux}

-- output i of the tile (X - 1, Y - 1), where the block has it
abbrev pub output_drive : Block → ℕ → ℕ → ℕ → Drive
output_drive B zero Y i = Nothing
output_drive B (suc x) zero i = Nothing
output_drive B (suc x) (suc y) i = cond (ltb x B.w && ltb y B.h) (CellOut (y * B.w + x) i) Nothing

-- what the tile to the south gives, where the block has it
abbrev pub below_drive : (ℕ → Drive) → Block → ℕ → ℕ → Drive
below_drive f B x zero = Nothing
below_drive f B x (suc y) = f (y * B.w + x)

unfoldable pub drive_at : Block → ℕ → ℕ → Port → Drive
drive_at B x y (Sp4HL k) = Nothing
drive_at B x y (Sp4HR k) = Nothing
drive_at B x y (Sp4VT k) = Nothing
drive_at B x y (Sp4VB k) = Nothing
drive_at B x y (Sp4RVB k) = Nothing
drive_at B x y (Sp12HL k) = Nothing
drive_at B x y (Sp12HR k) = Nothing
drive_at B x y (Sp12VT k) = Nothing
drive_at B x y (Sp12VB k) = Nothing
drive_at B x y (Local k) = Low
drive_at B x y (Glb2Local k) = Low
drive_at B x y (In i j) = Low
drive_at B x y (Out i) = CellOut (y * B.w + x) i
drive_at B x y (NeighOp dx dy i) = output_drive B (x + dx) (y + dy) i
drive_at B x y Clk = Low
drive_at B x y Cen = High
drive_at B x y SR = Low
drive_at B x y (GlbNetwk n) = Nothing
drive_at B x y CarryIn = below_drive (λ T. CellCout T 7) B x y
drive_at B x y CarryInMux = CarryMux (y * B.w + x)
drive_at B x y (Cout i) = CellCout (y * B.w + x) i
drive_at B x y (Lout i) = CellLout (y * B.w + x) i
drive_at B x y Ltin = below_drive (λ T. CellLout T 7) B x y

unfoldable pub drive_of : Block → ℕ → Drive
drive_of B p = drive_at B (p / ports_per_tile % B.w) (p / ports_per_tile / B.w) (port_at (p % ports_per_tile))
