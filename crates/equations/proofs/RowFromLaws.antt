-- What the code that writes the rows shows: the wire of a port from the list of wires, a cell's ports, and the cases of `row_from`.
use Prim.Native.Nat.{ℕ, zero, suc, ◌+◌, ◌-◌, ◌*◌, ◌%◌, ◌≤◌, ◌<◌}
use mathlib.Core.Path.{◌≡◌, sym, ap}
use mathlib.Core.Logic.{◌≢◌}
use mathlib.Core.List.{List}
use native.Mathlib.Omega.{arith}
use native.Mathlib.Nat.{add-zero}
use lib.ListN.{get_or}
use borrow.Author.Tests.{eq-eqb, ne_eqb}
use Rattle.ports.specs.declared.size.Block.{Block}
use Rattle.ports.specs.Lengths.{ports, ports_per_tile}
use Rattle.ports.specs.Block.{port_of}
use Rattle.ports.specs.PortIndex.{carry_in_mux, cout_port}
use Rattle.fabric.specs.Wire.{wire_of}
use Rattle.netlist.specs.Kinds.{copy_kind}
use Rattle.netlist.specs.Rows.{zero_row}
use Rattle.equations.specs.declared.drives.Drive.{Drive}
use Rattle.equations.specs.declared.drives.Drive.TheVariants.{Nothing, Low, High, CellOut, CellLout, CellCout, CarryMux}
use Rattle.equations.specs.Equations.{carry_port}
use Rattle.equations.specs.Routed.{Driven}
use Rattle.equations.specs.Drives.{drive_of}
use Rattle.equations.specs.RowMeaning.{plain_row, in_wire}
use Rattle.equations.specs.WireRows.{drive_row}
use Rattle.equations.specs.Sources.{row_from}
use Rattle.equations.proofs.RoleLaws.{Role, role_all}

-- ---- the ports of a cell

pub in_first_lem : (B : Block) (T i : ℕ) → wire_of B (port_of T (372 + 4 * i)) ≡ in_wire B T i 0
in_first_lem B T i = ap (λ (q : ℕ). wire_of B (port_of T q)) (sym (add-zero (372 + 4 * i)))

pub carry_first : (i : ℕ) → i < 1 → carry_in_mux ≡ carry_port i
carry_first i h = let e : i ≡ 0 = omega arith in rw e

pub carry_next : (i : ℕ) → 1 ≤ i → cout_port (i - 1) ≡ carry_port i
carry_next zero h = absurd (omega arith)
carry_next (suc i) h = let e : suc i - 1 ≡ i = omega arith in rw e

-- ---- the tile and cell of a drive are the block's

role_driven : (B : Block) (p q : ℕ) (d : Drive) → Role B p q d → Driven B d
role_driven B p q Nothing r = tt
role_driven B p q Low r = tt
role_driven B p q High r = tt
role_driven B p q (CellOut T i) r = (r.tile_lt, r.cell_lt)
role_driven B p q (CellLout T i) r = (r.tile_lt, r.cell_lt)
role_driven B p q (CellCout T i) r = (r.tile_lt, r.cell_lt)
role_driven B p q (CarryMux T) r = r.tile_lt

pub drive_driven : (B : Block) (p : ℕ) → p < ports B → Driven B (drive_of B p)
drive_driven B p l = role_driven B p (p % ports_per_tile) (drive_of B p) (role_all B p l)

-- ---- the cases of a row

module _ (B : Block) (st sources : List ℕ) (p : ℕ) where
  pub row_from_none : wire_of B p ≢ p → zero_row ≡ row_from B st sources p
  unfolding row_from
  row_from_none ne = rw (ne_eqb _ _ ne)

  module _ (own : wire_of B p ≡ p) where
    pub row_from_switch : get_or sources p 0 ≢ 0 → plain_row copy_kind p (get_or sources p 0 - 1) ≡ row_from B st sources p
    unfolding row_from
    row_from_switch ne = rw (eq-eqb _ _ own, ne_eqb _ _ ne)

    pub row_from_drive : get_or sources p 0 ≡ 0 → drive_row B st p (drive_of B p) ≡ row_from B st sources p
    unfolding row_from
    row_from_drive z = rw (eq-eqb _ _ own, eq-eqb _ _ z)
