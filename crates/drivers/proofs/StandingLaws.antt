-- What stands at a wire on which no switch ends, in the paper's words and by its drive. Main laws: `stands_at`, `stands_drive`.
use Prim.Native.Nat.{ℕ, ◌+◌, ◌*◌, ◌/◌, ◌%◌, ◌<◌}
use mathlib.Core.Path.{◌≡◌, refl, sym, ◌∙◌, ap}
use mathlib.Core.List.{List}
use native.Mathlib.Omega.{arith}
use Rattle.ports.specs.declared.size.Block.{Block}
use Rattle.ports.specs.Block.{tiles, port_of}
use Rattle.ports.specs.Lengths.{ports, ports_per_tile}
use Rattle.fabric.specs.Wire.{wire_of}
use Rattle.ports.proofs.BlockLaws.{port_of_lt}
use Rattle.equations.specs.declared.drives.Drive.{Drive}
use Rattle.equations.specs.declared.drives.Drive.TheVariants.{Nothing, Low, High, CellOut, CellLout, CellCout, CarryMux}
use Rattle.equations.specs.Switches.{NoSwitch}
use Rattle.equations.specs.Equations.{wire, OpenPort, NoCell}
use Rattle.equations.specs.Drives.{drive_of}
use Rattle.equations.proofs.DriveLaws.{drive_wire, out_drive, lout_drive, cout_drive, mux_drive, cen_drive, zero_drive}
use Rattle.equations.proofs.PortKindLaws.{open_zero, open_cen, open_lt, zero_lt}
use Rattle.equations.proofs.RoleLaws.{Role, role_all}
use Rattle.drivers.specs.declared.follow.Driver.{Driver}
use Rattle.drivers.specs.Following.{StandsAt, open_wire, zero_wire, one_wire, out_wire, lout_wire, cout_wire, mux_wire, end_driver}

module _ (B : Block) (t st : List ℕ) where
  -- the drive of a wire is that of each of its ports
  pub drive_at_lem : {u T q : ℕ} {d : Drive} → T < tiles B → q < ports_per_tile → wire B T q ≡ u → drive_of B (port_of T q) ≡ d → drive_of B u ≡ d
  drive_at_lem {u} {T} {q} lT lq e h = ap (drive_of B) (sym e) ∙ drive_wire B (port_of T q) (port_of_lt B T q lT lq) ∙ h

  -- an undriven wire's drive is none of a cell
  nothing_no_cell : (u : ℕ) → drive_of B u ≡ Nothing → NoCell B t st u
  nothing_no_cell u n = record {
    no_out = λ T i lT li e. let h = drive_at_lem lT (omega arith) e (out_drive B T i li) in let z : ◌≡◌ {A = ℕ} 0 1 = cc in omega arith;
    no_lout = λ T i lT li e. let h = drive_at_lem lT (omega arith) e (lout_drive B T i li) in let z : ◌≡◌ {A = ℕ} 0 1 = cc in omega arith;
    no_cout = λ T i lT li e. let h = drive_at_lem lT (omega arith) e (cout_drive B T i li) in let z : ◌≡◌ {A = ℕ} 0 1 = cc in omega arith;
    no_mux = λ T lT e. let h = drive_at_lem lT (omega arith) e (mux_drive B T) in let z : ◌≡◌ {A = ℕ} 0 1 = cc in omega arith;
  }

  module _ (u : ℕ) (l : u < ports B) (own : wire_of B u ≡ u) (none : NoSwitch B t st u) where
    -- u as a port of its tile
    own_wire_lem : wire B (u / ports_per_tile) (u % ports_per_tile) ≡ u
    own_wire_lem = ap (wire_of B) (let e : ports_per_tile * (u / ports_per_tile) + u % ports_per_tile ≡ u = omega arith in e) ∙ own

    pub stands_at : StandsAt B t st u (end_driver u (drive_of B u))
    stands_at = go (drive_of B u) refl (role_all B u l)
      where
        tile_lt : u / ports_per_tile < tiles B
        tile_lt = omega arith

        go : (d : Drive) → drive_of B u ≡ d → Role B u (u % ports_per_tile) d → StandsAt B t st u (end_driver u d)
        go Nothing e r = open_wire _ _ tile_lt r own_wire_lem (record { no_switch = none; no_cell = nothing_no_cell u e })
        go Low e r = zero_wire _ _ tile_lt r own_wire_lem
        go High e r = one_wire _ tile_lt (ap (λ (q : ℕ). wire B (u / ports_per_tile) q) (sym r) ∙ own_wire_lem)
        go (CellOut T i) e r = out_wire T i r.tile_lt r.cell_lt (r.wire_same ∙ own)
        go (CellLout T i) e r = lout_wire T i r.tile_lt r.cell_lt (r.wire_same ∙ own)
        go (CellCout T i) e r = cout_wire T i r.tile_lt r.cell_lt (r.wire_same ∙ own)
        go (CarryMux T) e r = mux_wire T r.tile_lt (r.wire_same ∙ own)

  -- an open wire that no cell drives has no drive
  open_nothing : {u : ℕ} (T q : ℕ) → T < tiles B → OpenPort q → wire B T q ≡ u → NoCell B t st u → drive_of B u ≡ Nothing
  open_nothing {u} T q lT o e free =
      let m : port_of T q % ports_per_tile ≡ q = let lq = open_lt o in omega arith in
      go (drive_of B (port_of T q)) refl (rw m at (role_all B (port_of T q) (port_of_lt B T q lT (open_lt o))))
    where
      go : (d : Drive) → drive_of B (port_of T q) ≡ d → Role B (port_of T q) q d → drive_of B u ≡ Nothing
      go Nothing h r = drive_at_lem lT (open_lt o) e h
      go Low h r = absurd (open_zero o r)
      go High h r = absurd (open_cen o r)
      go (CellOut S i) h r = absurd (free.no_out S i r.tile_lt r.cell_lt (r.wire_same ∙ e))
      go (CellLout S i) h r = absurd (free.no_lout S i r.tile_lt r.cell_lt (r.wire_same ∙ e))
      go (CellCout S i) h r = absurd (free.no_cout S i r.tile_lt r.cell_lt (r.wire_same ∙ e))
      go (CarryMux S) h r = absurd (free.no_mux S r.tile_lt (r.wire_same ∙ e))

  -- the drive decides what stands there
  pub stands_drive : {u : ℕ} {d : Driver} → StandsAt B t st u d → d ≡ end_driver u (drive_of B u)
  stands_drive {u} (open_wire T q lT o e free) = rw (open_nothing T q lT o e free.no_cell)
  stands_drive {u} (zero_wire T q lT z e) = rw (drive_at_lem lT (zero_lt z) e (zero_drive B T z))
  stands_drive {u} (one_wire T lT e) = rw (drive_at_lem lT (omega arith) e (cen_drive B T))
  stands_drive {u} (out_wire T i lT li e) = rw (drive_at_lem lT (omega arith) e (out_drive B T i li))
  stands_drive {u} (lout_wire T i lT li e) = rw (drive_at_lem lT (omega arith) e (lout_drive B T i li))
  stands_drive {u} (cout_wire T i lT li e) = rw (drive_at_lem lT (omega arith) e (cout_drive B T i li))
  stands_drive {u} (mux_wire T lT e) = rw (drive_at_lem lT (omega arith) e (mux_drive B T))
