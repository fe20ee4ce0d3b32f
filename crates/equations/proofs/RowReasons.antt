-- The computed row of a wire is the one of specs/RowMeaning.antt (`row_says`; `why` of any port); and the other way round, the row that a sentence of
-- the equations gives (`row_switch`, `row_port_lem`, `row_cell`). What is shown of every row goes by cases on the reason, and no test is looked at again.
use Prim.Native.Nat.{ℕ, ◌+◌, ◌*◌, ◌%◌, ◌≤◌, ◌<◌}
use mathlib.Core.Path.{◌≡◌, refl, sym, ◌∙◌, ap}
use mathlib.Core.Bool.{Bool, true, false, cond}
use mathlib.Core.Logic.{◌⊎◌, inl, inr, ◌≢◌}
use mathlib.Core.List.{List}
use native.Mathlib.Omega.{arith}
use lib.Dec.{eqb, ltb}
use borrow.Author.Tests.{eq-eqb, eqb-true, eqb-false, lt-ltb, le-ltb}
use Rattle.lists.proofs.CaseLaws.{clash, lt_or_le}
use Rattle.ports.specs.declared.size.Block.{Block}
use Rattle.ports.specs.Block.{tiles, port_of}
use Rattle.ports.specs.Lengths.{ports, ports_per_tile}
use Rattle.ports.specs.PortIndex.{out_port, cout_port, lout_port, carry_in, carry_in_mux}
use Rattle.fabric.specs.Wire.{wire_of}
use Rattle.ports.proofs.BlockLaws.{port_of_lt}
use Rattle.fabric.proofs.WireLaws.{wire_idempotent}
use Rattle.netlist.specs.declared.row.Row.{Row}
use Rattle.netlist.specs.Kinds.{zero_kind, one_kind, flip_flop_kind, copy_kind}
use Rattle.netlist.specs.Rows.{zero_row}
use Rattle.equations.specs.declared.drives.Drive.{Drive}
use Rattle.equations.specs.declared.drives.Drive.TheVariants.{Nothing, Low, High, CellOut, CellLout, CellCout, CarryMux}
use Rattle.equations.specs.Tiles.{carry_on, flop_on, carry_set, chained}
use Rattle.equations.specs.Switches.{switches, origin, Ends, NoSwitch, NoContention}
use Rattle.equations.specs.Routed.{Routed}
use Rattle.equations.specs.Equations.{NoCell}
use Rattle.equations.specs.Drives.{drive_of}
use Rattle.equations.specs.RowMeaning.{plain_row, lookup_row, majority_row, RowSays, switch_copies, open_lent, no_switch_zero, no_switch_one, out_flip_flop, out_lookup, lout_lookup, cout_majority, cout_zero, mux_one, mux_copies, mux_zero}
use Rattle.equations.specs.WireRows.{drive_row, driver, row_of}
use Rattle.equations.proofs.DriveLaws.{drive_wire, out_drive, lout_drive, cout_drive, mux_drive}
use Rattle.equations.proofs.RoleLaws.{Role, role_all, of_cell}
use Rattle.equations.proofs.SwitchLaws.{driver_ends, driver_none, no_driver, driver_is, cell_free}

module _ (B : Block) (t st : List ℕ) where
  -- ---- the row of a wire

  pub row_switch : NoContention B t st → (w s : ℕ) → wire_of B w ≡ w → Ends B t st s w → row_of B t st w ≡ plain_row copy_kind w (origin B t st s)
  unfolding row_of
  row_switch free w s e h = rw (eq-eqb _ _ e, driver_is B t st w free s h, lt-ltb s (switches B) h.within)

  row_drive : (w : ℕ) → wire_of B w ≡ w → NoSwitch B t st w → row_of B t st w ≡ drive_row B st w (drive_of B w)
  unfolding row_of
  row_drive w e h = rw (eq-eqb _ _ e, le-ltb (driver B t st w) (switches B) (no_driver B t st w h))

  -- at the wire of a port with no switch
  pub row_port_lem : (p : ℕ) (d : Drive) → p < ports B → drive_of B p ≡ d → NoSwitch B t st (wire_of B p)
      → row_of B t st (wire_of B p) ≡ drive_row B st (wire_of B p) d
  row_port_lem p d l e h = row_drive (wire_of B p) (wire_idempotent B p l) h ∙ ap (drive_row B st (wire_of B p)) (drive_wire B p l ∙ e)

  -- at the output of a cell
  pub row_cell : Routed B t st → (p : ℕ) (d : Drive) → p < ports B → drive_of B p ≡ d → of_cell d ≡ true
      → row_of B t st (wire_of B p) ≡ drive_row B st (wire_of B p) d
  row_cell ok p d l e c = row_port_lem p d l e (cell_free B t st ok p d l e c)

  -- ---- why it is that

  pub data Why (w : ℕ) : Row → Type 0 where
    no_wire : wire_of B w ≢ w → Why w zero_row
    says : {r : Row} → RowSays B t st w r → Why w r

  no_cell : (w : ℕ) → drive_of B w ≡ Nothing → NoCell B t st w
  no_cell w e = record {
    no_out = λ T i l h q. apart T (out_port i) (CellOut T i) l (omega arith) (out_drive B T i h) refl q;
    no_lout = λ T i l h q. apart T (lout_port i) (CellLout T i) l (omega arith) (lout_drive B T i h) refl q;
    no_cout = λ T i l h q. apart T (cout_port i) (CellCout T i) l (omega arith) (cout_drive B T i h) refl q;
    no_mux = λ T l q. apart T carry_in_mux (CarryMux T) l (omega arith) (mux_drive B T) refl q;
  }
    where
      apart : (T q : ℕ) (d : Drive) → T < tiles B → q < ports_per_tile → drive_of B (port_of T q) ≡ d → of_cell d ≡ true → wire_of B (port_of T q) ≡ w → ⊥
      apart T q d l lq is c k =
          clash {b = of_cell (drive_of B w)}
          (ap of_cell (sym (ap (drive_of B) k) ∙ drive_wire B _ (port_of_lt B T q l lq) ∙ is) ∙ c)
          (ap of_cell e)

  drive_says : (w : ℕ) → wire_of B w ≡ w → NoSwitch B t st w → (d : Drive) → drive_of B w ≡ d → Role B w (w % ports_per_tile) d → RowSays B t st w (drive_row B st w d)
  unfolding drive_row
  drive_says w own free Nothing e r = open_lent r (record { no_switch = free; no_cell = no_cell w e })
  drive_says w own free Low e r = no_switch_zero r free
  drive_says w own free High e r = no_switch_one r free
  drive_says w own free (CellOut T i) e r = go (flop_on st T i) refl
    where
      go : (b : Bool) → flop_on st T i ≡ b → RowSays B t st w (cond b (plain_row flip_flop_kind w (8 * T + i)) (lookup_row B st w T i))
      go true q = out_flip_flop T i r.tile_lt r.cell_lt (r.wire_same ∙ own) q
      go false q = out_lookup T i r.tile_lt r.cell_lt (r.wire_same ∙ own) q
  drive_says w own free (CellLout T i) e r = lout_lookup T i r.tile_lt r.cell_lt (r.wire_same ∙ own)
  drive_says w own free (CellCout T i) e r = go (carry_on st T i) refl
    where
      go : (b : Bool) → carry_on st T i ≡ b → RowSays B t st w (cond b (majority_row B w T i) (plain_row zero_kind w 0))
      go true q = cout_majority T i r.tile_lt r.cell_lt (r.wire_same ∙ own) q
      go false q = cout_zero T i r.tile_lt r.cell_lt (r.wire_same ∙ own) q
  drive_says w own free (CarryMux T) e r = go (carry_set st T) (chained st T) refl refl
    where
      go : (a b : Bool) → carry_set st T ≡ a → chained st T ≡ b
          → RowSays B t st w (cond a (plain_row one_kind w 0) (cond b (plain_row copy_kind w (wire_of B (port_of T carry_in))) (plain_row zero_kind w 0)))
      go true b a q = mux_one T r.tile_lt (r.wire_same ∙ own) a
      go false true a q = mux_copies T r.tile_lt (r.wire_same ∙ own) a q
      go false false a q = mux_zero T r.tile_lt (r.wire_same ∙ own) a q

  pub why : (w : ℕ) → w < ports B → Why w (row_of B t st w)
  unfolding row_of
  why w l = go (eqb (wire_of B w) w) refl (lt_or_le (driver B t st w) (switches B))
    where
      go : (b : Bool) → eqb (wire_of B w) w ≡ b → (driver B t st w < switches B) ⊎ (switches B ≤ driver B t st w)
          → Why w
          (cond b (cond (ltb (driver B t st w) (switches B)) (plain_row copy_kind w (origin B t st (driver B t st w))) (drive_row B st w (drive_of B w))) zero_row)
      go true e (inl d) = rw (lt-ltb _ _ d) (says (switch_copies _ (driver_ends B t st w d)))
      go true e (inr d) = rw (le-ltb _ _ d) (says (drive_says w (eqb-true _ _ e) (driver_none B t st w d) (drive_of B w) refl (role_all B w l)))
      go false e s = no_wire (eqb-false _ _ e)

  -- the row of a wire is the one that its sentence gives
  pub row_says : (w : ℕ) → w < ports B → wire_of B w ≡ w → RowSays B t st w (row_of B t st w)
  row_says w l own = go (row_of B t st w) (why w l)
    where
      go : (r : Row) → Why w r → RowSays B t st w r
      go r (no_wire n) = absurd (n own)
      go r (says s) = s
