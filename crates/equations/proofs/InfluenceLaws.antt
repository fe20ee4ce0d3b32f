-- What a wire's value comes from. Two settings, of blocks with the same wires, which give a wire and all that it depends on one equation each, and lent
-- values that agree where these are lent, give the wire one value. Main laws: `same_value`; `says_row`: a wire has one equation; `lent_open`, `open_row`: a
-- lent row is an open wire's. Assumes nothing.
use Prim.Native.Nat.{ℕ, ◌/◌, ◌%◌, ◌<◌}
use mathlib.Core.Path.{◌≡◌, refl, sym, ap, subst, ◌∙◌}
use mathlib.Core.Bool.{true}
use mathlib.Core.List.{List}
use native.Mathlib.Omega.{arith}
use lib.ListN.{get_or}
use Rattle.ports.specs.declared.size.Block.{Block}
use Rattle.ports.specs.Block.{tiles, port_of}
use Rattle.ports.specs.Lengths.{ports, ports_per_tile}
use Rattle.ports.specs.PortIndex.{out_port, lout_port, cout_port, carry_in_mux, cen}
use Rattle.ports.proofs.BlockLaws.{port_of_lt}
use Rattle.fabric.specs.Wire.{wire_of}
use Rattle.netlist.specs.declared.row.Row.{Row}
use Rattle.netlist.specs.Kinds.{lent_kind}
use Rattle.netlist.specs.Rows.{operand_of}
use Rattle.netlist.proofs.AgreeLaws.{agree}
use Rattle.netlist.proofs.ValueLaws.{row_value_local, row_value_lent}
use Rattle.equations.specs.declared.drives.Drive.{Drive}
use Rattle.equations.specs.declared.drives.Drive.TheVariants.{Nothing, Low, High, CellOut, CellLout, CellCout, CarryMux}
use Rattle.equations.specs.Switches.{NoSwitch, NoContention}
use Rattle.equations.specs.Routed.{Routed}
use Rattle.equations.specs.Equations.{wire, OpenPort, NoCell, OpenWire, Meets, ReadsWire, NoLoop}
use Rattle.equations.specs.Drives.{drive_of}
use Rattle.equations.specs.RowMeaning.{plain_row, RowSays, switch_copies, open_lent, no_switch_zero, no_switch_one, out_flip_flop, out_lookup, lout_lookup, cout_majority, cout_zero, mux_one, mux_copies, mux_zero}
use Rattle.equations.specs.WireRows.{drive_row, row_of}
use Rattle.equations.proofs.PortKindLaws.{open_zero, open_cen, open_lt}
use Rattle.equations.proofs.DriveLaws.{drive_wire, out_drive, lout_drive, cout_drive, mux_drive, cen_drive, zero_drive}
use Rattle.equations.proofs.RoleLaws.{Role, role_all, of_cell}
use Rattle.equations.proofs.RowReasons.{row_switch, row_port_lem, row_cell}
use Rattle.equations.proofs.WireRowLaws.{graph, row_is, own_wire_lem, wire_own, flop_row, out_row, lout_row, carry_row, no_carry_row, set_row_lem, chain_row, unset_row}
use Rattle.equations.proofs.EqualLaws.{meets_row}
use Rattle.equations.proofs.ChainLaws.{says_reads, reads_exact}
use Rattle.equations.proofs.LoopLaws.{loop_exact}

module _ (B : Block) (t st : List ℕ) where
  -- a lent row is that of an open wire
  pub lent_open : (w : ℕ) (r : Row) → w < ports B → wire_of B w ≡ w → RowSays B t st w r → r.kind ≡ lent_kind → OpenWire B t st w
  lent_open w r l own (switch_copies s h) e = absurd (omega arith)
  lent_open w r l own (open_lent o f) e =
      let q : port_of (w / ports_per_tile) (w % ports_per_tile) ≡ w = omega arith in
      record {
        tile = w / ports_per_tile;
        port = w % ports_per_tile;
        tile_within = omega arith;
        port_open = o;
        at = ap (wire_of B) q ∙ own;
        undriven = f;
      }
  lent_open w r l own (no_switch_zero o f) e = absurd (omega arith)
  lent_open w r l own (no_switch_one o f) e = absurd (omega arith)
  lent_open w r l own (out_flip_flop T i m h q b) e = absurd (omega arith)
  lent_open w r l own (out_lookup T i m h q b) e = absurd (omega arith)
  lent_open w r l own (lout_lookup T i m h q) e = absurd (omega arith)
  lent_open w r l own (cout_majority T i m h q b) e = absurd (omega arith)
  lent_open w r l own (cout_zero T i m h q b) e = absurd (omega arith)
  lent_open w r l own (mux_one T m q b) e = absurd (omega arith)
  lent_open w r l own (mux_copies T m q b c) e = absurd (omega arith)
  lent_open w r l own (mux_zero T m q b c) e = absurd (omega arith)

  -- the row of a sentence names its wire
  pub says_wire : (w : ℕ) (r : Row) → RowSays B t st w r → r.wire ≡ w
  says_wire w r (switch_copies s h) = refl
  says_wire w r (open_lent o f) = refl
  says_wire w r (no_switch_zero o f) = refl
  says_wire w r (no_switch_one o f) = refl
  says_wire w r (out_flip_flop T i m h q b) = refl
  says_wire w r (out_lookup T i m h q b) = refl
  says_wire w r (lout_lookup T i m h q) = refl
  says_wire w r (cout_majority T i m h q b) = refl
  says_wire w r (cout_zero T i m h q b) = refl
  says_wire w r (mux_one T m q b) = refl
  says_wire w r (mux_copies T m q b c) = refl
  says_wire w r (mux_zero T m q b c) = refl

  -- ---- a wire has one equation

  -- what drives an open port's wire where no cell does
  open_drive : (p q : ℕ) (d : Drive) → Role B p q d → OpenPort q → NoCell B t st (wire_of B p) → d ≡ Nothing
  open_drive p q Nothing r o c = refl
  open_drive p q Low r o c = absurd (open_zero o r)
  open_drive p q High r o c = absurd (open_cen o r)
  open_drive p q (CellOut T i) r o c = absurd (c.no_out T i r.tile_lt r.cell_lt r.wire_same)
  open_drive p q (CellLout T i) r o c = absurd (c.no_lout T i r.tile_lt r.cell_lt r.wire_same)
  open_drive p q (CellCout T i) r o c = absurd (c.no_cout T i r.tile_lt r.cell_lt r.wire_same)
  open_drive p q (CarryMux T) r o c = absurd (c.no_mux T r.tile_lt r.wire_same)

  module _ (w : ℕ) (o : OpenWire B t st w) where
    open_port : port_of o.tile o.port < ports B
    open_port = port_of_lt B o.tile o.port o.tile_within (open_lt o.port_open)

    port_nothing : drive_of B (port_of o.tile o.port) ≡ Nothing
    port_nothing =
        let h = open_lt o.port_open in
        let m : port_of o.tile o.port % ports_per_tile ≡ o.port = omega arith in
        open_drive (port_of o.tile o.port) o.port _ (rw m at (role_all B (port_of o.tile o.port) open_port)) o.port_open
        (subst (NoCell B t st) (sym o.at) o.undriven.no_cell)

    -- nothing drives an open wire, and its row is lent
    pub open_nothing : drive_of B w ≡ Nothing
    open_nothing = subst (λ (v : ℕ). drive_of B v ≡ Nothing) o.at (drive_wire B _ open_port ∙ port_nothing)

    pub open_row : row_of B t st w ≡ plain_row lent_kind w 0
    unfolding drive_row
    open_row =
        subst (λ (v : ℕ). row_of B t st v ≡ plain_row lent_kind v 0) o.at
        (row_port_lem B t st (port_of o.tile o.port) Nothing open_port port_nothing (subst (NoSwitch B t st) (sym o.at) o.undriven.no_switch))

  module _ (ok : Routed B t st) (free : NoContention B t st) where
    row_own : (w : ℕ) (d : Drive) → w < ports B → wire_of B w ≡ w → drive_of B w ≡ d → NoSwitch B t st w → row_of B t st w ≡ drive_row B st w d
    row_own w d l own e f =
        subst (λ (v : ℕ). row_of B t st v ≡ drive_row B st v d) own (row_port_lem B t st w d l e (subst (NoSwitch B t st) (sym own) f))

    row_out : (w T q : ℕ) (d : Drive) → T < tiles B → q < ports_per_tile → wire B T q ≡ w → drive_of B (port_of T q) ≡ d → of_cell d ≡ true
        → row_of B t st w ≡ drive_row B st w d
    row_out w T q d l h at e c =
        subst (λ (v : ℕ). row_of B t st v ≡ drive_row B st v d) at (row_cell B t st ok (port_of T q) d (port_of_lt B T q l h) e c)

    -- the row that a sentence gives to a wire is the wire's row, so no second one fits
    pub says_row : (w : ℕ) (r : Row) → w < ports B → wire_of B w ≡ w → RowSays B t st w r → row_of B t st w ≡ r
    unfolding drive_row
    says_row w r l own (switch_copies s h) = row_switch B t st free w s own h
    says_row w r l own (open_lent o f) =
        row_own w Nothing l own
        (open_drive w (w % ports_per_tile) _ (role_all B w l) o (subst (NoCell B t st) (sym own) f.no_cell)) f.no_switch
    says_row w r l own (no_switch_zero o f) =
        let q : port_of (w / ports_per_tile) (w % ports_per_tile) ≡ w = omega arith in
        row_own w Low l own (subst (λ (v : ℕ). drive_of B v ≡ Low) q (zero_drive B (w / ports_per_tile) o)) f
    says_row w r l own (no_switch_one o f) =
        let q : port_of (w / ports_per_tile) cen ≡ w = omega arith in
        row_own w High l own (subst (λ (v : ℕ). drive_of B v ≡ High) q (cen_drive B (w / ports_per_tile))) f
    says_row w r l own (out_flip_flop T i m h q b) = row_out w T (out_port i) (CellOut T i) m (omega arith) q (out_drive B T i h) refl ∙ flop_row B st w T i b
    says_row w r l own (out_lookup T i m h q b) = row_out w T (out_port i) (CellOut T i) m (omega arith) q (out_drive B T i h) refl ∙ out_row B st w T i b
    says_row w r l own (lout_lookup T i m h q) = row_out w T (lout_port i) (CellLout T i) m (omega arith) q (lout_drive B T i h) refl ∙ lout_row B st w T i
    says_row w r l own (cout_majority T i m h q b) = row_out w T (cout_port i) (CellCout T i) m (omega arith) q (cout_drive B T i h) refl ∙ carry_row B st w T i b
    says_row w r l own (cout_zero T i m h q b) = row_out w T (cout_port i) (CellCout T i) m (omega arith) q (cout_drive B T i h) refl ∙ no_carry_row B st w T i b
    says_row w r l own (mux_one T m q b) = row_out w T carry_in_mux (CarryMux T) m (omega arith) q (mux_drive B T) refl ∙ set_row_lem B st w T b
    says_row w r l own (mux_copies T m q b c) = row_out w T carry_in_mux (CarryMux T) m (omega arith) q (mux_drive B T) refl ∙ chain_row B st w T b c
    says_row w r l own (mux_zero T m q b c) = row_out w T carry_in_mux (CarryMux T) m (omega arith) q (mux_drive B T) refl ∙ unset_row B st w T b c

    -- a wire reads the same under all settings, of whatever block, that give it that row
    pub same_reads : (C : Block) (u su : List ℕ) (w d : ℕ) (r : Row) → w < ports B → wire_of B w ≡ w → RowSays B t st w r → RowSays C u su w r
        → ReadsWire B t st w d → ReadsWire C u su w d
    same_reads C u su w d r l own first second read =
        let (j, h, e) = (reads_exact B t st ok free w d).0 read in
        let is = row_is B t st w l ∙ says_row w r l own first in
        subst (λ (v : ℕ). ReadsWire C u su w v) (ap (λ (x : Row). operand_of x j) (sym is) ∙ e) (says_reads C u su w r second j (rw is at h))

module _ (B C : Block) (t st u su state lent other : List ℕ) where
  -- both settings give wire w the equation of one row, and where its value is lent, one value
  pub record Shared (w : ℕ) : Type 0 where
    pub row : Row
    pub first : RowSays B t st w row
    pub second : RowSays C u su w row
    pub lent_same : row.kind ≡ lent_kind → get_or lent w 0 ≡ get_or other w 0

  module _ (ok : Routed B t st) (free : NoContention B t st) (none : NoLoop B t st) (x y : List ℕ) (mx : Meets B t st state lent x)
      (my : Meets C u su state other y) (there : (w : ℕ) → w < ports B → wire_of B w ≡ w → (w < ports C) × (wire_of C w ≡ w)) (P : ℕ → Type 0) (closed : (w d : ℕ) → P w → ReadsWire B t st w d → P d)
      (shared : (w : ℕ) → w < ports B → wire_of B w ≡ w → P w → Shared w) where
    -- at a wire whose reads agree
    hands_on : (w : ℕ) → w < ports B → wire_of B w ≡ w → Shared w → ((d : ℕ) → ReadsWire B t st w d → get_or x d 0 ≡ get_or y d 0) → get_or x w 0 ≡ get_or y w 0
    hands_on w l own s reads =
        meets_row B t st state lent x mx w s.row s.first l own
        ∙ row_value_lent s.row state lent other x
        (λ e. subst (λ (v : ℕ). get_or lent v 0 ≡ get_or other v 0) (sym (says_wire B t st w s.row s.first)) (s.lent_same e))
        ∙ row_value_local s.row state other x y (λ j h. reads (operand_of s.row j) (says_reads B t st w s.row s.first j h))
        ∙ sym (meets_row C u su state other y my w s.row s.second (there w l own).0 (there w l own).1)

    pub same_value : (w : ℕ) → w < ports B → wire_of B w ≡ w → P w → get_or x w 0 ≡ get_or y w 0
    same_value w l own p =
        agree (graph B t st) (ports B) ((loop_exact B t st ok free).1 none) P (λ v d q r. closed v d q ((reads_exact B t st ok free v d).1 r)) x y
        (λ v k iv q agreed.
        let o = (wire_own B t st v iv).1 in
        hands_on v k o (shared v k o q) (λ d r. agreed d ((reads_exact B t st ok free v d).0 r)))
        w l (own_wire_lem B t st w l own) p
