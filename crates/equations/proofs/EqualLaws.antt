-- Values meet the equations exactly if they solve the rows. Main laws: `meets_solves`, `solves_meets`; `meets_row`: at one wire.
use Prim.Native.Nat.{ℕ, ◌+◌, ◌*◌, ◌/◌, ◌%◌, ◌<◌}
use mathlib.Core.Path.{◌≡◌, refl, sym, ◌∙◌, ap, subst}
use mathlib.Core.Bool.{true}
use mathlib.Core.List.{List}
use native.Mathlib.Omega.{arith}
use lib.ListN.{get_or}
use Rattle.ports.specs.declared.size.Block.{Block}
use Rattle.ports.specs.Block.{tiles, port_of}
use Rattle.ports.specs.Lengths.{ports, ports_per_tile}
use Rattle.ports.specs.PortIndex.{in_port, out_port, cout_port, lout_port, carry_in, carry_in_mux, cen}
use Rattle.fabric.specs.Wire.{wire_of}
use Rattle.ports.proofs.BlockLaws.{port_of_lt}
use Rattle.fabric.proofs.WireLaws.{wire_within, wire_idempotent}
use Rattle.cell.specs.Lookup.{majority}
use Rattle.netlist.specs.declared.row.Row.{Row}
use Rattle.netlist.specs.Rows.{row_at, operand_of}
use Rattle.netlist.specs.Running.{row_value}
use Rattle.netlist.specs.Equations.{Solves}
use Rattle.equations.specs.declared.drives.Drive.{Drive}
use Rattle.equations.specs.declared.drives.Drive.TheVariants.{Nothing, Low, High, CellOut, CellLout, CellCout, CarryMux}
use Rattle.equations.specs.Switches.{origin, NoSwitch, NoContention}
use Rattle.equations.specs.Routed.{Routed}
use Rattle.equations.specs.Equations.{wire, val, looked, carry_port, OpenPort, NoCell, Undriven, Meets}
use Rattle.equations.specs.Drives.{drive_of}
use Rattle.equations.specs.WireRows.{drive_row, row_of, wire_rows}
use Rattle.equations.proofs.DriveLaws.{out_drive, lout_drive, cout_drive, mux_drive, cen_drive, zero_drive}
use Rattle.equations.proofs.PortKindLaws.{open_zero, open_cen, open_lt, zero_lt}
use Rattle.equations.proofs.RoleLaws.{Role, role_all, of_cell}
use Rattle.equations.proofs.SwitchLaws.{target_lt, target_own}
use Rattle.equations.specs.RowMeaning.{RowSays, switch_copies, open_lent, no_switch_zero, no_switch_one, out_flip_flop, out_lookup, lout_lookup, cout_majority, cout_zero, mux_one, mux_copies, mux_zero}
use Rattle.equations.proofs.RowReasons.{Why, no_wire, says, why, row_switch, row_port_lem, row_cell}
use Rattle.equations.proofs.WireRowLaws.{graph, row_is, own_wire_lem, wire_own, flop_row, out_row, lout_row, carry_row, no_carry_row, set_row_lem, chain_row, unset_row}

module _ (B : Block) (t st state lent v : List ℕ) where
  -- the rows' equations hold
  abbrev pub SolvesRows : Type 0
  SolvesRows = Solves (graph B t st) (ports B) (λ x w. row_value (row_at (wire_rows B t st) w) state lent x) v

  -- ---- what meets the equations solves the rows

  module _ (m : Meets B t st state lent v) where
    holds : (w : ℕ) (r : Row) → Why B t st w r → w < ports B → wire_of B w ≡ w → get_or v w 0 ≡ row_value r state lent v
    unfolding row_value operand_of
    holds w r (no_wire n) l own = absurd (n own)
    holds w r (says (switch_copies s h)) l own = subst (λ (u : ℕ). get_or v u 0 ≡ get_or v (origin B t st s) 0) h.onto (m.switch s h.within h.on)
    holds w r (says (open_lent o f)) l own =
        let e : port_of (w / ports_per_tile) (w % ports_per_tile) ≡ w = omega arith in
        subst (λ (u : ℕ). Undriven B t st u → get_or v u 0 ≡ get_or lent u 0) (ap (wire_of B) e ∙ own)
        (m.open_wires (w / ports_per_tile) (w % ports_per_tile) (omega arith) o) f
    holds w r (says (no_switch_zero o f)) l own =
        let e : port_of (w / ports_per_tile) (w % ports_per_tile) ≡ w = omega arith in
        subst (λ (u : ℕ). NoSwitch B t st u → get_or v u 0 ≡ 0) (ap (wire_of B) e ∙ own) (m.zeros (w / ports_per_tile) (w % ports_per_tile) (omega arith) o) f
    holds w r (says (no_switch_one o f)) l own =
        let e : port_of (w / ports_per_tile) cen ≡ w = omega arith in
        subst (λ (u : ℕ). NoSwitch B t st u → get_or v u 0 ≡ 1) (ap (wire_of B) e ∙ own) (m.ones (w / ports_per_tile) (omega arith)) f
    holds w r (says (out_flip_flop T i l h q b)) lw own = subst (λ (u : ℕ). get_or v u 0 ≡ get_or state (8 * T + i) 0) q (m.out_flop T i l h b)
    holds w r (says (out_lookup T i l h q b)) lw own = subst (λ (u : ℕ). get_or v u 0 ≡ looked B t st state lent v T i) q (m.out_look T i l h b)
    holds w r (says (lout_lookup T i l h q)) lw own = subst (λ (u : ℕ). get_or v u 0 ≡ looked B t st state lent v T i) q (m.lout T i l h)
    holds w r (says (cout_majority T i l h q b)) lw own =
        subst
        (λ (u : ℕ).
        get_or v u 0
        ≡ majority (val B t st state lent v T (in_port i 1)) (val B t st state lent v T (in_port i 2)) (val B t st state lent v T (carry_port i)))
        q (m.cout_on T i l h b)
    holds w r (says (cout_zero T i l h q b)) lw own = subst (λ (u : ℕ). get_or v u 0 ≡ 0) q (m.cout_off T i l h b)
    holds w r (says (mux_one T l q b)) lw own = subst (λ (u : ℕ). get_or v u 0 ≡ 1) q (m.mux_set T l b)
    holds w r (says (mux_copies T l q b c)) lw own = subst (λ (u : ℕ). get_or v u 0 ≡ val B t st state lent v T carry_in) q (m.mux_chain T l b c)
    holds w r (says (mux_zero T l q b c)) lw own = subst (λ (u : ℕ). get_or v u 0 ≡ 0) q (m.mux_none T l b c)

    -- of the row that a sentence gives to a wire
    pub meets_row : (w : ℕ) (r : Row) → RowSays B t st w r → w < ports B → wire_of B w ≡ w → get_or v w 0 ≡ row_value r state lent v
    meets_row w r s l own = holds w r (says s) l own

    pub meets_solves : SolvesRows
    meets_solves w l iw = holds w _ (why B t st w l) l (wire_own B t st w iw).1 ∙ ap (λ (r : Row). row_value r state lent v) (sym (row_is B t st w l))

  -- ---- what solves the rows meets the equations

  module _ (ok : Routed B t st) (free : NoContention B t st) (sol : SolvesRows) where
    solved : (w : ℕ) (r : Row) → w < ports B → wire_of B w ≡ w → row_of B t st w ≡ r → get_or v w 0 ≡ row_value r state lent v
    solved w r l own e = sol w l (own_wire_lem B t st w l own) ∙ ap (λ (r : Row). row_value r state lent v) (row_is B t st w l ∙ e)

    -- at the wire of port q of tile T
    solved_at : (T q : ℕ) (r : Row) → T < tiles B → q < ports_per_tile → row_of B t st (wire B T q) ≡ r
        → val B t st state lent v T q ≡ row_value r state lent v
    solved_at T q r l h e =
        let p = port_of_lt B T q l h in
        solved (wire B T q) r (wire_within B _ p) (wire_idempotent B _ p) e

    -- where that is an output of a cell
    solved_cell : (T q : ℕ) (d : Drive) (r : Row) → T < tiles B → q < ports_per_tile → drive_of B (port_of T q) ≡ d → of_cell d ≡ true
        → drive_row B st (wire B T q) d ≡ r → val B t st state lent v T q ≡ row_value r state lent v
    solved_cell T q d r l h e c k = solved_at T q r l h (row_cell B t st ok (port_of T q) d (port_of_lt B T q l h) e c ∙ k)

    -- and where no switch ends
    solved_free : (T q : ℕ) (d : Drive) → T < tiles B → q < ports_per_tile → drive_of B (port_of T q) ≡ d → NoSwitch B t st (wire B T q)
        → val B t st state lent v T q ≡ row_value (drive_row B st (wire B T q) d) state lent v
    solved_free T q d l h e f = solved_at T q _ l h (row_port_lem B t st (port_of T q) d (port_of_lt B T q l h) e f)

    open_drive : (p q : ℕ) (d : Drive) → Role B p q d → OpenPort q → NoCell B t st (wire_of B p) → d ≡ Nothing
    open_drive p q Nothing r o c = refl
    open_drive p q Low r o c = absurd (open_zero o r)
    open_drive p q High r o c = absurd (open_cen o r)
    open_drive p q (CellOut T i) r o c = absurd (c.no_out T i r.tile_lt r.cell_lt r.wire_same)
    open_drive p q (CellLout T i) r o c = absurd (c.no_lout T i r.tile_lt r.cell_lt r.wire_same)
    open_drive p q (CellCout T i) r o c = absurd (c.no_cout T i r.tile_lt r.cell_lt r.wire_same)
    open_drive p q (CarryMux T) r o c = absurd (c.no_mux T r.tile_lt r.wire_same)

    undriven_drive : (T q : ℕ) → T < tiles B → OpenPort q → NoCell B t st (wire B T q) → drive_of B (port_of T q) ≡ Nothing
    undriven_drive T q l o c =
        let h = open_lt o in
        let m : port_of T q % ports_per_tile ≡ q = omega arith in
        open_drive (port_of T q) q _ (rw m at (role_all B (port_of T q) (port_of_lt B T q l h))) o c

    pub solves_meets : Meets B t st state lent v
    unfolding row_value operand_of drive_row
    solves_meets = record {
      switch = λ s l e.
          solved _ _ (target_lt B t st ok s l e) (target_own B t st ok s l e)
          (row_switch B t st free _ s (target_own B t st ok s l e) (record { within = l; on = e; onto = refl }));
      lout = λ T i l h. solved_cell T (lout_port i) (CellLout T i) _ l (omega arith) (lout_drive B T i h) refl (lout_row B st _ T i);
      out_flop = λ T i l h b. solved_cell T (out_port i) (CellOut T i) _ l (omega arith) (out_drive B T i h) refl (flop_row B st _ T i b);
      out_look = λ T i l h b. solved_cell T (out_port i) (CellOut T i) _ l (omega arith) (out_drive B T i h) refl (out_row B st _ T i b);
      cout_on = λ T i l h b. solved_cell T (cout_port i) (CellCout T i) _ l (omega arith) (cout_drive B T i h) refl (carry_row B st _ T i b);
      cout_off = λ T i l h b. solved_cell T (cout_port i) (CellCout T i) _ l (omega arith) (cout_drive B T i h) refl (no_carry_row B st _ T i b);
      mux_set = λ T l b. solved_cell T carry_in_mux (CarryMux T) _ l (omega arith) (mux_drive B T) refl (set_row_lem B st _ T b);
      mux_chain = λ T l b c. solved_cell T carry_in_mux (CarryMux T) _ l (omega arith) (mux_drive B T) refl (chain_row B st _ T b c);
      mux_none = λ T l b c. solved_cell T carry_in_mux (CarryMux T) _ l (omega arith) (mux_drive B T) refl (unset_row B st _ T b c);
      zeros = λ T q l z f. solved_free T q Low l (zero_lt z) (zero_drive B T z) f;
      ones = λ T l f. solved_free T cen High l (omega arith) (cen_drive B T) f;
      open_wires = λ T q l o f. solved_free T q Nothing l (open_lt o) (undriven_drive T q l o f.no_cell) f.no_switch;
    }
