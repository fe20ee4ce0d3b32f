-- The rows read what the equations read, so a wire depends on itself by the rows exactly if it does by the equations. Main laws: `reads_exact`,
-- `rows_closed`.
use Prim.Native.Nat.{ℕ, zero, suc, ◌≤◌, ◌<◌}
use mathlib.Core.Path.{◌≡◌, refl, sym, ◌∙◌, ap, subst}
use mathlib.Core.Bool.{true}
use mathlib.Core.Logic.{⊎_elim, ◌↔◌}
use mathlib.Core.List.{List}
use native.Mathlib.Omega.{arith}
use Rattle.lists.proofs.CaseLaws.{lt_or_le}
use Rattle.ports.specs.declared.size.Block.{Block}
use Rattle.ports.specs.Block.{tiles, port_of}
use Rattle.ports.specs.Lengths.{ports, ports_per_tile}
use Rattle.ports.specs.PortIndex.{in_port, out_port, cout_port, lout_port, carry_in, carry_in_mux}
use Rattle.fabric.specs.Wire.{wire_of}
use Rattle.ports.proofs.BlockLaws.{port_of_lt}
use Rattle.fabric.proofs.WireLaws.{wire_within, wire_idempotent}
use Rattle.netlist.specs.declared.row.Row.{Row}
use Rattle.netlist.specs.Graph.{Reads, DependsOn, reads, via, Closed}
use Rattle.netlist.specs.Kinds.{copy_kind}
use Rattle.netlist.specs.Rows.{row_at, operand_of, arity_of}
use Rattle.equations.specs.declared.drives.Drive.{Drive}
use Rattle.equations.specs.declared.drives.Drive.TheVariants.{CellOut, CellLout, CellCout, CarryMux}
use Rattle.equations.specs.Switches.{origin, NoContention}
use Rattle.equations.specs.Routed.{Routed}
use Rattle.equations.specs.Equations.{wire, carry_port, ReadsWire, switch_reads, lout_reads, out_reads, cout_reads_in1, cout_reads_in2, cout_reads_carry, mux_reads, Depends, reads as reads-wire, via as via-wire}
use Rattle.equations.specs.Drives.{drive_of}
use Rattle.equations.specs.RowMeaning.{plain_row, in_wire, lookup_row, RowSays, switch_copies, open_lent, no_switch_zero, no_switch_one, out_flip_flop, out_lookup, lout_lookup, cout_majority, cout_zero, mux_one, mux_copies, mux_zero}
use Rattle.equations.specs.WireRows.{drive_row, row_of, wire_rows}
use Rattle.equations.proofs.DriveLaws.{out_drive, lout_drive, cout_drive, mux_drive}
use Rattle.equations.proofs.RoleLaws.{of_cell}
use Rattle.equations.proofs.SwitchLaws.{target_lt, target_own, origin_port}
use Rattle.equations.proofs.RowReasons.{Why, no_wire, says, why, row_switch, row_cell}
use Rattle.equations.proofs.WireRowLaws.{graph, row_is, kind_past, own_wire_lem, out_row, lout_row, carry_row, chain_row}

pub carry_port_lt : (i : ℕ) → i < 8 → carry_port i < ports_per_tile
carry_port_lt zero h = omega arith
carry_port_lt (suc i) h = omega arith

-- the operands of a lookup
lookup_operand : (B : Block) (st : List ℕ) (w T i j : ℕ) → j < 4 → operand_of (lookup_row B st w T i) j ≡ in_wire B T i j
unfolding operand_of
lookup_operand B st w T i zero h = refl
lookup_operand B st w T i (suc zero) h = refl
lookup_operand B st w T i (suc (suc zero)) h = refl
lookup_operand B st w T i (suc (suc (suc zero))) h = refl
lookup_operand B st w T i (suc (suc (suc (suc j)))) h = absurd (omega arith)

module _ (B : Block) (t st : List ℕ) where
  -- ---- from the rows to the equations

  row_reads : (w : ℕ) (r : Row) → Why B t st w r → (j : ℕ) → j < arity_of r → ReadsWire B t st w (operand_of r j)
  unfolding arity_of operand_of
  row_reads w r (no_wire n) j h = absurd (omega arith)
  row_reads w r (says (switch_copies s e)) zero h = subst (λ (u : ℕ). ReadsWire B t st u (origin B t st s)) e.onto (switch_reads s e.within e.on)
  row_reads w r (says (switch_copies s e)) (suc j) h = absurd (omega arith)
  row_reads w r (says (open_lent o f)) j h = absurd (omega arith)
  row_reads w r (says (no_switch_zero o f)) j h = absurd (omega arith)
  row_reads w r (says (no_switch_one o f)) j h = absurd (omega arith)
  row_reads w r (says (out_flip_flop T i l k q b)) j h = absurd (omega arith)
  row_reads w r (says (out_lookup T i l k q b)) j h = rw (lookup_operand B st w T i j h, ← q) (out_reads T i j l k h b)
  row_reads w r (says (lout_lookup T i l k q)) j h = rw (lookup_operand B st w T i j h, ← q) (lout_reads T i j l k h)
  row_reads w r (says (cout_majority T i l k q b)) zero h = rw (← q) (cout_reads_in1 T i l k b)
  row_reads w r (says (cout_majority T i l k q b)) (suc zero) h = rw (← q) (cout_reads_in2 T i l k b)
  row_reads w r (says (cout_majority T i l k q b)) (suc (suc zero)) h = rw (← q) (cout_reads_carry T i l k b)
  row_reads w r (says (cout_majority T i l k q b)) (suc (suc (suc j))) h = absurd (omega arith)
  row_reads w r (says (cout_zero T i l k q b)) j h = absurd (omega arith)
  row_reads w r (says (mux_one T l q b)) j h = absurd (omega arith)
  row_reads w r (says (mux_copies T l q b c)) zero h = rw (← q) (mux_reads T l b c)
  row_reads w r (says (mux_copies T l q b c)) (suc j) h = absurd (omega arith)
  row_reads w r (says (mux_zero T l q b c)) j h = absurd (omega arith)

  -- what the row that a sentence gives reads
  pub says_reads : (w : ℕ) (r : Row) → RowSays B t st w r → (j : ℕ) → j < arity_of r → ReadsWire B t st w (operand_of r j)
  says_reads w r s j h = row_reads w r (says s) j h

  arity_past : (w : ℕ) → ports B ≤ w → arity_of (row_at (wire_rows B t st) w) ≡ 0
  unfolding arity_of
  arity_past w l = rw (kind_past B t st w l)

  pub reads_equation : (w d : ℕ) → Reads (graph B t st) w d → ReadsWire B t st w d
  reads_equation w d (j, h, e) =
      ⊎_elim
      (λ (l : w < ports B).
      let is = row_is B t st w l in
      subst (λ (u : ℕ). ReadsWire B t st w u) (ap (λ (r : Row). operand_of r j) (sym is) ∙ e) (row_reads w _ (why B t st w l) j (rw is at h)))
      (λ (l : ports B ≤ w). let z = arity_past w l in absurd (omega arith)) (lt_or_le w (ports B))

  pub depends_equation : {w d : ℕ} → DependsOn (graph B t st) w d → Depends B t st w d
  depends_equation (reads r) = reads-wire (reads_equation _ _ r)
  depends_equation (via r h) = via-wire (reads_equation _ _ r) (depends_equation h)

  module _ (ok : Routed B t st) where
    -- ---- what is read is a wire of the block

    read_port : {w d : ℕ} → ReadsWire B t st w d → (p : ℕ) × (p < ports B) × (wire_of B p ≡ d)
    unfolding origin
    read_port (switch_reads s l e) = (_, origin_port B t st ok s l e, refl)
    read_port (lout_reads T i j l h k) = (port_of T (in_port i j), port_of_lt B T (in_port i j) l (omega arith), refl)
    read_port (out_reads T i j l h k b) = (port_of T (in_port i j), port_of_lt B T (in_port i j) l (omega arith), refl)
    read_port (cout_reads_in1 T i l h b) = (port_of T (in_port i 1), port_of_lt B T (in_port i 1) l (omega arith), refl)
    read_port (cout_reads_in2 T i l h b) = (port_of T (in_port i 2), port_of_lt B T (in_port i 2) l (omega arith), refl)
    read_port (cout_reads_carry T i l h b) = (port_of T (carry_port i), port_of_lt B T (carry_port i) l (carry_port_lt i h), refl)
    read_port (mux_reads T l b c) = (port_of T carry_in, port_of_lt B T carry_in l (omega arith), refl)

    pub read_lt : {w d : ℕ} → ReadsWire B t st w d → d < ports B
    read_lt r = let p = read_port r in rw (← p.2) (wire_within B p.0 p.1)

    pub read_own : {w d : ℕ} → ReadsWire B t st w d → wire_of B d ≡ d
    read_own r = let p = read_port r in rw (← p.2) (wire_idempotent B p.0 p.1)

    pub rows_closed : Closed (graph B t st) (ports B)
    rows_closed = record {
      below = λ w d r. read_lt (reads_equation w d r);
      wires = λ w d r. let s = reads_equation w d r in own_wire_lem B t st d (read_lt s) (read_own s);
    }

    pub depends_lt : {w d : ℕ} → Depends B t st w d → d < ports B
    depends_lt (reads-wire r) = read_lt r
    depends_lt (via-wire r h) = depends_lt h

    -- ---- from the equations to the rows

    module _ (free : NoContention B t st) where
      reads_at : (w : ℕ) (r : Row) → w < ports B → row_of B t st w ≡ r → (j : ℕ) → j < arity_of r → Reads (graph B t st) w (operand_of r j)
      reads_at w r l e j h = let is = row_is B t st w l ∙ e in (j, rw is h, ap (λ (r : Row). operand_of r j) is)

      reads_cell : (T q : ℕ) (d : Drive) (r : Row) → T < tiles B → q < ports_per_tile → drive_of B (port_of T q) ≡ d → of_cell d ≡ true
          → drive_row B st (wire B T q) d ≡ r → (j : ℕ) → j < arity_of r → Reads (graph B t st) (wire B T q) (operand_of r j)
      reads_cell T q d r l h e c k j g =
          let p = port_of_lt B T q l h in
          reads_at (wire B T q) r (wire_within B _ p) (row_cell B t st ok (port_of T q) d p e c ∙ k) j g

      pub equation_reads : {w d : ℕ} → ReadsWire B t st w d → Reads (graph B t st) w d
      unfolding arity_of operand_of
      equation_reads (switch_reads s l e) =
          reads_at _ (plain_row copy_kind _ (origin B t st s)) (target_lt B t st ok s l e)
          (row_switch B t st free _ s (target_own B t st ok s l e) (record { within = l; on = e; onto = refl })) 0 (omega arith)
      equation_reads (lout_reads T i j l h k) =
          subst (λ (d : ℕ). Reads (graph B t st) (wire B T (lout_port i)) d) (lookup_operand B st (wire B T (lout_port i)) T i j k)
          (reads_cell T (lout_port i) (CellLout T i) _ l (omega arith) (lout_drive B T i h) refl (lout_row B st _ T i) j k)
      equation_reads (out_reads T i j l h k b) =
          subst (λ (d : ℕ). Reads (graph B t st) (wire B T (out_port i)) d) (lookup_operand B st (wire B T (out_port i)) T i j k)
          (reads_cell T (out_port i) (CellOut T i) _ l (omega arith) (out_drive B T i h) refl (out_row B st _ T i b) j k)
      equation_reads (cout_reads_in1 T i l h b) =
          reads_cell T (cout_port i) (CellCout T i) _ l (omega arith) (cout_drive B T i h) refl (carry_row B st _ T i b) 0 (omega arith)
      equation_reads (cout_reads_in2 T i l h b) =
          reads_cell T (cout_port i) (CellCout T i) _ l (omega arith) (cout_drive B T i h) refl (carry_row B st _ T i b) 1 (omega arith)
      equation_reads (cout_reads_carry T i l h b) =
          reads_cell T (cout_port i) (CellCout T i) _ l (omega arith) (cout_drive B T i h) refl (carry_row B st _ T i b) 2 (omega arith)
      equation_reads (mux_reads T l b c) =
          reads_cell T carry_in_mux (CarryMux T) _ l (omega arith) (mux_drive B T) refl (chain_row B st _ T b c) 0 (omega arith)

      pub reads_exact : (w d : ℕ) → ReadsWire B t st w d ↔ Reads (graph B t st) w d
      reads_exact w d = (equation_reads, reads_equation w d)

      pub equation_depends : {w d : ℕ} → Depends B t st w d → DependsOn (graph B t st) w d
      equation_depends (reads-wire r) = reads (equation_reads r)
      equation_depends (via-wire r h) = via (equation_reads r) (equation_depends h)
