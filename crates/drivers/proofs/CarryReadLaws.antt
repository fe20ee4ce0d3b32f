-- Ground 6: the computed wire is the lowest disabled carry output that is read, or there is none. Main laws: `carry_read_exact`, `carry_read_none_exact`.
use Prim.Native.Nat.{ℕ, zero, suc, ◌%◌, ◌≤◌, ◌<◌}
use mathlib.Core.Path.{◌≡◌, refl, sym, ◌∙◌, ap}
use mathlib.Core.Bool.{true, false}
use mathlib.Core.Logic.{⊎_elim, ◌↔◌}
use mathlib.Core.List.{List}
use native.Mathlib.Omega.{arith}
use lib.Dec.{eqb}
use borrow.Author.Tests.{eq-eqb, eqb-true, not-true}
use Rattle.lists.proofs.CaseLaws.{cases, clash, lt_or_le, and_left, and_right, and_true}
use Rattle.ports.specs.declared.size.Block.{Block}
use Rattle.ports.specs.Block.{tiles}
use Rattle.ports.specs.Lengths.{ports, ports_per_tile}
use Rattle.ports.specs.PortIndex.{in_port, cout_port, carry_in_mux}
use Rattle.netlist.specs.declared.row.Row.{Row}
use Rattle.netlist.specs.Graph.{Reads}
use Rattle.netlist.specs.Rows.{operand_of, arity_of}
use Rattle.equations.specs.declared.drives.Drive.{Drive}
use Rattle.equations.specs.declared.drives.Drive.TheVariants.{Nothing, Low, High, CellOut, CellLout, CellCout, CarryMux}
use Rattle.equations.specs.Tiles.{carry_on, carry_set}
use Rattle.equations.specs.Switches.{target, NoContention}
use Rattle.equations.specs.Equations.{wire, in_port_lem, ReadsWire, switch_reads, lout_reads, out_reads, cout_reads_in1, cout_reads_in2, cout_reads_carry, mux_reads}
use Rattle.equations.specs.DisabledCarry.{CarryReader, by_switch, by_chain, by_next, DisabledCarryRead, LowestDisabledCarry}
use Rattle.equations.specs.Drives.{drive_of}
use Rattle.equations.specs.WireRows.{row_of}
use Rattle.equations.specs.Routed.{Routed}
use Rattle.equations.proofs.DriveLaws.{cout_drive, mux_drive, zero_drive}
use Rattle.equations.proofs.RoleLaws.{Role, role_all}
use Rattle.equations.proofs.WireRowLaws.{graph, row_is, kind_past}
use Rattle.equations.proofs.ChainLaws.{reads_equation, read_lt, read_own, equation_reads}
use Rattle.drivers.specs.CarryReads.{is_disabled_carry, row_reads_in, row_reads, read_in, carry_read_in, carry_read_wire}
use Rattle.lists.proofs.LowestLaws.{lowest_exact, lowest_none_exact}
use Rattle.drivers.proofs.StandingLaws.{drive_at_lem}
use Rattle.lists.proofs.SomeLaws.{some_is, some_true}

-- what a disabled carry is
disabled_is : (st : List ℕ) (d : Drive) → is_disabled_carry st d ≡ true → (T : ℕ) × (i : ℕ) × (d ≡ CellCout T i) × (carry_on st T i ≡ false)
disabled_is st Nothing e = clash e refl
disabled_is st Low e = clash e refl
disabled_is st High e = clash e refl
disabled_is st (CellOut T i) e = clash e refl
disabled_is st (CellLout T i) e = clash e refl
disabled_is st (CellCout T i) e = (T, i, refl, not-true _ e)
disabled_is st (CarryMux T) e = clash e refl

module _ (B : Block) (t st : List ℕ) (ok : Routed B t st) where
  -- ---- the rows that read a wire

  read_in_reads : (w : ℕ) → read_in B t st (ports B) w ≡ true → (u : ℕ) × ReadsWire B t st u w
  unfolding read_in row_reads_in
  read_in_reads w e =
      let f = some_is (λ u. row_reads (row_of B t st u) w) (ports B) e in
      let g = some_is (λ j. eqb (operand_of (row_of B t st f.0) j) w) _ f.2 in
      let is = row_is B t st f.0 f.1 in
      (f.0, reads_equation B t st f.0 w (g.0, rw is g.1, ap (λ (r : Row). operand_of r g.0) is ∙ eqb-true _ _ g.2))

  reader_lt : (u w : ℕ) → Reads (graph B t st) u w → u < ports B
  unfolding arity_of
  reader_lt u w (j, h, e) =
      ⊎_elim (λ l. l) (λ (l : ports B ≤ u). let z : j < 0 = rw (kind_past B t st u l) at h in absurd (omega arith)) (lt_or_le u (ports B))

  reads_read_in : NoContention B t st → {u w : ℕ} → ReadsWire B t st u w → read_in B t st (ports B) w ≡ true
  unfolding read_in row_reads_in
  reads_read_in free {u} {w} r =
      let h = equation_reads B t st ok free r in
      let l = reader_lt u w h in
      let is = row_is B t st u l in
      some_true (λ u. row_reads (row_of B t st u) w) (ports B) u l
      (some_true (λ j. eqb (operand_of (row_of B t st u) j) w) _ h.0 (rw is at h.1) (eq-eqb _ _ (ap (λ (r : Row). operand_of r h.0) (sym is) ∙ h.2)))

  -- ---- who reads a carry output: in ports are never one, nor is carry_in_mux

  no_in : {w S k : ℕ} (T i j : ℕ) → T < tiles B → i < 8 → j < 4 → wire B T (in_port i j) ≡ w → drive_of B w ≡ CellCout S k → ⊥
  no_in T i j l h g e c = let low = drive_at_lem B t st l (omega arith) e (zero_drive B T (in_port_lem i j h g)) in let z : ◌≡◌ {A = ℕ} 0 1 = cc in omega arith

  no_mux : {w S k : ℕ} (T : ℕ) → T < tiles B → wire B T carry_in_mux ≡ w → drive_of B w ≡ CellCout S k → ⊥
  no_mux T l e c = let m = drive_at_lem B t st l (omega arith) e (mux_drive B T) in let z : ◌≡◌ {A = ℕ} 0 1 = cc in omega arith

  reads_reader : {u w S k : ℕ} → ReadsWire B t st u w → drive_of B w ≡ CellCout S k → CarryReader B t st w
  reads_reader (switch_reads s l e) c = by_switch s l e
  reads_reader (lout_reads T i j l h g) c = absurd (no_in T i j l h g refl c)
  reads_reader (out_reads T i j l h g f) c = absurd (no_in T i j l h g refl c)
  reads_reader (cout_reads_in1 T i l h f) c = absurd (no_in T i 1 l h (omega arith) refl c)
  reads_reader (cout_reads_in2 T i l h f) c = absurd (no_in T i 2 l h (omega arith) refl c)
  reads_reader (cout_reads_carry T zero l h f) c = absurd (no_mux T l refl c)
  reads_reader (cout_reads_carry T (suc i) l h f) c = by_next T i l h f
  reads_reader (mux_reads T l f g) c = by_chain T l g

  reader_reads : {w : ℕ} → CarryReader B t st w → (u : ℕ) × ReadsWire B t st u w
  reader_reads (by_switch s l e) = (target B t s, switch_reads s l e)
  reader_reads (by_chain T l c) =
      (wire B T carry_in_mux, mux_reads T l (⊎_elim (λ e. absurd (ok.one_carry T l e c)) (λ e. e) (cases (carry_set st T))) c)
  reader_reads (by_next T i l h c) = (wire B T (cout_port (suc i)), cout_reads_carry T (suc i) l h c)

  pub carry_read_lt : {w : ℕ} → DisabledCarryRead B t st w → w < ports B
  carry_read_lt h = read_lt B t st ok (reader_reads h.1).1

  module _ (free : NoContention B t st) where
    carry_decides : (w : ℕ) → w < ports B → (carry_read_in B t st (ports B) w ≡ true) ↔ DisabledCarryRead B t st w
    unfolding carry_read_in
    carry_decides w l = (there, back)
      where
        there : carry_read_in B t st (ports B) w ≡ true → DisabledCarryRead B t st w
        there e =
            let d = disabled_is st (drive_of B w) (and_left _ _ e) in
            let r = read_in_reads w (and_right (is_disabled_carry st (drive_of B w)) _ e) in
            let a : Role B w (w % ports_per_tile) (CellCout d.0 d.1) = rw d.2 at (role_all B w l) in (
              record { tile = d.0; cell = d.1; tile_within = a.tile_lt; cell_within = a.cell_lt; off = d.3; at = a.wire_same ∙ read_own B t st ok r.1 },
              reads_reader r.1 d.2,
            )

        back : DisabledCarryRead B t st w → carry_read_in B t st (ports B) w ≡ true
        back h =
            let c = h.0 in
            let d = drive_at_lem B t st c.tile_within (let lc = c.cell_within in omega arith) c.at (cout_drive B c.tile c.cell c.cell_within) in
            and_true {a = is_disabled_carry st (drive_of B w)} (rw (d, c.off)) (reads_read_in free (reader_reads h.1).1)

    -- ground 6: the computed wire is the lowest disabled carry output that is read ..
    pub carry_read_exact : (w : ℕ) → LowestDisabledCarry B t st w ↔ ((w < ports B) × (carry_read_wire B t st ≡ w))
    unfolding carry_read_wire
    carry_read_exact w =
        let x = lowest_exact (carry_read_in B t st (ports B)) (DisabledCarryRead B t st) (ports B) carry_decides w in (
          (λ h. x.0 (carry_read_lt h.here, h.here, λ v lv r. h.least v r)),
          λ e. let h = x.1 e in record { here = h.1; least = λ v r. h.2 v (carry_read_lt r) r },
        )

    -- .. and the number of ports exactly if there is none
    pub carry_read_none_exact : ((w : ℕ) → DisabledCarryRead B t st w → ⊥) ↔ (carry_read_wire B t st ≡ ports B)
    unfolding carry_read_wire
    carry_read_none_exact =
        let x = lowest_none_exact (carry_read_in B t st (ports B)) (DisabledCarryRead B t st) (ports B) carry_decides in
        ((λ h. x.0 (λ w l r. h w r)), λ e w r. x.1 e w (carry_read_lt r) r)
