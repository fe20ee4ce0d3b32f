-- The list of a block's rows, row by row. Main laws: `row_is`;
-- `rows_named` (row w names w); and the rows of the outputs of cells.
use Prim.Native.Nat.{ℕ, ◌+◌, ◌*◌, ◌≤◌, ◌<◌}
use mathlib.Core.Path.{◌≡◌, refl, ◌∙◌, ap}
use mathlib.Core.Bool.{true, false}
use mathlib.Core.Logic.{⊎_elim, ◌≢◌}
use mathlib.Core.List.{List}
use native.Mathlib.Omega.{arith}
use lib.ListN.{length, get_or-eq_default}
use borrow.Author.Tests.{ne_eqb}
use Rattle.lists.proofs.CaseLaws.{clash, lt_or_le, eq_or_ne}
use Rattle.ports.specs.declared.size.Block.{Block}
use Rattle.ports.specs.Lengths.{ports}
use Rattle.ports.specs.Block.{port_of}
use Rattle.ports.specs.PortIndex.{carry_in}
use Rattle.fabric.specs.Wire.{wire_of}
use Rattle.netlist.specs.declared.row.Row.{Row}
use Rattle.netlist.specs.Graph.{Graph}
use Rattle.netlist.specs.Kinds.{zero_kind, one_kind, flip_flop_kind, copy_kind}
use Rattle.netlist.specs.Rows.{row_length, row_at, graph_of}
use Rattle.netlist.proofs.RowLaws.{rows_length_lem, row_rows}
use Rattle.equations.specs.declared.drives.Drive.TheVariants.{CellOut, CellLout, CellCout, CarryMux}
use Rattle.equations.specs.Tiles.{carry_on, flop_on, carry_set, chained}
use Rattle.equations.specs.RowMeaning.{plain_row, lookup_row, majority_row, switch_copies, open_lent, no_switch_zero, no_switch_one, out_flip_flop, out_lookup, lout_lookup, cout_majority, cout_zero, mux_one, mux_copies, mux_zero}
use Rattle.equations.specs.WireRows.{drive_row, row_of, wire_rows}
use Rattle.equations.proofs.RowReasons.{Why, no_wire, says, why}

-- ---- the rows of the outputs of cells, by the cell's settings

module _ (B : Block) (st : List ℕ) (w T : ℕ) where
  module _ (i : ℕ) where
    pub flop_row : flop_on st T i ≡ true → drive_row B st w (CellOut T i) ≡ plain_row flip_flop_kind w (8 * T + i)
    unfolding drive_row
    flop_row b = rw b

    pub out_row : flop_on st T i ≡ false → drive_row B st w (CellOut T i) ≡ lookup_row B st w T i
    unfolding drive_row
    out_row b = rw b

    pub lout_row : drive_row B st w (CellLout T i) ≡ lookup_row B st w T i
    unfolding drive_row
    lout_row = refl

    pub carry_row : carry_on st T i ≡ true → drive_row B st w (CellCout T i) ≡ majority_row B w T i
    unfolding drive_row
    carry_row b = rw b

    pub no_carry_row : carry_on st T i ≡ false → drive_row B st w (CellCout T i) ≡ plain_row zero_kind w 0
    unfolding drive_row
    no_carry_row b = rw b

  pub set_row_lem : carry_set st T ≡ true → drive_row B st w (CarryMux T) ≡ plain_row one_kind w 0
  unfolding drive_row
  set_row_lem b = rw b

  pub chain_row : carry_set st T ≡ false → chained st T ≡ true → drive_row B st w (CarryMux T) ≡ plain_row copy_kind w (wire_of B (port_of T carry_in))
  unfolding drive_row
  chain_row b c = rw (b, c)

  pub unset_row : carry_set st T ≡ false → chained st T ≡ false → drive_row B st w (CarryMux T) ≡ plain_row zero_kind w 0
  unfolding drive_row
  unset_row b c = rw (b, c)

-- ---- the list of all rows

module _ (B : Block) (t st : List ℕ) where
  -- what the rows read
  abbrev pub graph : Graph
  graph = graph_of (wire_rows B t st)

  pub wire_rows_length : length (wire_rows B t st) ≡ row_length * ports B
  unfolding wire_rows
  wire_rows_length = rows_length_lem (row_of B t st) (ports B)

  pub row_is : (w : ℕ) → w < ports B → row_at (wire_rows B t st) w ≡ row_of B t st w
  unfolding wire_rows
  row_is w l = row_rows (row_of B t st) (ports B) w l

  pub kind_past : (w : ℕ) → ports B ≤ w → (row_at (wire_rows B t st) w).kind ≡ 0
  unfolding row_at
  kind_past w l = get_or-eq_default (wire_rows B t st) 0 (let h = wire_rows_length in omega arith)

  -- ---- which indices are wires

  row_kind : (w : ℕ) (r : Row) → Why B t st w r → wire_of B w ≡ w → r.kind ≢ 0
  row_kind w r (no_wire n) own e = n own
  row_kind w r (says (switch_copies s h)) own e = absurd (omega arith)
  row_kind w r (says (open_lent o f)) own e = absurd (omega arith)
  row_kind w r (says (no_switch_zero o f)) own e = absurd (omega arith)
  row_kind w r (says (no_switch_one o f)) own e = absurd (omega arith)
  row_kind w r (says (out_flip_flop T i l h q b)) own e = absurd (omega arith)
  row_kind w r (says (out_lookup T i l h q b)) own e = absurd (omega arith)
  row_kind w r (says (lout_lookup T i l h q)) own e = absurd (omega arith)
  row_kind w r (says (cout_majority T i l h q b)) own e = absurd (omega arith)
  row_kind w r (says (cout_zero T i l h q b)) own e = absurd (omega arith)
  row_kind w r (says (mux_one T l q b)) own e = absurd (omega arith)
  row_kind w r (says (mux_copies T l q b c)) own e = absurd (omega arith)
  row_kind w r (says (mux_zero T l q b c)) own e = absurd (omega arith)

  pub own_wire_lem : (w : ℕ) → w < ports B → wire_of B w ≡ w → graph.wire w ≡ true
  own_wire_lem w l e = rw (row_is w l, ne_eqb (row_of B t st w).kind 0 (row_kind w _ (why B t st w l) e))

  pub wire_own : (w : ℕ) → graph.wire w ≡ true → (w < ports B) × (wire_of B w ≡ w)
  unfolding row_of
  wire_own w h =
      ⊎_elim
      (λ (l : w < ports B). ⊎_elim (λ e. (l, e)) (λ ne. clash h (rw (row_is w l, ne_eqb (wire_of B w) w ne))) (eq_or_ne (wire_of B w) w))
      (λ (l : ports B ≤ w). clash h (rw (kind_past w l))) (lt_or_le w (ports B))

  -- ---- a row names its wire

  row_names : (w : ℕ) (r : Row) → Why B t st w r → wire_of B w ≡ w → r.wire ≡ w
  row_names w r (no_wire n) own = absurd (n own)
  row_names w r (says (switch_copies s h)) own = refl
  row_names w r (says (open_lent o f)) own = refl
  row_names w r (says (no_switch_zero o f)) own = refl
  row_names w r (says (no_switch_one o f)) own = refl
  row_names w r (says (out_flip_flop T i l h q b)) own = refl
  row_names w r (says (out_lookup T i l h q b)) own = refl
  row_names w r (says (lout_lookup T i l h q)) own = refl
  row_names w r (says (cout_majority T i l h q b)) own = refl
  row_names w r (says (cout_zero T i l h q b)) own = refl
  row_names w r (says (mux_one T l q b)) own = refl
  row_names w r (says (mux_copies T l q b c)) own = refl
  row_names w r (says (mux_zero T l q b c)) own = refl

  pub rows_named : (w : ℕ) → graph.wire w ≡ true → (row_at (wire_rows B t st) w).wire ≡ w
  rows_named w h =
      let o = wire_own w h in
      ap (λ (r : Row). r.wire) (row_is w o.0) ∙ row_names w _ (why B t st w o.0) o.1
