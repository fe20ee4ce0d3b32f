-- Demand 3 for the rows of a block. Main laws: `settles` (running the list gives the one choice of values that the equations allow),
-- `count_wires` (as many rows as wires), `block_fits` (the list can be run).
use Prim.Native.Nat.{ℕ, ◌*◌, ◌≤◌, ◌<◌}
use mathlib.Core.Path.{◌≡◌, sym, ◌∙◌, ap}
use mathlib.Core.Bool.{true}
use mathlib.Core.Logic.{⊎_elim}
use mathlib.Core.List.{List}
use native.Mathlib.Omega.{arith}
use lib.ListN.{length, get_or}
use borrow.Author.Tests.{eq-eqb, ne_eqb}
use Rattle.lists.proofs.CaseLaws.{cases, eq_or_ne, lt_or_le}
use Rattle.lists.proofs.CountLaws.{count_ext}
use Rattle.ports.specs.declared.size.Block.{Block}
use Rattle.ports.specs.Block.{tiles}
use Rattle.ports.specs.Lengths.{ports}
use Rattle.fabric.specs.Wire.{wire_of}
use Rattle.fabric.specs.Count.{own_wire, wires}
use Rattle.fabric.proofs.WireLaws.{wire_within, wire_idempotent}
use Rattle.netlist.specs.declared.row.Row.{Row}
use Rattle.netlist.specs.Kinds.{flip_flop_kind}
use Rattle.netlist.specs.Rows.{row_at}
use Rattle.netlist.specs.Order.{order, AllListed}
use Rattle.netlist.specs.Running.{run_from, RowFits}
use Rattle.netlist.proofs.OrderLaws.{order_length, run_unique}
use Rattle.netlist.proofs.ListLaws.{value_by, list_runs, list_solves, list_fits, list_bits}
use Rattle.netlist.proofs.ValueLaws.{value_local}
use Rattle.equations.specs.Switches.{NoContention}
use Rattle.equations.specs.Routed.{Routed}
use Rattle.equations.specs.Equations.{Meets, NoLoop}
use Rattle.equations.specs.WireRows.{wire_rows}
use Rattle.equations.specs.Settling.{block_list, run_of, Inputs, Settles}
use Rattle.equations.specs.RowMeaning.{switch_copies, open_lent, no_switch_zero, no_switch_one, out_flip_flop, out_lookup, lout_lookup, cout_majority, cout_zero, mux_one, mux_copies, mux_zero}
use Rattle.equations.proofs.RowReasons.{Why, no_wire, says, why}
use Rattle.equations.proofs.WireRowLaws.{graph, row_is, kind_past, own_wire_lem, wire_own, rows_named}
use Rattle.equations.proofs.EqualLaws.{meets_solves, solves_meets}
use Rattle.equations.proofs.LoopLaws.{loop_exact}

module _ (B : Block) (t st : List ℕ) where
  -- the cell of a flip-flop's row is one of the block's
  flop_cell_lem : (w : ℕ) (r : Row) → Why B t st w r → r.kind ≡ flip_flop_kind → r.a < 8 * tiles B
  flop_cell_lem w r (no_wire n) e = absurd (omega arith)
  flop_cell_lem w r (says (switch_copies s h)) e = absurd (omega arith)
  flop_cell_lem w r (says (open_lent o f)) e = absurd (omega arith)
  flop_cell_lem w r (says (no_switch_zero o f)) e = absurd (omega arith)
  flop_cell_lem w r (says (no_switch_one o f)) e = absurd (omega arith)
  flop_cell_lem w r (says (out_flip_flop T i l h q b)) e = omega arith
  flop_cell_lem w r (says (out_lookup T i l h q b)) e = absurd (omega arith)
  flop_cell_lem w r (says (lout_lookup T i l h q)) e = absurd (omega arith)
  flop_cell_lem w r (says (cout_majority T i l h q b)) e = absurd (omega arith)
  flop_cell_lem w r (says (cout_zero T i l h q b)) e = absurd (omega arith)
  flop_cell_lem w r (says (mux_one T l q b)) e = absurd (omega arith)
  flop_cell_lem w r (says (mux_copies T l q b c)) e = absurd (omega arith)
  flop_cell_lem w r (says (mux_zero T l q b c)) e = absurd (omega arith)

  flop_within : (w : ℕ) → (row_at (wire_rows B t st) w).kind ≡ flip_flop_kind → (row_at (wire_rows B t st) w).a < 8 * tiles B
  flop_within w e =
      ⊎_elim (λ (l : w < ports B). let is = row_is B t st w l in rw is (flop_cell_lem w _ (why B t st w l) (rw is at e)))
      (λ (l : ports B ≤ w). let k = kind_past B t st w l in absurd (omega arith)) (lt_or_le w (ports B))

  -- ---- the number of wires is the number by the joins

  wire_test : (w : ℕ) → w < ports B → (graph B t st).wire w ≡ own_wire B w
  unfolding own_wire
  wire_test w l =
      ⊎_elim (λ e. own_wire_lem B t st w l e ∙ sym (eq-eqb _ _ e))
      (λ ne. ⊎_elim (λ h. absurd (ne (wire_own B t st w h).1)) (λ h. h ∙ sym (ne_eqb _ _ ne)) (cases ((graph B t st).wire w))) (eq_or_ne (wire_of B w) w)

  module _ (all : AllListed (graph B t st) (ports B)) where
    pub count_wires : length (order (graph B t st) (ports B)) ≡ wires B
    unfolding wires
    count_wires = order_length (graph B t st) (ports B) all ∙ count_ext (graph B t st).wire (own_wire B) (ports B) wire_test

    -- ---- the list can be run, and running it is running the order

    pub block_fits : (cells lents size : ℕ) → 8 * tiles B ≤ cells → ports B ≤ lents → ports B ≤ size
        → (i : ℕ) → i < wires B → RowFits (block_list B t st) cells lents size i
    block_fits cells lents size lc ll ls i l =
        list_fits (wire_rows B t st) (ports B) (rows_named B t st) all cells lents size ll ls
        (λ w e. let h = flop_within w e in omega arith) i (let e = count_wires in omega arith)

    module _ (state lent room : List ℕ) where
      run_is : run_of B t st state lent room ≡ run_from (block_list B t st) state lent 0 (length (order (graph B t st) (ports B))) room
      run_is = ap (λ (k : ℕ). run_from (block_list B t st) state lent 0 k room) (sym count_wires)

      module _ (long : ports B ≤ length room) where
        run_meets : Routed B t st → NoContention B t st → Meets B t st state lent (run_of B t st state lent room)
        run_meets ok free =
            solves_meets B t st state lent _ ok free
            (rw run_is (list_solves (wire_rows B t st) (ports B) (rows_named B t st) all state lent room long))

        module _ (p : ℕ) (lp : p < ports B) where
          own : (graph B t st).wire (wire_of B p) ≡ true
          own = own_wire_lem B t st (wire_of B p) (wire_within B p lp) (wire_idempotent B p lp)

          run_only : (v : List ℕ) → Meets B t st state lent v → get_or v (wire_of B p) 0 ≡ get_or (run_of B t st state lent room) (wire_of B p) 0
          run_only v m =
              rw (run_is, list_runs (wire_rows B t st) (ports B) (rows_named B t st) all state lent room)
              (sym
              (run_unique (graph B t st) (ports B) (value_by (wire_rows B t st) state lent) (value_local (wire_rows B t st) state lent) v
              (meets_solves B t st state lent v m) all room long (wire_of B p) (wire_within B p lp) own))

          run_bit : Inputs B state lent → get_or (run_of B t st state lent room) (wire_of B p) 0 < 2
          run_bit h =
              let k = h.state_long in
              rw run_is
              (list_bits (wire_rows B t st) (ports B) (rows_named B t st) all state lent h.state_bits h.lent_bits h.lent_long
              (λ w e. let f = flop_within w e in omega arith) room long (wire_of B p) (wire_within B p lp) own)

    -- ---- the sentence of the demand

    settles_listed : Routed B t st → NoContention B t st → Settles B t st
    settles_listed ok free = record {
      count = count_wires;
      meets = λ state lent room long. run_meets state lent room long ok free;
      bits = λ state lent room h long p lp. run_bit state lent room long p lp h;
      only = λ state lent room v long m p lp. run_only state lent room long p lp v m;
      others_break = λ state lent room v long p lp ne m. ne (run_only state lent room long p lp v m);
    }

  module _ (ok : Routed B t st) (free : NoContention B t st) where
    pub settles : NoLoop B t st → Settles B t st
    settles none = settles_listed ((loop_exact B t st ok free).1 none) ok free
