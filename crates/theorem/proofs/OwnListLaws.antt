-- A block's own list passes ground 12. Main law: `own_list_passes`. Assumes nothing.
use Prim.Native.Nat.{ℕ, ◌*◌, ◌<◌}
use mathlib.Core.Path.{◌≡◌, sym, ◌∙◌, ap, subst}
use mathlib.Core.Bool.{true}
use mathlib.Core.Logic.{◌≢◌}
use mathlib.Core.List.{List}
use native.Mathlib.Omega.{arith}
use borrow.Author.Tests.{eq-eqb, eqb-false, not-true}
use lib.ListN.{length, get_or}
use Rattle.ports.specs.declared.size.Block.{Block}
use Rattle.ports.specs.Block.{tiles}
use Rattle.ports.specs.Lengths.{ports}
use Rattle.fabric.specs.Wire.{wire_of}
use Rattle.fabric.specs.Count.{own_wire, wires}
use Rattle.netlist.specs.declared.row.Row.{Row}
use Rattle.netlist.specs.Rows.{row_at}
use Rattle.netlist.specs.Order.{order, AllListed}
use Rattle.netlist.specs.Marks.{listed}
use Rattle.netlist.specs.Checking.{RowGood, RowStands}
use Rattle.netlist.proofs.OrderLaws.{order_placed}
use Rattle.netlist.proofs.ListLaws.{list_row, list_row_past, list_wire}
use Rattle.netlist.proofs.CheckingLaws.{first_bad_exact, first_bad_unique}
use Rattle.equations.specs.WireRows.{row_of, wire_rows}
use Rattle.equations.specs.Settling.{block_list}
use Rattle.equations.proofs.RowReasons.{why}
use Rattle.equations.proofs.WireRowLaws.{graph, row_is, wire_own, rows_named}
use Rattle.equations.proofs.SettlingLaws.{count_wires, block_fits}
use Rattle.stepper.specs.Settling.{wire_marks, bad_row}
use Rattle.stepper.proofs.SettledLaws.{marks_length, marks_listed, marks_count}
use Rattle.theorem.proofs.ShapeLaws.{Shaped, shaped}

module _ (B : Block) (t st : List ℕ) where
  module _ (all : AllListed (graph B t st) (ports B)) where
    abbrev list : List ℕ
    list = block_list B t st

    abbrev ws : List ℕ
    ws = order (graph B t st) (ports B)

    module _ (i : ℕ) (l : i < length ws) where
      abbrev at : ℕ
      at = get_or ws i 0

      at_own : (at < ports B) × (wire_of B at ≡ at)
      at_own = wire_own B t st at ((order_placed (graph B t st) (ports B)).is_wire i l)

      row : row_at list i ≡ row_of B t st at
      row = list_row (wire_rows B t st) (ports B) (rows_named B t st) all i l ∙ row_is B t st at at_own.0

      names : (row_at list i).wire ≡ at
      names = list_wire (wire_rows B t st) (ports B) (rows_named B t st) all i l

      shape : Shaped (row_at list i)
      shape = subst Shaped (sym row) (shaped B t st at _ (why B t st at at_own.0))

      some_kind : (row_at list i).kind ≢ 0
      some_kind e =
          eqb-false _ _ (not-true _ ((order_placed (graph B t st) (ports B)).is_wire i l))
          (ap (λ (r : Row). r.kind) (sym (list_row (wire_rows B t st) (ports B) (rows_named B t st) all i l)) ∙ e)

      marked : listed (wire_marks B) at ≡ true
      unfolding own_wire
      marked = marks_listed B at at_own.0 ∙ eq-eqb _ _ at_own.1

    row_good_lem : (i : ℕ) → i < wires B → RowGood list (8 * tiles B) (wire_marks B) i
    row_good_lem i l =
        let n = count_wires B t st all in
        let li : i < length ws = omega arith in
        let fit = block_fits B t st all (8 * tiles B) (ports B) (ports B) (omega arith) (omega arith) (omega arith) i l in
        record {
          kind_low = let k = some_kind i li in omega arith;
          kind_high = (shape i li).kind_high;
          wire = ap (listed (wire_marks B)) (names i li) ∙ marked i li;
          fresh = λ e.
              let k = e.1 in
              (order_placed (graph B t st) (ports B)).distinct e.0 i k li (sym (names e.0 (omega arith)) ∙ e.2 ∙ names i li);
          operands = fit.earlier;
          cell = fit.cell_lt;
          unused = (shape i li).unused;
          no_table = (shape i li).no_table;
        }

    row_stands : (i : ℕ) → i < ports B → RowStands list (8 * tiles B) (wire_marks B) i
    row_stands i l =
        let n = count_wires B t st all in
        let m = marks_count B in
        record {
          good = λ k. row_good_lem i (omega arith);
          zero_past = λ k. list_row_past (wire_rows B t st) (ports B) (rows_named B t st) all i (omega arith) l;
        }

    -- "A step takes that block's [..] list": ground 12 does not refuse it
    pub own_list_passes : bad_row B list ≡ ports B
    own_list_passes =
        let n = marks_length B in
        first_bad_unique list (8 * tiles B) (wire_marks B) (length (wire_marks B)) _ (length (wire_marks B)) (first_bad_exact list (8 * tiles B) (wire_marks B))
        (record { within = omega arith; before = λ i l. row_stands i (omega arith); here = λ l h. absurd (omega arith) }) ∙ n
