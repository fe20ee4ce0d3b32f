-- `schedule::write_list` meets its contract. Invariant: the first k rows are those of the list (`RowsWritten`); zeros are the rows behind them. Assumes
-- nothing.
use Rattle.netlist.proofs.RowLaws.{RowsWritten, written_step, written_zeros}
use Rattle.scheduling.proofs.SchedulingLaws.{row_in_order_at, row_in_order_past}
use Rattle.netlist.specs.Rows.{row_at}
use Rattle.netlist.specs.OrderedRows.{row_in_order}
use mathlib.Core.List.{List}
use native.Mathlib.Omega.{arith}
use mathlib.Core.Path.{◌≡◌, sym, ap, subst, ◌∙◌}
use Prim.Native.Nat.{ℕ, ◌+◌}
use Rattle.scheduling.proofs.schedule.write_list.Goals as goal

pub loop-k-preserved : goal.loop-k-preserved
loop-k-preserved c =
    let row = c.row_at-row.ensures ∙ ap (λ (i : ℕ). row_at c.args.rows.now i) c.from.ensures
    ∙ sym (row_in_order_at c.args.rows.now c.args.wires.now c.args.count c.loop-k.k c.loop-k-test.true) in
    subst (λ (t : List ℕ). RowsWritten (row_in_order c.args.rows.now c.args.wires.now c.args.count) c.args.n
    (c.loop-k.k + 1) t) (sym c.write_row.ensures) (written_step _ _ _ _ _ c.loop-k.invariant (omega arith) row)

pub returns : goal.returns
returns c =
    written_zeros _ _ _ _ _ (subst (λ (k : ℕ). RowsWritten (row_in_order c.args.rows.now c.args.wires.now c.args.count) c.args.n k c.loop-k.list)
    (let e : c.loop-k.k ≡ c.args.count = omega arith in e) c.loop-k.invariant) (c.fill.ensures.after (λ y e. e))
    (row_in_order_past c.args.rows.now c.args.wires.now c.args.count)
