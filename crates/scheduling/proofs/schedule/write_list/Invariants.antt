-- `schedule::write_list` meets its contract. Invariant: the first k rows are those of the list (`RowsWritten`). Assumes nothing.
use Rattle.netlist.proofs.RowLaws.{RowsWritten}
use Rattle.netlist.specs.OrderedRows.{row_in_order}
use Rattle.scheduling.proofs.schedule.write_list.Given as goal

abbrev pub invariant-loop-k : goal.invariant-loop-k
invariant-loop-k l = RowsWritten (row_in_order l.rows l.wires l.count) l.n l.k l.list
