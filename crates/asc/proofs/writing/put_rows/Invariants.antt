-- `writing::put_rows` meets its contract. Invariant: the rows before r are put (`RowsPut`). Assumes nothing.
use Rattle.asc.proofs.WriteLaws.{RowsPut}
use Rattle.asc.proofs.writing.put_rows.Given as goal

abbrev pub invariant-loop-r : goal.invariant-loop-r
invariant-loop-r l = RowsPut l.bits l.t l.at l.initial.out l.r l.next l.out
