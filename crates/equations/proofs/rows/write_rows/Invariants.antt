-- `rows::write_rows` meets its contract. Invariant: the first p rows are written (`RowsWritten`). Assumes nothing.
use Rattle.equations.specs.Sources.{row_from}
use Rattle.ports.specs.Lengths.{ports}
use Rattle.netlist.proofs.RowLaws.{RowsWritten}
use Rattle.equations.proofs.rows.write_rows.Given as goal

abbrev pub invariant-loop-p : goal.invariant-loop-p
invariant-loop-p l = RowsWritten (row_from l.b l.st l.sources) (ports l.b) l.p l.rows
