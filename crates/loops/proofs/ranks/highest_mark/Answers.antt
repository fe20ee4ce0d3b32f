-- `ranks::highest_mark` meets its contract. Invariant: no operand below j has a higher mark. Assumes nothing.
use Rattle.netlist.proofs.ValueLaws.{arity_le}
use Rattle.netlist.proofs.GraphLaws.{row_reads_lt}
use native.Mathlib.Omega.{arith}
use Rattle.loops.proofs.ranks.highest_mark.Goals as goal

pub operand-requires : goal.operand-requires
operand-requires c = omega (arith, arity_le c.row_at-row.result, c.arity-j-end.ensures)

pub bounds-marks-from : goal.bounds-marks-from
bounds-marks-from c = omega (arith, row_reads_lt _ _ _ c.row_at-row.ensures _ c.requires.closed.0 c.loop-j.j, c.operand.ensures, c.from.ensures, c.arity-j-end.ensures)
