-- `ranking::first_unmarked` meets its contract. Assumes nothing.
use Rattle.netlist.proofs.ValueLaws.{arity_le}
use Rattle.netlist.proofs.GraphLaws.{row_reads_lt}
use native.Mathlib.Omega.{arith}
use Rattle.loops.proofs.ranking.first_unmarked.Goals as goal

pub operand-requires : goal.operand-requires
operand-requires c = omega (arith, arity_le c.row_at-row.result, c.arity-j-end.ensures)

pub bounds-marks-d : goal.bounds-marks-d
bounds-marks-d c = omega (arith, row_reads_lt _ _ _ c.row_at-row.ensures _ c.requires.closed.0 c.loop-j.j, c.operand.ensures, c.from-d.ensures, c.arity-j-end.ensures)

pub returns-then-marks-d-eq0 : goal.returns-then-marks-d-eq0
returns-then-marks-d-eq0 c = (
  omega (arith, row_reads_lt _ _ _ c.row_at-row.ensures _ c.requires.closed.0 c.loop-j.j, c.operand.ensures, c.from-d.ensures, c.arity-j-end.ensures),
  c.if-marks-d-eq0.true,
)
