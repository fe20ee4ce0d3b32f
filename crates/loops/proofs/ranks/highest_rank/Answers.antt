-- `ranks::highest_rank` meets its contract. Invariant: no operand below j that is not listed has a higher rank. Assumes nothing.
use Rattle.netlist.proofs.ValueLaws.{arity_le}
use Rattle.netlist.proofs.GraphLaws.{row_reads_lt}
use native.Mathlib.Omega.{arith}
use Rattle.loops.proofs.ranks.highest_rank.Goals as goal

pub operand-requires : goal.operand-requires
operand-requires c = omega (arith, arity_le c.row_at-row.result, c.arity-j-end.ensures)

pub bounds-listed-d : goal.bounds-listed-d
bounds-listed-d c = omega (arith, row_reads_lt _ _ _ c.row_at-row.ensures _ c.requires.closed.0 c.loop-j.j, c.operand.ensures, c.from-d.ensures, c.arity-j-end.ensures)

pub bounds-ranks-d : goal.bounds-ranks-d
bounds-ranks-d c = omega (arith, row_reads_lt _ _ _ c.row_at-row.ensures _ c.requires.closed.0 c.loop-j.j, c.operand.ensures, c.from-d.ensures, c.arity-j-end.ensures)
