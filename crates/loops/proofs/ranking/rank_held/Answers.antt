-- `ranking::rank_held` meets its contract. Invariant: no more are without a mark than before. Assumes nothing.
use Rattle.netlist.proofs.MarkLaws.{unmarked_set_le}
use native.Mathlib.Omega.{arith}
use Rattle.loops.proofs.ranking.rank_held.Goals as goal

pub loop-i-preserved : goal.loop-i-preserved
loop-i-preserved c = omega (arith, c.loop-i.invariant, unmarked_set_le c.loop-i.marks c.from-w.result c.args.rank c.requires.marks_in_bounds.2)
