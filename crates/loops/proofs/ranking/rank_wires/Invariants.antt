-- `ranking::rank_wires` meets its contract. Invariant: the work room is kept (`Descending`). Assumes nothing.
use Rattle.loops.specs.Ranks.{Descending}
use Rattle.loops.proofs.ranking.rank_wires.Given as goal

abbrev pub invariant-loop-start : goal.invariant-loop-start
invariant-loop-start l = Descending l.marks l.queue l.at
