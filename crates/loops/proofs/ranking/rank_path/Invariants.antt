-- `ranking::rank_path` meets its contract. Invariant: the work room is kept (`Descending`). Measure: the steps that are left. Assumes nothing.
use Rattle.loops.specs.Ranks.{Descending, steps_left}
use Rattle.loops.proofs.ranking.rank_path.Given as goal

abbrev pub invariant-loop-at : goal.invariant-loop-at
invariant-loop-at l = Descending l.marks l.queue l.at

abbrev pub decreases-loop-at : goal.decreases-loop-at
decreases-loop-at l = steps_left l.marks l.at
