-- `ranking::rank_wires` meets its contract. Invariant: the work room is kept (`Descending`). Assumes nothing.
use Rattle.loops.proofs.Descending.{descending_start}
use native.Mathlib.Omega.{arith}
use Rattle.loops.proofs.ranking.rank_wires.Goals as goal

pub loop-start-init : goal.loop-start-init
loop-start-init c = descending_start c.copy.new.to _ _ (omega arith) c.default-at.ensures
