-- `copy` meets its contract. Invariant: the first i numbers are those of `from` (`Copied`). Assumes nothing.
use Rattle.lists.proofs.Copying.{Copied}
use Rattle.lists.proofs.copy.Given as goal

abbrev pub invariant-loop-i : goal.invariant-loop-i
invariant-loop-i l = Copied l.from l.i l.to
