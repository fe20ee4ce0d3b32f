-- `checks::mark_wires` meets its contract. Invariant: the first p marks are the ports' (`Filled`). Assumes nothing.
use lib.ListN.{length, get_or}
use lib.Dec.{eqb}
use mathlib.Core.Bool.{cond}
use Rattle.lists.proofs.TableLaws.{Filled}
use Rattle.sim.proofs.checks.mark_wires.Given as goal

abbrev pub invariant-loop-p : goal.invariant-loop-p
invariant-loop-p l = Filled (λ p. cond (eqb (get_or l.wires p 0) p) 1 0) 0 (length l.initial.own) l.p l.own
