-- `settle::write_values` meets its contract. Invariant: the first p values are those of the ports' wires (`Filled`). Assumes nothing.
use lib.ListN.{length, get_or}
use Rattle.lists.proofs.TableLaws.{Filled}
use Rattle.stepper.proofs.settle.write_values.Given as goal

abbrev pub invariant-loop-p : goal.invariant-loop-p
invariant-loop-p l = Filled (λ q. get_or l.x (get_or l.wires q 0) 0) 0 (length l.initial.values) l.p l.values
