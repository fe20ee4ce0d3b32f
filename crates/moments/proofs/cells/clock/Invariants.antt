-- `cells::clock` meets its contract. Invariant: the first c states are the next ones (`Filled`). Assumes nothing.
use Rattle.moments.specs.Clocking.{handed, next_cell}
use Rattle.ports.specs.Lengths.{state_length}
use Rattle.lists.proofs.TableLaws.{Filled}
use Rattle.moments.proofs.cells.clock.Given as goal

abbrev pub invariant-loop-c : goal.invariant-loop-c
invariant-loop-c l = Filled (next_cell l.st (handed l.before) (handed l.after) l.state) 0 (state_length l.fn.s) l.c l.next
