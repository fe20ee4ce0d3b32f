-- `clock::clock` meets its contract. Invariant: the first c states are the next ones (`Filled`). Assumes nothing.
use Prim.Native.Nat.{◌*◌}
use Rattle.lists.proofs.TableLaws.{Filled}
use Rattle.ports.specs.Block.{tiles}
use Rattle.stepper.specs.Clocking.{next_cell}
use Rattle.stepper.proofs.clock.clock.Given as goal

abbrev pub invariant-loop-c : goal.invariant-loop-c
invariant-loop-c l = Filled (next_cell l.b l.st l.before l.after l.state) 0 (8 * tiles l.b) l.c l.next
