-- `cells::clock` meets its contract. Invariant: the first c states are the next ones (`Filled`). Assumes nothing.
use Rattle.moments.specs.Clocking.{next_states}
use Rattle.lists.proofs.TableLaws.{filled_end}
use native.Mathlib.Omega.{arith}
use Rattle.moments.proofs.cells.clock.Goals as goal

pub returns : goal.returns
unfolding next_states
returns c = filled_end _ 0 _ _ _ c.loop-c.invariant (omega arith)
