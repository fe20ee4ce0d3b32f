-- `hold_row` meets its contract: the row is held already, or the other one is stored and this one held as it stands (`held_there`). Assumes nothing.
use Rattle.codec.specs.Held.{with_held}
use Rattle.codec.proofs.HeldLaws.{held_there}
use Rattle.codec.proofs.held.hold_row.Goals as goal

pub returns : goal.returns
unfolding with_held
returns c = record { row = c.row_of-row.ensures; bits = held_there _ _ }
