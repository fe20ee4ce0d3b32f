-- `hold_first` meets its contract: a row held as it stands changes nothing (`held_there`). Assumes nothing.
use Rattle.codec.proofs.HeldLaws.{held_there}
use native.Mathlib.Omega.{arith}
use Rattle.codec.proofs.held.hold_first.Goals as goal

pub returns : goal.returns
returns c = record { row = omega arith; bits = held_there _ 0 }
