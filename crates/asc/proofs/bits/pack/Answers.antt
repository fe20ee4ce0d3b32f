-- `bits::pack` meets its contract. Invariant: the first i rows are packed (`Filled`). Assumes nothing.
use native.Mathlib.Omega.{arith}
use Rattle.lists.proofs.TableLaws.{filled_end}
use Rattle.words.specs.Packed.{packed}
use Rattle.asc.proofs.bits.pack.Goals as goal

pub returns : goal.returns
unfolding packed
returns c = filled_end _ _ _ _ _ c.loop-i.invariant (omega arith)
