-- `contents::fill_group` meets its contract. Invariant: the first k numbers are the group's (`Filled`). Assumes nothing.
use native.Mathlib.Omega.{arith}
use Rattle.lists.proofs.TableLaws.{filled_end}
use Rattle.frames.proofs.contents.fill_group.Goals as goal

pub returns : goal.returns
returns c = filled_end _ _ _ _ _ c.loop-k.invariant (omega arith)
