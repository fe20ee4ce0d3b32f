-- `contents::fill_group` meets its contract. Invariant: the first k numbers are the group's (`Filled`). Assumes nothing.
use Rattle.frames.specs.Contents.{group_number}
use Rattle.lists.proofs.TableLaws.{Filled}
use Rattle.frames.proofs.contents.fill_group.Given as goal

abbrev pub invariant-loop-k : goal.invariant-loop-k
invariant-loop-k l = Filled (group_number l.s l.at) 0 75 l.k l.group
