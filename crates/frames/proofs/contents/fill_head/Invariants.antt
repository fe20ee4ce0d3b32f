-- `contents::fill_head` meets its contract. Invariant: the first k numbers are those of the head (`Filled`). Assumes nothing.
use Rattle.frames.specs.Contents.{head_number}
use Rattle.lists.proofs.TableLaws.{Filled}
use Rattle.frames.proofs.contents.fill_head.Given as goal

abbrev pub invariant-loop-k : goal.invariant-loop-k
invariant-loop-k l = Filled (head_number l.s) 0 69 l.k l.head
