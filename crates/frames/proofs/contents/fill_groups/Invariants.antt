-- `contents::fill_groups` meets its contract. Invariant: `Filling`. Assumes nothing.
use Rattle.frames.proofs.FillLaws.{Filling}
use Rattle.frames.proofs.contents.fill_groups.Given as goal

abbrev pub invariant-loop-g : goal.invariant-loop-g
invariant-loop-g l = Filling l.s l.at l.g l.rest
