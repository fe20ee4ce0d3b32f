-- `input::count_groups` meets its contract. Invariant: `Counting`. Assumes nothing.
use Rattle.frames.proofs.InputLaws.{Counting}
use Rattle.frames.proofs.input.count_groups.Given as goal

abbrev pub invariant-loop-count : goal.invariant-loop-count
invariant-loop-count l = Counting l.s l.end l.count
