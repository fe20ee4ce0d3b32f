-- `feeding::mark_reads` meets its contract. Invariant: the first j operands are marked. Assumes nothing.
use mathlib.Core.Path.{◌≡◌}
use Rattle.card.specs.Marks.{read_marks}
use Rattle.card.proofs.feeding.mark_reads.Given as goal

abbrev pub invariant-loop-j : goal.invariant-loop-j
invariant-loop-j l = l.marks ≡ read_marks l.row l.j l.initial.marks
