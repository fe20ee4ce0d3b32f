-- `feeding::mark_flops` meets its contract. Invariant: the cells before c are marked. Assumes nothing.
use mathlib.Core.Path.{◌≡◌}
use Rattle.card.specs.Marks.{flop_marks}
use Rattle.card.proofs.feeding.mark_flops.Given as goal

abbrev pub invariant-loop-c : goal.invariant-loop-c
invariant-loop-c l = l.marks ≡ flop_marks l.b l.st l.c l.initial.marks
