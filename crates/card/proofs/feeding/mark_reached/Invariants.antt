-- `feeding::mark_reached` meets its contract. Invariant: what is left of the pass gives what the whole gives. Assumes nothing.
use mathlib.Core.Path.{◌≡◌}
use Rattle.card.specs.Marks.{reach}
use Rattle.card.proofs.feeding.mark_reached.Given as goal

abbrev pub invariant-loop-i : goal.invariant-loop-i
invariant-loop-i l = reach l.list l.i l.marks ≡ reach l.list l.count l.initial.marks
