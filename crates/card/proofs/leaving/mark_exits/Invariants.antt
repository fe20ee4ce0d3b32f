-- `leaving::mark_exits` meets its contract. Invariant: the tiles before `tile` are marked. Assumes nothing.
use mathlib.Core.Path.{◌≡◌}
use Rattle.card.specs.Marks.{exit_marks}
use Rattle.card.proofs.leaving.mark_exits.Given as goal

abbrev pub invariant-loop-tile : goal.invariant-loop-tile
invariant-loop-tile l = l.marks ≡ exit_marks l.b l.tile l.initial.marks
