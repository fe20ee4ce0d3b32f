-- `feeding::keep_open` meets its contract. Invariant: the marks before w stayed or went. Assumes nothing.
use mathlib.Core.Path.{◌≡◌}
use Rattle.card.specs.Marks.{open_from, kept_to}
use Rattle.card.proofs.feeding.keep_open.Given as goal

abbrev pub invariant-loop-w : goal.invariant-loop-w
invariant-loop-w l = l.marks ≡ kept_to (open_from l.b l.st l.sources) l.w l.initial.marks
