-- `leaving::keep_driven` meets its contract. Invariant: the marks before w stayed or went. Assumes nothing.
use mathlib.Core.Path.{◌≡◌}
use Rattle.netlist.specs.Marks.{listed}
use Rattle.card.specs.Marks.{kept_to}
use Rattle.card.proofs.leaving.keep_driven.Given as goal

abbrev pub invariant-loop-w : goal.invariant-loop-w
invariant-loop-w l = l.marks ≡ kept_to (listed l.sources) l.w l.initial.marks
