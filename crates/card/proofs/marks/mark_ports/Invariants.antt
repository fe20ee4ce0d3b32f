-- `marks::mark_ports` meets its contract. Invariant: the first k ports are marked. Assumes nothing.
use mathlib.Core.Path.{◌≡◌}
use Rattle.card.specs.Marks.{mark_ports}
use Rattle.card.proofs.marks.mark_ports.Given as goal

abbrev pub invariant-loop-k : goal.invariant-loop-k
invariant-loop-k l = l.marks ≡ mark_ports l.b l.tile l.from l.k l.initial.marks
