-- `follow::walk` meets its contract. Invariant: the walk from here on is the whole walk (`Tracing`). Measure: the wires that are not marked.
-- Assumes nothing.
use Rattle.drivers.proofs.Tracing.{Tracing}
use Rattle.netlist.specs.Marks.{unmarked}
use Rattle.drivers.proofs.follow.walk.Given as goal

abbrev pub invariant-loop-source : goal.invariant-loop-source
invariant-loop-source l = Tracing l.sources l.start l.marks l.u

abbrev pub decreases-loop-source : goal.decreases-loop-source
decreases-loop-source l = unmarked l.marks
