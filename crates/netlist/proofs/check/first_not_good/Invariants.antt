-- `check::first_not_good` meets its contract. Invariant: the marks are the wires of the rows before i, and the search from i on is the whole
-- search (`Checking`). Assumes nothing.
use Rattle.netlist.proofs.FirstBadLaws.{Checking}
use Rattle.netlist.proofs.check.first_not_good.Given as goal

abbrev pub invariant-loop-i : goal.invariant-loop-i
invariant-loop-i l = Checking l.list l.cells l.wires l.count l.marks l.i
