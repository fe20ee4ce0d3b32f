-- `run::run` meets its contract. Invariant: the wires of the first i rows have bits, and the rest of the run is the whole (`Settling`). Assumes nothing.
use Rattle.netlist.proofs.Settling.{Settling}
use Rattle.netlist.proofs.run.run.Given as goal

abbrev pub invariant-loop-i : goal.invariant-loop-i
invariant-loop-i l = Settling l.list l.state l.lent l.initial.values l.count l.values l.i
