-- `marks::write_listed` meets its contract. Invariant: the first w marks are written without who waits (`Copied`). Assumes nothing.
use Rattle.lists.proofs.Copying.{Copied}
use Rattle.netlist.specs.Marks.{only_listed}
use Rattle.loops.proofs.marks.write_listed.Given as goal

abbrev pub invariant-loop-w : goal.invariant-loop-w
invariant-loop-w l = Copied (only_listed l.marks) l.w l.listed
