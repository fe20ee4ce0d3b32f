-- `order::list_wires` meets its contract. Invariant: what is written and what is still to be listed is the order, and every wire is due or idle
-- (`Going`). Measure: the wires that could still be listed. Assumes nothing.
use Rattle.scheduling.proofs.Listing.{Going}
use Rattle.netlist.specs.Rows.{graph_of}
use lib.ListN.{length}
use Prim.Native.Nat.{◌-◌}
use Rattle.scheduling.proofs.order.list_wires.Given as goal

abbrev pub invariant-loop-w : goal.invariant-loop-w
invariant-loop-w l = Going (graph_of l.rows) (length l.fn.marks) l.fn.out l.marks l.links l.due l.out l.count

abbrev pub decreases-loop-w : goal.decreases-loop-w
decreases-loop-w l = length l.fn.marks - l.count
