-- `depends_on_itself` meets its contract. Invariant: what is queued is reached from the start, and what the first of the queue read is
-- marked (`Reaching`); in the inner loop, the operands below j too (`Taking`). Measure: the indices left. Assumes nothing.
use Rattle.loops.proofs.Reaching.{Reaching, Taking}
use Rattle.netlist.specs.Rows.{graph_of}
use lib.ListN.{length}
use Prim.Native.Nat.{◌-◌}
use Rattle.loops.proofs.depends_on_itself.Given as goal

abbrev pub invariant-loop-j : goal.invariant-loop-j
invariant-loop-j l = Taking (graph_of l.rows) (length l.fn.marks) l.start l.listed l.marks l.queue l.head l.tail l.v l.j

abbrev pub invariant-loop-head : goal.invariant-loop-head
invariant-loop-head l = Reaching (graph_of l.rows) (length l.fn.marks) l.start l.listed l.marks l.queue l.head l.tail

abbrev pub decreases-loop-head : goal.decreases-loop-head
decreases-loop-head l = length l.fn.marks - l.head
