-- `order::next_ready` meets its contract. Invariant: every wire is due or idle, and the listed ones are as they were (`Searching`). Measure: the
-- wires that are due. Assumes nothing.
use lib.ListN.{get_or}
use mathlib.Core.Path.{◌≡◌}
use Prim.Native.Nat.{ℕ, ◌<◌}
use Rattle.netlist.specs.Rows.{graph_of, operand_of}
use Rattle.lists.specs.Search.{count_below}
use Rattle.scheduling.specs.Due.{is_due}
use Rattle.scheduling.proofs.Searching.{Searching}
use Rattle.scheduling.proofs.order.next_ready.Given as goal

abbrev pub invariant-search : goal.invariant-search
invariant-search l = Searching (graph_of l.rows) l.n l.initial.marks l.marks l.links l.due

abbrev pub decreases-search : goal.decreases-search
decreases-search l = count_below (is_due l.due) l.n

-- the operands below j are listed, and nothing was written
abbrev pub invariant-loop-j : goal.invariant-loop-j
invariant-loop-j l =
    (l.marks ≡ l.initial.marks) × (l.links ≡ l.initial.links) × ((k : ℕ) → k < l.j → get_or l.initial.marks (operand_of l.row k) 0 ≡ 1)
