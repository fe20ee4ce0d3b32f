-- `schedule::schedule` meets its contract: no wire is left over and the order stands in the queue, or one is and the lowest loop is found.
-- Assumes nothing.
use Rattle.scheduling.proofs.SchedulingLaws.{none_left, one_left}
use Rattle.netlist.proofs.OrderLaws.{lowest_loop_lt}
use Rattle.netlist.specs.Graph.{LowestLoop}
use Rattle.netlist.proofs.LoopLaws.{settled_end}
use Rattle.netlist.specs.Order.{Settled}
use Rattle.netlist.specs.Rows.{graph_of}
use native.Mathlib.Omega.{arith}
use lib.ListN.{length}
use Prim.Native.Nat.{ℕ}
use mathlib.Core.List.{List}
use mathlib.Core.Path.{◌≡◌, sym, subst}
use Rattle.scheduling.proofs.schedule.schedule.Goals.{After-list_wires-count}
use Rattle.scheduling.proofs.schedule.schedule.Goals as goal

-- the marks are as many as before
long : (c : After-list_wires-count) → length c.list_wires-count.new.marks ≡ length c.args.marks.now
long c = omega arith

-- all are listed
pub returns-in-None-clause-answer : goal.returns-in-None-clause-answer
returns-in-None-clause-answer c =
    let e = long (goal.at.returns-in-None-clause-answer c).After-list_wires-count in
    let listed = c.list_wires-count.ensures in
    (listed.count, none_left _ _ _ _ c.requires.closed listed.marks e c.in-None.ensures)

pub lowest_loop-requires-clause-settled : goal.lowest_loop-requires-clause-settled
lowest_loop-requires-clause-settled c =
    let rows = c.args.rows.now in
    subst (λ (t : List ℕ). Settled (graph_of rows) t) (sym c.list_wires-count.ensures.marks) (settled_end (graph_of rows) (length c.args.marks.now))

-- one is left over
pub returns-in-Some-clause-answer : goal.returns-in-Some-clause-answer
returns-in-Some-clause-answer c =
    let e = long (goal.at.returns-in-Some-clause-answer c).After-list_wires-count in
    let low = subst (λ (k : ℕ). LowestLoop (graph_of c.args.rows.now) k c.lowest_loop.result) e c.lowest_loop.ensures.answer in
    let loop = one_left _ _ _ _ c.requires.closed c.list_wires-count.ensures.marks e c.in-Some.ensures in
    (lowest_loop_lt _ _ _ low loop, low)
