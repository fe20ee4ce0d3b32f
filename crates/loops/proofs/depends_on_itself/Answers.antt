-- `depends_on_itself` meets its contract. Invariant: what is queued is reached from the start, and what the first of the queue read is
-- marked (`Reaching`); in the inner loop, the operands below j too (`Taking`). Measure: the indices left. Assumes nothing.
use Rattle.loops.proofs.Reaching.{Reaching, reaching_start, reaching_end, taking_reach, taking_keep, taking_room, taking_push, taking_done}
use Rattle.netlist.proofs.GraphLaws.{row_arity, row_reads}
use Rattle.netlist.proofs.ValueLaws.{arity_le}
use Rattle.netlist.proofs.MarkLaws.{listed_true, listed_false}
use Rattle.netlist.specs.declared.row.Row.{Row}
use Rattle.netlist.specs.Rows.{graph_of, operand_of}
use Rattle.netlist.specs.Marks.{listed}
use Rattle.netlist.specs.Graph.{DependsOn}
use lib.ListN.{length, set, get_or}
use native.Mathlib.Omega.{arith}
use mathlib.Core.List.{List}
use mathlib.Core.Bool.{true}
use mathlib.Core.Path.{◌≡◌, sym, ap, subst, ◌∙◌}
use Prim.Native.Nat.{ℕ, ◌<◌}
use Rattle.loops.proofs.depends_on_itself.Goals.{After-from-d, then-marks-d-eq0, else-marks-d-eq0}
use Rattle.loops.proofs.depends_on_itself.Goals as goal

-- ---- the operand that is looked at

module _ (c : After-from-d) where
  operand_lt : c.from-d.result < length c.args.marks.now
  operand_lt =
      c.requires.closed.below _ _ (row_reads _ _ _ c.row_at-row.ensures _ c.arity-j-end.ensures c.loop-j.j c.from-d.result
      c.loop-j-test.true (c.from-d.ensures ∙ c.operand-x.ensures))

  operand-is : c.from-d.result ≡ (graph_of c.args.rows.now).operand c.from-v.result c.loop-j.j
  operand-is = c.from-d.ensures ∙ c.operand-x.ensures ∙ ap (λ (r : Row). operand_of r c.loop-j.j) c.row_at-row.ensures

  operand-more : c.loop-j.j < (graph_of c.args.rows.now).arity c.from-v.result
  operand-more =
      let q = row_arity _ _ _ c.row_at-row.ensures _ c.arity-j-end.ensures in
      let t = c.loop-j-test.true in omega arith

-- an operand without a mark: there is room in the queue
room : (c : After-from-d) → get_or c.loop-j.marks c.from-d.result 0 ≡ 0 → c.loop-j.tail < length c.args.marks.now
room c unmarked =
    taking_room _ _ _ _ _ _ _ _ _ _ c.loop-j.invariant c.from-d.result (operand_lt c)
    (listed_false c.loop-j.marks c.from-d.result unmarked)

pub loop-head-init : goal.loop-head-init
loop-head-init c =
    let args = c.args in
    let pre = c.requires in
    subst (λ (t : List ℕ). Reaching (graph_of args.rows.now) (length args.marks.now) args.start args.listed.now (set t args.start 1) (set args.queue.now 0 args.start) 0 1)
    (sym c.copy.ensures)
    (reaching_start _ _ args.start args.listed.now args.queue.now pre.listed_len.0 pre.start_in_bounds.1 pre.start_in_bounds.0 pre.marks_in_bounds.0)

pub operand-x-requires : goal.operand-x-requires
operand-x-requires c =
    omega (arith, arity_le c.row_at-row.result, c.arity-j-end.ensures)

-- the start is met again
pub returns-then-d-start-clause-yes : goal.returns-then-d-start-clause-yes
returns-then-d-start-clause-yes c =
    let o = (goal.at.returns-then-d-start-clause-yes c).After-from-d in
    let args = c.args in
    λ t. subst (λ (x : ℕ). DependsOn (graph_of args.rows.now) args.start x) (sym (operand-is o) ∙ c.if-d-start.true)
    (taking_reach _ _ _ _ _ _ _ _ _ _ c.loop-j.invariant (operand-more o))

pub bounds-marks-d : goal.bounds-marks-d
bounds-marks-d c =
    let l = operand_lt (goal.at.bounds-marks-d c).After-from-d in omega arith

pub bounds-marks-d-then-marks-d-eq0 : goal.bounds-marks-d-then-marks-d-eq0
bounds-marks-d-then-marks-d-eq0 c =
    let l = operand_lt (goal.at.bounds-marks-d-then-marks-d-eq0 c).After-from-d in omega arith

pub bounds-queue-tail : goal.bounds-queue-tail
bounds-queue-tail c = let l = room (goal.at.bounds-queue-tail c).After-from-d c.if-marks-d-eq0.true in omega arith

-- the operand is marked and queued, or has a mark already
pub loop-j-preserved : goal.loop-j-preserved
loop-j-preserved c =
    let d = c.from-d.result in
    let marks = c.loop-j.marks in
    let inv = c.loop-j.invariant in
    let at = (goal.at.loop-j-preserved c).After-from-d in
    elim c.if-marks-d-eq0.branch [
      | then-marks-d-eq0 w ↦ rw (w.marks-is, w.queue-is, w.tail-is)
          (taking_push _ _ _ _ _ _ _ _ _ _ inv d c.operand-x.result (operand-more at) (operand-is at) c.from-d.ensures (operand_lt at)
          (listed_false marks d w.if-marks-d-eq0.true) c.if-d-start.false)
      | else-marks-d-eq0 w ↦ rw (w.marks-is, w.queue-is, w.tail-is)
          (taking_keep _ _ _ _ _ _ _ _ _ _ inv (subst (λ (x : ℕ). listed marks x ≡ true) (operand-is at) (listed_true marks d w.if-marks-d-eq0.false))
          (λ e. c.if-d-start.false (operand-is at ∙ e)))
    ]

pub loop-head-preserved : goal.loop-head-preserved
loop-head-preserved c =
    taking_done _ _ _ _ _ _ _ _ _ _ c.loop-j.invariant (let q = row_arity _ _ _ c.row_at-row.ensures _ c.arity-j-end.ensures in omega arith)

-- all is read, and the start was not met
pub returns-clause-no : goal.returns-clause-no
returns-clause-no c =
    let pre = c.requires in
    λ t dep. reaching_end _ _ _ _ _ _ _ _ c.loop-head.invariant pre.listed_len.1 pre.start_in_bounds.1 (omega arith) dep
