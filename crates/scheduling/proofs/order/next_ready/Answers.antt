-- `order::next_ready` meets its contract. Invariants: every wire is due or idle, and the listed ones are as they were (`Searching`); of a wire's operands
-- those before j are listed, and nothing was written. Measure: the wires that are due. Assumes nothing.
use Rattle.scheduling.specs.Waiting.{no_wire, done, StuckRow}
use Rattle.scheduling.proofs.DueLaws.{due_less}
use Rattle.scheduling.proofs.Searching.{searching_idle, searching_wait, searching_hit, searching_end}
use Rattle.scheduling.proofs.WaitingLaws.{row_stuck}
use Rattle.netlist.proofs.GraphLaws.{row_wire_true, row_wire_false, row_reads_lt}
use Rattle.netlist.proofs.ValueLaws.{arity_le}
use Rattle.netlist.specs.Rows.{arity_of, operand_of}
use lib.ListN.{length, get_or}
use native.Mathlib.Omega.{arith}
use mathlib.Core.Path.{◌≡◌, refl, sym, ap, ◌∙◌, subst}
use mathlib.Core.Logic.{◌≢◌}
use Prim.Native.Nat.{ℕ, ◌<◌}
use mathlib.Core.List.{List}
use Rattle.scheduling.proofs.order.next_ready.Goals.{After-from-d, else-marks-w-ne1-via-then-marks-w-ne1+else-row-ne0, else-marks-w-ne1-via-else-marks-w-ne1}
use Rattle.scheduling.proofs.order.next_ready.Goals as goal

-- the operand is a wire of the block
operand_lt : (c : After-from-d) → c.from-d.result < length c.args.marks.now
operand_lt c =
    let within : c.loop-j.j < arity_of c.row_at-row.result = omega (arith, c.arity-j-end.ensures, c.loop-j-test.true) in
    let long = c.search.invariant.resting.watched.long in
    omega (arith, row_reads_lt _ _ _ c.row_at-row.ensures _ c.requires.closed.0 c.loop-j.j within, c.operand.ensures, c.from-d.ensures)

pub operand-requires : goal.operand-requires
operand-requires c = omega (arith, arity_le c.row_at-row.result, c.arity-j-end.ensures, c.loop-j-test.true)

pub bounds-marks-d : goal.bounds-marks-d
bounds-marks-d c = let l = operand_lt (goal.at.bounds-marks-d c).After-from-d in omega arith

pub bounds-marks-d-then-marks-d-ne1 : goal.bounds-marks-d-then-marks-d-ne1
bounds-marks-d-then-marks-d-ne1 c = let l = operand_lt (goal.at.bounds-marks-d-then-marks-d-ne1 c).After-from-d in omega arith

pub bounds-marks-d-then-marks-d-ne1-2 : goal.bounds-marks-d-then-marks-d-ne1-2
bounds-marks-d-then-marks-d-ne1-2 c = let l = operand_lt (goal.at.bounds-marks-d-then-marks-d-ne1-2 c).After-from-d in omega arith

-- a turn: the wire is made to wait, or it is no wire, or listed
pub search-smaller-then-marks-d-ne1 : goal.search-smaller-then-marks-d-ne1
search-smaller-then-marks-d-ne1 c = due_less _ _ _ _ c.in-Some.ensures.0 c.in-Some.ensures.1

pub search-smaller : goal.search-smaller
search-smaller c = due_less _ _ _ _ c.in-Some.ensures.0 c.in-Some.ensures.1

pub search-preserved-then-marks-d-ne1 : goal.search-preserved-then-marks-d-ne1
search-preserved-then-marks-d-ne1 c =
    let d = c.from-d.result in
    let within : c.loop-j.j < arity_of c.row_at-row.result = omega (arith, c.arity-j-end.ensures, c.loop-j-test.true) in
    let new : get_or c.search.marks d 0 ≢ 1 = λ e. c.if-marks-d-ne1.true (ap (λ (m : List ℕ). get_or m d 0) c.loop-j.invariant.0 ∙ e) in
    let stuck : StuckRow c.row_at-row.result c.search.marks d =
    record { place = c.loop-j.j; within = within; here = c.from-d.ensures ∙ c.operand.ensures; before = c.loop-j.invariant.2; new = new } in
    rw (c.loop-j.invariant.0, c.loop-j.invariant.1)
    (searching_wait _ _ _ _ _ _ c.search.invariant _ _ c.in-Some.ensures.1 c.in-Some.ensures.0 d (operand_lt (goal.at.search-preserved-then-marks-d-ne1 c).After-from-d)
    (row_stuck _ _ _ c.row_at-row.ensures _ d stuck))

pub search-preserved : goal.search-preserved
search-preserved c =
    searching_idle _ _ _ _ _ _ c.search.invariant _ _ c.in-Some.ensures.1 c.in-Some.ensures.0
    (elim c.else-marks-w-ne1.branch [
      | else-marks-w-ne1-via-then-marks-w-ne1+else-row-ne0 x ↦ no_wire (row_wire_false _ _ _ c.row_at-row.ensures x.if-row-ne0.false)
      | else-marks-w-ne1-via-else-marks-w-ne1 x ↦ done x.if-marks-w-ne1.false
    ])

-- all operands are listed
pub returns-then-row-ne0 : goal.returns-then-row-ne0
returns-then-row-ne0 c =
    let listed : (k : ℕ) → k < arity_of c.row_at-row.result → get_or c.search.marks (operand_of c.row_at-row.result k) 0 ≡ 1 =
    λ k l. c.loop-j.invariant.2 k (omega (arith, c.arity-j-end.ensures, c.loop-j-test.false)) in
    rw (c.loop-j.invariant.0, c.loop-j.invariant.1) (
      c.in-Some.ensures.0,
      searching_hit _ _ _ _ _ _ c.search.invariant _ _ c.in-Some.ensures.1 c.in-Some.ensures.0 (row_wire_true _ _ _ c.row_at-row.ensures c.if-row-ne0.true)
          c.if-marks-w-ne1.true (rw c.row_at-row.ensures at listed),
    )

pub returns : goal.returns
returns c = searching_end _ _ _ _ _ _ c.search.invariant _ _ c.in_default.ensures (omega arith)
