-- `check::first_not_good` meets its contract. Invariant: the marks are the wires of the rows before i, and the search from i on is the whole
-- search (`Checking`). Assumes nothing.
use Rattle.netlist.proofs.FirstBadLaws.{Checking, checking_start, checking_test, checking_lt, checking_step}
use Rattle.lists.proofs.BelowLaws.{below_found, below_missed}
use Rattle.lists.proofs.SearchLaws.{first_turn_hit, first_turn_end}
use Rattle.lists.specs.Tables.{zeros}
use native.Mathlib.Omega.{arith}
use mathlib.Core.List.{List}
use mathlib.Core.Bool.{not}
use mathlib.Core.Path.{sym, ap, subst, ◌∙◌}
use Prim.Native.Nat.{ℕ}
use Rattle.netlist.proofs.check.first_not_good.Goals as goal

pub loop-i-init : goal.loop-i-init
loop-i-init c =
    subst (λ (t : List ℕ). Checking c.args.list.now c.args.cells c.args.wires.now c.args.count t 0)
    (ap zeros c.requires.1 ∙ sym (c.fill.ensures.after (λ y e. e))) (checking_start _ _ _ _)

pub returns-then-not-row_good : goal.returns-then-not-row_good
returns-then-not-row_good c =
    below_found _ _ _ (first_turn_hit _ _ _ _ c.loop-i.invariant.rest c.loop-i-test.true
    (ap not (sym (c.row_good.ensures ∙ checking_test _ _ _ _ _ _ c.loop-i.invariant _ c.row_at-row.ensures) ∙ c.if-not-row_good.true))) c.loop-i-test.true

pub bounds-marks-from : goal.bounds-marks-from
bounds-marks-from c =
    let l = checking_lt _ _ _ _ _ _ c.loop-i.invariant _ c.row_at-row.ensures
    (sym (c.row_good.ensures ∙ checking_test _ _ _ _ _ _ c.loop-i.invariant _ c.row_at-row.ensures) ∙ c.if-not-row_good.false) in let e = c.from.ensures in let n = c.loop-i.invariant.long in omega arith

pub loop-i-preserved : goal.loop-i-preserved
loop-i-preserved c =
    checking_step _ _ _ _ _ _ c.loop-i.invariant _ c.row_at-row.ensures
    (sym (c.row_good.ensures ∙ checking_test _ _ _ _ _ _ c.loop-i.invariant _ c.row_at-row.ensures) ∙ c.if-not-row_good.false) _ c.from.ensures c.loop-i-test.true

pub returns : goal.returns
returns c = below_missed _ _ _ (first_turn_end _ _ _ _ c.loop-i.invariant.rest c.loop-i-test.false) c.loop-i-test.false
