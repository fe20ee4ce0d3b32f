-- `check::first_bad_row` meets its contract: the rows below the count, then those behind it. Assumes nothing.
use Rattle.std.specs.Prelude.{Option, Some, None, unwrap_or}
use Rattle.netlist.specs.Checking.{zero_test, wire_count}
use Rattle.netlist.specs.Rows.{row_at}
use mathlib.Core.Bool.{not}
use Rattle.netlist.proofs.FirstBadLaws.{not_good, wire_count_le, first_bad_among, first_bad_behind}
use Rattle.lists.specs.Search.{first, below}
use Rattle.lists.proofs.BelowLaws.{below_some, below_none, below_or}
use Rattle.lists.proofs.SearchLaws.{first_le}
use lib.ListN.{length}
use native.Mathlib.Omega.{arith}
use mathlib.Core.Path.{◌≡◌, sym, ap, subst, ◌∙◌}
use Prim.Native.Nat.{ℕ, ◌-◌}
use Rattle.netlist.proofs.check.first_bad_row.Goals as goal

pub first_not_good-bad-requires : goal.first_not_good-bad-requires
first_not_good-bad-requires c = (
  let e = c.requires.2 in let l = wire_count_le c.args.list.now c.args.cells c.args.wires.now in
      omega arith,
  omega arith,
)

pub returns-in-Some-clause-answer : goal.returns-in-Some-clause-answer
returns-in-Some-clause-answer c =
    let test = not_good c.args.list.now c.args.cells c.args.wires.now in
    let s = below_some _ _ _ (sym (subst (λ (k : ℕ). Some c.in-Some.i ≡ below k (first test 0 k)) c.requires.2 c.in-Some.ensures)) in
    s.0 ∙ first_bad_among c.args.list.now c.args.cells c.args.wires.now s.1

pub first_not_zero-requires : goal.first_not_zero-requires
first_not_zero-requires c =
    let e = c.requires.2 in let l = wire_count_le c.args.list.now c.args.cells c.args.wires.now in
    (omega arith, omega arith)

pub returns-in-None-clause-answer : goal.returns-in-None-clause-answer
returns-in-None-clause-answer c =
    let list = c.args.list.now in
    let wires = c.args.wires.now in
    let n = length wires in
    let test = not_good list c.args.cells wires in
    let s = below_none _ _ (sym (subst (λ (k : ℕ). None ≡ below k (first test 0 k)) c.requires.2 c.in-None.ensures)) in
    let f = first (λ i. not (zero_test (row_at list i))) (wire_count wires) (n - wire_count wires) in
    let e : c.first_not_zero.result ≡ below n f =
    subst (λ (k : ℕ). c.first_not_zero.result ≡ below n (first (λ i. not (zero_test (row_at list i))) k (n - k))) c.requires.2 c.first_not_zero.ensures in
    let l = first_le (λ i. not (zero_test (row_at list i))) (wire_count wires) (n - wire_count wires) in
    let w = wire_count_le list c.args.cells wires in
    c.unwrap_or.ensures ∙ ap (λ (r : Option ℕ). unwrap_or r n) e ∙ below_or n f (omega arith) ∙ first_bad_behind list c.args.cells wires s
