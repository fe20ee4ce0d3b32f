-- `check::first_not_zero` meets its contract: where the numbers or-ed are 0, there is no such row. Assumes nothing.
use Rattle.std.proofs.Common.{rules, arith}
use borrow.Author.Tests.{tests}
use Rattle.lists.proofs.RangeLaws.{find_range}
use Rattle.lists.proofs.BelowLaws.{below_missed}
use Rattle.netlist.specs.Checking.{zero_test}
use Rattle.netlist.specs.Rows.{row_at}
use Rattle.netlist.proofs.OrLaws.{rows_none}
use mathlib.Core.Bool.{not}
use Rattle.netlist.proofs.check.first_not_zero.Goals as goal

pub returns-then-or_all-eq0 : goal.returns-then-or_all-eq0
returns-then-or_all-eq0 c =
    let z = c.if-or_all-eq0.true in
    below_missed _ _ _ (rows_none c.args.list.now c.args.from c.args.n (λ k a b. omega (arith, c.or_all.ensures k a b)) c.requires.1) (omega arith)

pub returns-else-or_all-eq0 : goal.returns-else-or_all-eq0
returns-else-or_all-eq0 c =
    find_range (λ i. not (zero_test (row_at c.args.list.now i))) _ _ _ _ c.find.ensures.ran (λ x b q k. search (rules, tests))
