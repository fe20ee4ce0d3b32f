-- `row_check::operands_good` meets its contract: each operand is asked. Assumes nothing.
use Rattle.std.proofs.Common.{rules, refl}
use borrow.Author.Tests.{tests}
use Rattle.lists.proofs.RangeLaws.{all_below}
use Rattle.netlist.specs.Checking.{operand_good}
use Rattle.netlist.specs.Marks.{listed}
use Rattle.netlist.proofs.row_check.operands_good.Goals as goal

pub returns : goal.returns
returns c =
    let test = operand_good c.args.row c.args.cells (listed c.args.marks.now) in
    all_below test test _ _ _ _ refl c.all.ensures.ran (λ x b q k. search (rules, tests)) (λ k l. refl)
