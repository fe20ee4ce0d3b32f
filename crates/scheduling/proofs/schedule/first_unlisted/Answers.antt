-- `schedule::first_unlisted` meets its contract: the two tests are those of a wire that is not listed. Assumes nothing.
use Rattle.std.proofs.Common.{rules, refl}
use borrow.Author.Tests.{tests}
use mathlib.Core.Bool.{not, ◌&&◌}
use lib.Dec.{eqb}
use lib.ListN.{get_or}
use Rattle.lists.proofs.CaseLaws.{and_swap}
use Rattle.lists.proofs.RangeLaws.{find_below}
use Rattle.netlist.specs.Rows.{row_at, graph_of}
use Rattle.netlist.specs.Marks.{listed, only_listed}
use Rattle.netlist.proofs.MarkLaws.{listed_only}
use Rattle.scheduling.proofs.schedule.first_unlisted.Goals as goal

pub returns : goal.returns
returns c =
    let rows = c.args.rows.now in
    let marks = c.args.marks.now in
    find_below (λ w. not (eqb (get_or marks w 0) 1) && not (eqb (row_at rows w).kind 0)) (λ w. (graph_of rows).wire w && not (listed (only_listed marks) w))
    _ _ _ _ refl c.find.ensures.ran (λ x b q k. search (rules, tests))
    (λ w l. rw (listed_only marks w) (and_swap (not (eqb (get_or marks w 0) 1)) (not (eqb (row_at rows w).kind 0))))
