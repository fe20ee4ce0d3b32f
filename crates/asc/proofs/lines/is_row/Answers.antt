-- `lines::is_row` meets its contract: std's word for all, as ours. Assumes nothing.
use Rattle.std.proofs.Common.{rules, tests}
use borrow.Author.Tests.{ne_eqb}
use mathlib.Core.Path.{sym, ◌∙◌}
use Rattle.std.proofs.lemmas.Iterator.{YieldsList-from_slice}
use Rattle.std.proofs.lemmas.Iterator.Search.{all_from_yields_List}
use Rattle.lists.proofs.StdLaws.{list_all-is}
use Rattle.asc.specs.Spelling.{is_binary, is_row}
use Rattle.asc.proofs.SpeltLaws.{row_long}
use Rattle.asc.proofs.lines.is_row.Goals as goal

pub returns-then-line-eq-COLUMNS : goal.returns-then-line-eq-COLUMNS
returns-then-line-eq-COLUMNS c =
    let line = c.args.line.now in
    all_from_yields_List is_binary _ _ _ c.all.ensures.ran (YieldsList-from_slice line (cc)) (λ x b q k. search (rules, tests))
    ∙ list_all-is is_binary 0 line ∙ sym (row_long line c.if-line-eq-COLUMNS.true)

pub returns-else-line-eq-COLUMNS : goal.returns-else-line-eq-COLUMNS
unfolding is_row
returns-else-line-eq-COLUMNS c = rw (ne_eqb _ 54 c.if-line-eq-COLUMNS.false)
