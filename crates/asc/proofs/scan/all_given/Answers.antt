-- `scan::all_given` meets its contract: std's word for all, as ours. Assumes nothing.
use Rattle.std.proofs.Common.{rules, tests, eqb, ◌∙◌}
use Rattle.std.proofs.lemmas.Iterator.{YieldsList-from_slice}
use Rattle.std.proofs.lemmas.Iterator.Search.{all_from_yields_List}
use Rattle.lists.proofs.StdLaws.{list_all-is}
use Rattle.asc.proofs.scan.all_given.Goals as goal

pub returns : goal.returns
returns c =
    let given = c.args.given.now in
    all_from_yields_List (λ mark. eqb mark 1) _ _ _ c.all.ensures.ran (YieldsList-from_slice given (cc)) (λ x b q k. search (rules, tests)) ∙ list_all-is (λ mark. eqb mark 1) 0 given
