-- `is_empty` meets its contract: every row is 0. Assumes nothing.
use Rattle.std.proofs.Common.{rules, tests, ap, ◌∙◌, eqb}
use Rattle.std.proofs.lemmas.Iterator.{YieldsList-from_slice}
use Rattle.std.proofs.lemmas.Iterator.Search.{all_from_yields_List}
use Rattle.lists.specs.Search.{all_from}
use Rattle.lists.proofs.StdLaws.{list_all-is}
use Rattle.codec.specs.Bits.{is_zero_at}
use Rattle.codec.proofs.bits.is_empty.Goals as goal

pub returns : goal.returns
returns c =
    let bits = c.args.bits.now in
    let all = all_from_yields_List (λ x. eqb x 0) _ _ c.all.result c.all.ensures.ran (YieldsList-from_slice bits cc) (λ x b q k. search (rules, tests)) in
    all ∙ list_all-is (λ x. eqb x 0) 0 bits ∙ ap (all_from (is_zero_at bits) 0) c.requires
