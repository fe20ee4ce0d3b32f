-- `first_stray` meets its contract: std's word for the first place, as ours. Assumes nothing.
use Rattle.std.proofs.Common.{rules, leb, ◌^◌, ap, ◌∙◌, length}
use Rattle.std.specs.Prelude.{unwrap_or}
use Rattle.std.proofs.lemmas.Iterator.{YieldsList-from_slice}
use Rattle.std.proofs.lemmas.Iterator.Search.{position_from_yields_List}
use borrow.Author.Tests.{tests}
use Rattle.lists.proofs.StdLaws.{position_or-is}
use Rattle.ports.specs.Lengths.{columns}
use Rattle.words.proofs.stray.first_stray.Goals as goal

pub returns : goal.returns
returns c =
    let words = c.args.words.now in
    let found = position_from_yields_List (λ word. leb (2 ^ columns) word) _ _ _ c.position.ensures.ran (YieldsList-from_slice words (cc)) (λ x b q k. search (rules, tests)) in
    c.unwrap_or.ensures ∙ ap (λ o. unwrap_or o (length words)) found ∙ position_or-is (λ word. leb (2 ^ columns) word) 0 words
