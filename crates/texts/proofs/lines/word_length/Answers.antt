-- `lines::word_length` meets its contract: std's word for the first place, as ours. Assumes nothing.
use Rattle.std.proofs.Common.{rules, eqb, ap, ◌∙◌, length}
use Rattle.std.specs.Prelude.{unwrap_or}
use Rattle.std.proofs.lemmas.Iterator.{YieldsList-from_slice}
use Rattle.std.proofs.lemmas.Iterator.Search.{position_from_yields_List}
use borrow.Author.Tests.{tests}
use Rattle.lists.proofs.StdLaws.{position_or-is}
use Rattle.texts.proofs.lines.word_length.Goals as goal

pub returns : goal.returns
returns c =
    let line = c.args.line.now in
    let found = position_from_yields_List (λ x. eqb x 32) _ _ _ c.position.ensures.ran (YieldsList-from_slice line (cc)) (λ x b q k. search (rules, tests)) in
    c.unwrap_or.ensures ∙ ap (λ o. unwrap_or o (length line)) found ∙ position_or-is (λ x. eqb x 32) 0 line
