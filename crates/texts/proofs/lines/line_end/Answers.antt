-- `lines::line_end` meets its contract: an empty line ends where it begins; else none of the eights that were passed over has a line feed, and behind them the search looks at each byte. Assumes nothing.
use Rattle.std.proofs.Common.{rules, ◌≡◌, ◌≤◌, eqb, length, ℕ, ◌*◌, ◌<◌, ◌∙◌, arith, drop, false, List, subst}
use Rattle.std.specs.Prelude.{position}
use Rattle.std.specs.Slice.Iter.{chunks_exact_rest, chunks_exact_size}
use Rattle.std.specs.Iterator.Adapters.{take_while_source}
use Rattle.std.proofs.lemmas.List.{take_rest}
use Rattle.std.proofs.lemmas.Iterator.{YieldsList-from_slice}
use Rattle.std.proofs.lemmas.Iterator.Search.{position_from_yields_List}
use borrow.Author.Tests.{tests, eq-eqb}
use mathlib.Core.Logic.{⊎_elim}
use mathlib.Core.Path.{sym}
use lib.ListN.{get_or}
use Rattle.lists.proofs.CaseLaws.{lt_or_le}
use Rattle.lists.proofs.SearchLaws.{first_hit, first_end}
use Rattle.texts.proofs.PassedLaws.{passed_plain, line_end_is, taken_twice}
use Rattle.texts.proofs.LineEndLaws.{feed}
use Rattle.texts.proofs.lines.line_end.Goals as goal

-- an empty line
pub returns-then-byte_at-eq-LINE_END : goal.returns-then-byte_at-eq-LINE_END
returns-then-byte_at-eq-LINE_END c =
    let text = c.args.text.now in
    let at = c.args.at in
    let hit = eq-eqb (get_or text at 0) 10 (sym c.byte_at.ensures ∙ c.if-byte_at-eq-LINE_END.true) in
    ⊎_elim (λ l. sym (first_hit (feed text) at (length text) l hit)) (λ l. sym (first_end (feed text) at (length text) l)) (lt_or_le at (length text))

pub returns : goal.returns
returns c =
    let text = c.args.text.now in
    let at = c.args.at in
    let n = c.count-passed.result in
    let rest : List ℕ = drop at text in
    let front = take_rest text at in
    let behind = taken_twice text at (8 * n) in
    let ran = c.count-passed.ensures.ran in
    let source : chunks_exact_rest (take_while_source c.take_while.result) ≡ rest = cc in
    let size : chunks_exact_size (take_while_source c.take_while.result) ≡ 8 = cc in
    let plain = passed_plain _ _ (λ x b q k. search (rules, tests)) ran.0 c.take_while.result _ c.take_while.ensures.closure size ran.1.1.1 in
    let none : (k : ℕ) → k < 8 * n → feed rest k ≡ false = λ k l. subst (λ (xs : List ℕ). feed xs k ≡ false) source (plain k (omega (arith, ran.2, l))) in
    let found : c.position.result ≡ position (λ x. eqb x 10) (drop (8 * n) rest) =
    position_from_yields_List (λ x. eqb x 10) _ _ _ c.position.ensures.ran (YieldsList-from_slice _ (c.iter.ensures.rest ∙ behind)) (λ x b q k. search (rules, tests)) in
    let inside : 8 * n ≤ length rest = search rules in
    let end = line_end_is text at (8 * n) inside none in
    cc
