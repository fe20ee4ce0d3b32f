-- `rules::check_table` clears the map first, and again after a no. Assumes nothing.
use Rattle.std.specs.Prelude.{None}
use Rattle.lists.specs.Tables.{zeros}
use Rattle.lists.proofs.CaseLaws.{clash}
use mathlib.Core.Path.{◌≡◌, ap, sym, ◌∙◌}
use borrow.Author.Rules.{rules}
use Rattle.routing.specs.LogicTile.{logic_tile}
use Rattle.routing.proofs.PartSearch.{broken_none}
use Rattle.routing.proofs.rules.check_table.Goals as goal

-- one does
pub returns-then-is_some-clause-cleared : goal.returns-then-is_some-clause-cleared
returns-then-is_some-clause-cleared c =
    λ e. c.fill-then-is_some.ensures.after (λ y q. q) ∙ ap zeros (c.check_parts-part.auto.own ∙ c.fill.auto.self ∙ c.requires.1)

-- none does
pub returns-else-is_some-clause-cleared : goal.returns-else-is_some-clause-cleared
returns-else-is_some-clause-cleared c =
    let none : c.check_parts-part.result ≡ None = search rules in
    λ e. clash (broken_none logic_tile c.args.table.now (sym none ∙ c.check_parts-part.ensures.part)) e
