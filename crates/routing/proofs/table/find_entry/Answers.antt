-- `table::find_entry` is `entry_of`: the first of the group's entries with the pattern. Assumes nothing.
use Rattle.std.proofs.Common.{◌≡◌, true, false, rules, tests, ap, ◌∙◌}
use Rattle.std.proofs.lemmas.Iterator.{first_from_Range}
use Rattle.lists.specs.Search.{first}
use Rattle.lists.proofs.StdLaws.{found_or}
use Rattle.routing.specs.LogicTile.{logic_tile}
use Rattle.routing.specs.Table.{has_pattern}
use Rattle.routing.proofs.table.find_entry.Goals as goal

pub returns : goal.returns
returns c =
    let p = has_pattern logic_tile c.args.table.now c.args.g c.args.wanted in
    let found = first_from_Range _ _ _ c.find.result (λ e. p e ≡ true) (λ e. p e ≡ false) c.find.ensures.ran (λ x q k. search (rules, tests)) (λ x q k. search (rules, tests)) in
    c.unwrap_or.ensures ∙ found_or p c.entry_count-n.result c.find.result found ∙ ap (first p 0) c.entry_count-n.ensures
