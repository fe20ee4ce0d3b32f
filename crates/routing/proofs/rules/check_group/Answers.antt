-- `rules::check_group` is `group_ok`: the group by itself, then its positions. Assumes nothing.
use Rattle.routing.proofs.ClaimingLaws.{group_run, owned_group}
use Rattle.routing.proofs.GroupLaws.{group_alone, group_claimed, alone_width}
use Rattle.routing.specs.LogicTile.{logic_tile}
use Rattle.lists.proofs.CaseLaws.{clash}
use native.Mathlib.Omega.{arith}
use mathlib.Core.Path.{sym, ◌∙◌}
use Rattle.routing.proofs.rules.check_group.Goals as goal

pub claim-requires : goal.claim-requires
claim-requires c =
    let table = c.args.table.now in
    let g = c.args.g in
    let alone = sym c.group_alone_ok.ensures.answer ∙ c.if-group_alone_ok.true in
    let narrow = alone_width logic_tile table g alone _ c.width-w.ensures in (
      group_run logic_tile table (omega (arith, c.requires.0)) g _ _ c.requires.2 c.requires.1 c.width-w.ensures narrow c.positions_start-start.ensures,
      c.requires.4,
    )

-- its positions decide
pub returns-then-group_alone_ok : goal.returns-then-group_alone_ok
returns-then-group_alone_ok c =
    let table = c.args.table.now in
    let g = c.args.g in
    let alone = sym c.group_alone_ok.ensures.answer ∙ c.if-group_alone_ok.true in
    let narrow = alone_width logic_tile table g alone _ c.width-w.ensures in
    record { answer = group_claimed logic_tile table g alone _ c.width-w.ensures _ c.claim.ensures.answer; seen = λ z. c.group_alone_ok.ensures.seen c.if-group_alone_ok.true; map = λ z. owned_group logic_tile table g _ _ c.requires.2 c.width-w.ensures narrow (c.claim.ensures.map z) }

-- it breaks a rule by itself
pub returns-else-group_alone_ok : goal.returns-else-group_alone_ok
returns-else-group_alone_ok c =
    let table = c.args.table.now in
    let g = c.args.g in
    let refused = c.if-group_alone_ok.false in
    record { answer = refused ∙ sym (group_alone logic_tile table g (sym c.group_alone_ok.ensures.answer ∙ refused)); seen = λ z. clash z refused; map = λ z. clash z refused }
