-- `rules::check_parts` goes through cells, fields, passive list and groups in this order. Assumes nothing.
use Rattle.routing.proofs.PartSearch.{part_named, faulty_not_ok, fields_claimed, passives_many, passives_claimed, faulty_fields, faulty_passives}
use Rattle.routing.proofs.ClaimingLaws.{field_run, passive_run, owned_passives}
use Rattle.routing.specs.LogicTile.{logic_tile}
use native.Mathlib.Omega.{arith}
use mathlib.Core.Path.{◌≡◌, ◌∙◌}
use mathlib.Core.Bool.{false}
use Rattle.routing.specs.TableCheck.{passives_ok}
use Rattle.routing.proofs.rules.check_parts.Goals as goal
use Rattle.routing.proofs.rules.check_parts.Goals.{then-n-gt-MAX_PASSIVES-via-then-n-gt-MAX_PASSIVES, then-n-gt-MAX_PASSIVES-via-else-n-gt-MAX_PASSIVES+then-not-claim-2}

pub claim-requires : goal.claim-requires
claim-requires c =
    let table = c.args.table.now in
    (field_run logic_tile table (omega (arith, c.requires.0)), c.claim_cells.ensures table)

-- the fields break a rule
pub returns-then-not-claim : goal.returns-then-not-claim
returns-then-not-claim c =
    let table = c.args.table.now in
    let broken = faulty_fields logic_tile table (fields_claimed logic_tile table _ c.claim.ensures.answer ∙ c.if-not-claim.true) in
    record { part = part_named logic_tile table _ broken (omega arith); map = faulty_not_ok logic_tile table _ broken (omega arith) }

-- more than 64 passive positions, or one breaks a rule
pub returns-then-n-gt-MAX_PASSIVES : goal.returns-then-n-gt-MAX_PASSIVES
returns-then-n-gt-MAX_PASSIVES c =
    let table = c.args.table.now in
    let count = c.passive_count-n.ensures in
    let fields = fields_claimed logic_tile table _ c.claim.ensures.answer ∙ c.if-not-claim.false in
    let passives : passives_ok logic_tile table ≡ false = elim c.then-n-gt-MAX_PASSIVES.branch [
      | then-n-gt-MAX_PASSIVES-via-then-n-gt-MAX_PASSIVES w ↦ passives_many logic_tile table (omega arith)
      | then-n-gt-MAX_PASSIVES-via-else-n-gt-MAX_PASSIVES+then-not-claim-2 w ↦
          passives_claimed logic_tile table _ count (omega arith) _ w.claim-else-n-gt-MAX_PASSIVES.ensures.answer ∙ w.if-not-claim-2.true
    ] in
    let broken = faulty_passives logic_tile table fields passives in
    record { part = part_named logic_tile table _ broken (omega arith); map = faulty_not_ok logic_tile table _ broken (omega arith) }

pub claim-requires-else-n-gt-MAX_PASSIVES : goal.claim-requires-else-n-gt-MAX_PASSIVES
claim-requires-else-n-gt-MAX_PASSIVES c =
    let table = c.args.table.now in (
      passive_run logic_tile table (omega (arith, c.requires.0)) _ c.passive_count-n.ensures (omega arith),
      c.claim.ensures.map c.if-not-claim.false,
    )

pub check_groups-requires : goal.check_groups-requires
check_groups-requires c =
    let table = c.args.table.now in
    let fields = fields_claimed logic_tile table _ c.claim.ensures.answer ∙ c.if-not-claim.false in
    let passives = passives_claimed logic_tile table _ c.passive_count-n.ensures (omega arith) _ c.claim-else-n-gt-MAX_PASSIVES.ensures.answer in
    let free = c.if-not-claim-2.false in (
      c.requires.0,
      fields,
      passives ∙ free,
      owned_passives logic_tile table _ _ c.passive_count-n.ensures (omega arith) (c.claim-else-n-gt-MAX_PASSIVES.ensures.map free),
    )
