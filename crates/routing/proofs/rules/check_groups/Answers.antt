-- `rules::check_groups` finds the first broken part among the groups. Invariant: the map has the slots before group g, the search
-- from part 2 + g on ends where the whole one does (`Seen`), and only groups before g have marked patterns. Assumes nothing.
use Rattle.routing.proofs.PartSearch.{part_named, parts_pass, faulty_not_ok, seen_start, seen_over, seen_broken, seen_step, seen_end}
use Rattle.routing.proofs.ClaimingLaws.{owned_all}
use Rattle.routing.proofs.MarkLaws.{mark_start}
use Rattle.routing.specs.LogicTile.{logic_tile}
use native.Mathlib.Omega.{arith}
use mathlib.Core.Path.{◌≡◌, refl, sym, ap, ◌∙◌}
use Prim.Native.Nat.{ℕ, ◌+◌}
use Rattle.routing.specs.TableCheck.{faulty_part}
use Rattle.routing.proofs.rules.check_groups.Goals as goal
use Rattle.routing.proofs.rules.check_groups.Goals.{then-g-eq-MAX_GROUPS-via-then-g-eq-MAX_GROUPS, then-g-eq-MAX_GROUPS-via-else-g-eq-MAX_GROUPS+then-not-check_group}

pub loop-g-init : goal.loop-g-init
loop-g-init c =
    let table = c.args.table.now in
    let start = seen_start logic_tile table _ c.group_count-n.ensures c.requires.1 c.requires.2 in
    (omega arith, c.requires.3, start, mark_start _ refl)

-- a 513th group, or group g breaks a rule
pub returns-then-g-eq-MAX_GROUPS : goal.returns-then-g-eq-MAX_GROUPS
returns-then-g-eq-MAX_GROUPS c =
    let table = c.args.table.now in
    let count = c.group_count-n.ensures in
    let n = c.group_count-n.result in
    let g = c.loop-g.g in
    let broken : 2 + g ≡ faulty_part logic_tile table = elim c.then-g-eq-MAX_GROUPS.branch [
      | then-g-eq-MAX_GROUPS-via-then-g-eq-MAX_GROUPS w ↦ ap (λ (x : ℕ). 2 + x) w.if-g-eq-MAX_GROUPS.true ∙ seen_over logic_tile table n g c.loop-g.invariant.2 (omega arith) w.if-g-eq-MAX_GROUPS.true
      | then-g-eq-MAX_GROUPS-via-else-g-eq-MAX_GROUPS+then-not-check_group w ↦
          seen_broken logic_tile table n g c.loop-g.invariant.2 (omega arith) (omega arith) (sym w.check_group.ensures.answer ∙ w.if-not-check_group.true)
    ] in
    record { part = part_named logic_tile table (2 + g) broken (omega arith); map = faulty_not_ok logic_tile table _ broken (omega arith) }

pub loop-g-preserved : goal.loop-g-preserved
loop-g-preserved c =
    let table = c.args.table.now in
    let passes = c.if-not-check_group.false in
    let group = sym c.check_group.ensures.answer ∙ passes in (
      omega arith,
      c.check_group.ensures.map passes,
      seen_step logic_tile table c.group_count-n.result c.loop-g.g c.loop-g.invariant.2 (omega arith) (omega arith) group,
      c.check_group.ensures.seen passes,
    )

-- every group passes
pub returns : goal.returns
returns c =
    let table = c.args.table.now in
    let count = c.group_count-n.ensures in
    record { part = parts_pass logic_tile table (2 + c.group_count-n.result) (omega arith) (seen_end logic_tile table c.group_count-n.result c.loop-g.g c.loop-g.invariant.2 (omega arith) (omega arith)); map = λ ok. owned_all logic_tile table c.loop-g.g _ (omega arith) (omega arith) c.loop-g.invariant.1 }
