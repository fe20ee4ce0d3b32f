-- `sources::take_switch` meets its contract: a group that is off is skipped; a switch that is the first on its wire goes into the map; a second
-- one counts for the answer, whatever it comes from. Assumes nothing.
use mathlib.Core.Path.{refl, sym, subst, ◌∙◌}
use native.Mathlib.Omega.{arith}
use Rattle.ports.proofs.BlockLaws.{ports_le}
use Rattle.equations.specs.Sources.{Sourced}
use Rattle.ports.specs.Lengths.{max_groups}
use Prim.Native.Nat.{◌+◌, ◌*◌}
use Rattle.drivers.proofs.SwitchTurns.{Met, met, met_few, met_target, met_origin, next_off, next_first, next_second}
use Rattle.drivers.proofs.sources.take_switch.Goals as goal

pub returns-in_default : goal.returns-in_default
returns-in_default c =
    let r = c.requires.routed in
    next_off r.0 r.2 r.3 c.group_at.ensures c.in_default.ensures c.requires.sourced

pub source-requires : goal.source-requires
source-requires c =
    let r = c.requires.routed in
    let few = met_few r.0 r.2 r.3 c.group_at.ensures c.in-Some.ensures in
    (r.0.table_long, few.0, few.1)

pub tile_wire-requires : goal.tile_wire-requires
tile_wire-requires c =
    let r = c.requires.routed in
    (r.1, met_target r.0 r.2 r.3 c.group_at.ensures c.in-Some.ensures (c.from-destination.ensures ∙ c.destination.ensures))

pub tile_wire-source-requires : goal.tile_wire-source-requires
tile_wire-source-requires c =
    let r = c.requires.routed in
    (r.1, met_origin r.0 r.2 r.3 c.group_at.ensures c.in-Some.ensures (c.from.ensures ∙ c.source.ensures))

pub overflow_add-source : goal.overflow_add-source
overflow_add-source c =
    let r = c.requires.routed in
    let m : Met c.args.b c.args.table.now c.args.st.now c.args.tile c.args.g c.from-u.result c.tile_wire-source.result =
    met r.0 r.2 r.3 c.group_at.ensures c.in-Some.ensures (c.from-u.ensures ∙ c.tile_wire.ensures) (c.from-destination.ensures ∙ c.destination.ensures)
    c.tile_wire-source.ensures (c.from.ensures ∙ c.source.ensures) in
    omega (arith, m.from_lt, ports_le c.args.b r.0.size)

pub bounds-sources-u : goal.bounds-sources-u
bounds-sources-u c =
    let r = c.requires.routed in
    let m : Met c.args.b c.args.table.now c.args.st.now c.args.tile c.args.g c.from-u.result c.tile_wire-source.result =
    met r.0 r.2 r.3 c.group_at.ensures c.in-Some.ensures (c.from-u.ensures ∙ c.tile_wire.ensures) (c.from-destination.ensures ∙ c.destination.ensures)
    c.tile_wire-source.ensures (c.from.ensures ∙ c.source.ensures) in
    omega (arith, m.to_lt, c.requires.sourced.long)

pub bounds-sources-u-then-old-eq0 : goal.bounds-sources-u-then-old-eq0
bounds-sources-u-then-old-eq0 c =
    let r = c.requires.routed in
    let m : Met c.args.b c.args.table.now c.args.st.now c.args.tile c.args.g c.from-u.result c.tile_wire-source.result =
    met r.0 r.2 r.3 c.group_at.ensures c.in-Some.ensures (c.from-u.ensures ∙ c.tile_wire.ensures) (c.from-destination.ensures ∙ c.destination.ensures)
    c.tile_wire-source.ensures (c.from.ensures ∙ c.source.ensures) in
    omega (arith, m.to_lt, c.requires.sourced.long)

pub returns-then-old-eq0 : goal.returns-then-old-eq0
returns-then-old-eq0 c =
    let r = c.requires.routed in
    let m : Met c.args.b c.args.table.now c.args.st.now c.args.tile c.args.g c.from-u.result c.tile_wire-source.result =
    met r.0 r.2 r.3 c.group_at.ensures c.in-Some.ensures (c.from-u.ensures ∙ c.tile_wire.ensures) (c.from-destination.ensures ∙ c.destination.ensures)
    c.tile_wire-source.ensures (c.from.ensures ∙ c.source.ensures) in
    next_first m c.requires.sourced _ c.if-old-eq0.true refl

pub returns-else-old-eq0 : goal.returns-else-old-eq0
returns-else-old-eq0 c =
    let r = c.requires.routed in
    let m : Met c.args.b c.args.table.now c.args.st.now c.args.tile c.args.g c.from-u.result c.tile_wire-source.result =
    met r.0 r.2 r.3 c.group_at.ensures c.in-Some.ensures (c.from-u.ensures ∙ c.tile_wire.ensures) (c.from-destination.ensures ∙ c.destination.ensures)
    c.tile_wire-source.ensures (c.from.ensures ∙ c.source.ensures) in
    subst (Sourced c.args.b c.args.table.now c.args.st.now (max_groups * c.args.tile + (c.args.g + 1)) c.args.sources.now) (sym c.min.ensures)
    (next_second m c.requires.sourced c.if-old-eq0.false)
