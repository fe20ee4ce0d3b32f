-- `chains::chain_switch` meets its contract: a group that is off is skipped, a switch goes in front of its wire's chain and brings its rows. Assumes
-- nothing.
use Rattle.contention.proofs.Tallying.{added_few, tallied_few, group_before, group_skipped, ends_port, ends_lt, group_tallied}
use native.Mathlib.Omega.{arith}
use mathlib.Core.Path.{refl, sym, ◌∙◌}
use Rattle.contention.proofs.chains.chain_switch.Goals as goal

pub returns-then-e-eq0 : goal.returns-then-e-eq0
returns-then-e-eq0 c =
    let a = c.args in
    let r = c.requires.routed in
    group_skipped a.b a.table.now a.st.now r.0 a.tile a.g r.2 r.3 _ _ _ c.requires.tallied (sym c.group_at-e.ensures ∙ c.if-e-eq0.true)

pub tile_wire-requires : goal.tile_wire-requires
tile_wire-requires c =
    let a = c.args in
    let r = c.requires.routed in
    (r.1, ends_port a.b a.table.now a.st.now r.0 a.tile a.g r.2 r.3 (λ z. c.if-e-eq0.false (c.group_at-e.ensures ∙ z)) _ c.destination.ensures)

pub first_links-n-requires : goal.first_links-n-requires
first_links-n-requires c =
    let a = c.args in
    let r = c.requires.routed in
    (r.0.size, group_before a.b a.table.now a.st.now r.0 a.tile a.g r.2 r.3 _ _ _ c.requires.tallied, ends_lt a.b a.table.now a.st.now r.0 a.tile a.g r.2 r.3 (λ z. c.if-e-eq0.false (c.group_at-e.ensures ∙ z)) _ _ (c.from-w.ensures ∙ c.tile_wire.ensures) c.destination.ensures)

pub bounds-heads-w : goal.bounds-heads-w
bounds-heads-w c =
    let a = c.args in
    let r = c.requires.routed in
    let l = ends_lt a.b a.table.now a.st.now r.0 a.tile a.g r.2 r.3 (λ z. c.if-e-eq0.false (c.group_at-e.ensures ∙ z)) _ _ (c.from-w.ensures ∙ c.tile_wire.ensures) c.destination.ensures in
    omega (arith, c.requires.tallied.chained.heads_long)

pub bounds-heads-w-2 : goal.bounds-heads-w-2
bounds-heads-w-2 c =
    let a = c.args in
    let r = c.requires.routed in
    let l = ends_lt a.b a.table.now a.st.now r.0 a.tile a.g r.2 r.3 (λ z. c.if-e-eq0.false (c.group_at-e.ensures ∙ z)) _ _ (c.from-w.ensures ∙ c.tile_wire.ensures) c.destination.ensures in
    omega (arith, c.requires.tallied.chained.heads_long)

pub overflow_add-result : goal.overflow_add-result
overflow_add-result c =
    let a = c.args in
    let few = tallied_few a.b a.table.now a.st.now _ _ _ _ c.requires.tallied c.requires.routed.0.size in
    omega (arith, added_few _ _ c.added_rows.ensures)

-- a switch that is on
pub returns : goal.returns
returns c =
    let a = c.args in
    let r = c.requires.routed in
    group_tallied a.b a.table.now a.st.now r.0 a.tile a.g r.2 r.3 (λ z. c.if-e-eq0.false (c.group_at-e.ensures ∙ z)) _ _ (c.from-w.ensures ∙ c.tile_wire.ensures) c.destination.ensures _ _ _ c.requires.tallied _ _ _ refl c.first_links-n.ensures c.added_rows.ensures
