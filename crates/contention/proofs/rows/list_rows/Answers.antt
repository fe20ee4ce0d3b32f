-- `rows::list_rows` meets its contract. Invariant: the rows of the wires below w stand in a cleared list.. Assumes nothing.
use Rattle.contention.proofs.WireLaws.{store_start, store_next, store_room, store_end}
use Rattle.ports.specs.Lengths.{ports}
use Rattle.lists.proofs.TableLaws.{zeros_length}
use lib.ListN.{length}
use native.Mathlib.Omega.{arith}
use Prim.Native.Nat.{◌<◌}
use mathlib.Core.Path.{◌≡◌, ap, ◌∙◌}
use Rattle.contention.proofs.rows.list_rows.Goals as goal

pub loop-w-init : goal.loop-w-init
loop-w-init c = let a = c.args in store_start a.b a.table.now a.st.now _

pub list_wire-at-requires : goal.list_wire-at-requires
list_wire-at-requires c =
    let a = c.args in
    let l : c.loop-w.w < ports a.b = omega (arith, c.requires.1.heads_long) in
    let long = ap length (c.fill.ensures.after (λ y e. e)) ∙ zeros_length (length a.list.now) in
    (c.requires.0, c.requires.1, l, store_room a.b a.table.now a.st.now c.loop-w.w c.loop-w.invariant l (omega (arith, long, c.requires.2)))

pub loop-w-preserved : goal.loop-w-preserved
loop-w-preserved c =
    let a = c.args in
    store_next a.b a.table.now a.st.now c.loop-w.w c.loop-w.invariant _ _ c.list_wire-at.ensures.list c.list_wire-at.ensures.end

pub returns : goal.returns
returns c =
    let a = c.args in
    let e : c.loop-w.w ≡ ports a.b = omega (arith, c.requires.1.heads_long) in
    store_end a.b a.table.now a.st.now c.loop-w.w (length a.list.now) _ _ _ c.loop-w.invariant e (c.fill.ensures.after (λ y e. e)) c.requires.2
