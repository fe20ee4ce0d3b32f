-- `rows::list_chain` meets its contract. Invariant: the rows of the switches met stand in the list (`Filed`), for every block that the chains are of.
-- Measure: the room left. Assumes nothing.
use Rattle.contention.proofs.Walking.{filed_start, filed_turn, filed_within, filed_room, filed_end}
use Rattle.contention.proofs.LengthLaws.{switches_few}
use native.Mathlib.Omega.{arith}
use mathlib.Core.Path.{refl, ◌∙◌}
use borrow.Author.Rules.{rules}
use Rattle.contention.proofs.rows.list_chain.Goals as goal

pub loop-link-init : goal.loop-link-init
loop-link-init c =
    let a = c.args in
    λ B C l. filed_start B a.table.now a.st.now a.w a.from a.list.now _ (c.from-link.ensures ∙ C.head a.w l)

pub put_row-requires : goal.put_row-requires
put_row-requires c =
    let a = c.args in
    let inv = c.loop-link.invariant a.b c.requires.1 c.requires.2 in
    let within = filed_within a.b a.table.now a.st.now a.w a.from a.list.now _ _ _ inv a.heads.now a.nexts.now c.requires.1 c.loop-link-test.true in
    (filed_room a.b a.table.now a.st.now a.w a.from a.list.now _ _ _ inv a.heads.now a.nexts.now c.requires.1 c.loop-link-test.true c.requires.3, omega (arith, switches_few a.b c.requires.0))

pub overflow_add-at : goal.overflow_add-at
overflow_add-at c =
    let a = c.args in
    let inv = c.loop-link.invariant a.b c.requires.1 c.requires.2 in
    let room = filed_room a.b a.table.now a.st.now a.w a.from a.list.now _ _ _ inv a.heads.now a.nexts.now c.requires.1 c.loop-link-test.true c.requires.3 in
    let long = inv.file.long in
    search rules

pub loop-link-smaller : goal.loop-link-smaller
loop-link-smaller c =
    let a = c.args in
    let inv = c.loop-link.invariant a.b c.requires.1 c.requires.2 in
    let room = filed_room a.b a.table.now a.st.now a.w a.from a.list.now _ _ _ inv a.heads.now a.nexts.now c.requires.1 c.loop-link-test.true c.requires.3 in
    omega (arith, inv.file.long)

pub loop-link-preserved : goal.loop-link-preserved
loop-link-preserved c =
    let a = c.args in
    λ B C l. filed_turn B a.table.now a.st.now a.w a.from a.list.now _ _ _ (c.loop-link.invariant B C l) a.heads.now a.nexts.now C
    c.loop-link-test.true _ _ _ a.w c.from-link-in-loop-link.ensures refl c.put_row.ensures refl

pub returns : goal.returns
returns c =
    let a = c.args in
    let S = filed_end a.b a.table.now a.st.now a.w a.from a.list.now _ _ _ (c.loop-link.invariant a.b c.requires.1 c.requires.2) c.loop-link-test.false in
    record { end = S.end; list = S.stored }
