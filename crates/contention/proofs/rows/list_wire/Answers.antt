-- `rows::list_wire` meets its contract: no row, or one for each switch. Assumes nothing.
use Rattle.contention.proofs.WireLaws.{wire_few_count, wire_many_count, wire_few_rows, wire_many_rows}
use native.Mathlib.Omega.{arith}
use Rattle.contention.proofs.rows.list_wire.Goals as goal

pub returns-then-n-lt2 : goal.returns-then-n-lt2
returns-then-n-lt2 c =
    let a = c.args in
    let few = wire_few_count a.b a.table.now a.st.now a.w _ c.first_links-n.ensures c.if-n-lt2.true in
    record { end = omega arith; list = wire_few_rows a.b a.table.now a.st.now a.w _ c.first_links-n.ensures a.list.now a.from c.if-n-lt2.true }

pub list_chain-requires : goal.list_chain-requires
list_chain-requires c =
    let a = c.args in
    let many = wire_many_count a.b a.table.now a.st.now a.w _ c.first_links-n.ensures c.if-n-lt2.false in
    (c.requires.0, c.requires.1, c.requires.2, omega (arith, c.requires.3))

pub returns-else-n-lt2 : goal.returns-else-n-lt2
returns-else-n-lt2 c =
    let a = c.args in
    let many = wire_many_count a.b a.table.now a.st.now a.w _ c.first_links-n.ensures c.if-n-lt2.false in
    record { end = omega (arith, c.list_chain.ensures.end); list = wire_many_rows a.b a.table.now a.st.now a.w _ c.first_links-n.ensures a.list.now a.from c.if-n-lt2.false _ c.list_chain.ensures.list }
