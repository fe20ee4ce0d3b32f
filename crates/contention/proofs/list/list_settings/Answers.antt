-- `list::list_settings` meets its contract: the chains with their rows counted, and the rows where they fit. Assumes nothing.
use Rattle.contention.proofs.WireLaws.{rows_few}
use Rattle.contention.proofs.EntryLaws.{rows_short, rows_yes}
use native.Mathlib.Omega.{arith}
use lib.ListN.{length}
use mathlib.Core.Path.{refl}
use Rattle.contention.proofs.list.list_settings.Goals as goal

pub overflow_mul-rows : goal.overflow_mul-rows
overflow_mul-rows c =
    let a = c.args in
    omega (arith, rows_few a.b a.table.now a.st.now _ c.requires.0.size c.chain_block-rows.ensures.rows)

pub overflow_cast-result : goal.overflow_cast-result
overflow_cast-result c =
    let a = c.args in
    omega (arith, rows_few a.b a.table.now a.st.now _ c.requires.0.size c.chain_block-rows.ensures.rows)

-- the list is too short
pub returns-then-list-rows : goal.returns-then-list-rows
returns-then-list-rows c =
    let a = c.args in
    record { answer = rows_short a.b a.table.now a.st.now _ (length a.list.now) c.chain_block-rows.ensures.rows c.if-list-rows.true; list = refl }

pub overflow_cast-result-2 : goal.overflow_cast-result-2
overflow_cast-result-2 c =
    let a = c.args in
    omega (arith, rows_few a.b a.table.now a.st.now _ c.requires.0.size c.chain_block-rows.ensures.rows)

-- the rows
pub returns : goal.returns
returns c =
    let a = c.args in
    record { answer = rows_yes a.b a.table.now a.st.now _ (length a.list.now) c.chain_block-rows.ensures.rows c.if-list-rows.false; list = c.list_rows.ensures }
