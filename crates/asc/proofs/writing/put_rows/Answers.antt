-- `writing::put_rows` meets its contract. Invariant: the rows before r are put (`RowsPut`). Assumes nothing.
use native.Mathlib.Omega.{arith}
use Rattle.asc.proofs.WriteLaws.{rows_start, rows_next, rows_room, rows_turn, rows_end}
use Rattle.asc.proofs.writing.put_rows.Goals as goal

pub loop-r-init : goal.loop-r-init
loop-r-init c =
    rows_start _ _ _ _ c.requires.2

pub put_row-next-requires : goal.put_row-next-requires
put_row-next-requires c =
    let n = rows_next _ _ _ _ _ _ _ c.loop-r.invariant in
    let o = rows_room _ _ _ _ _ _ _ c.loop-r.invariant in
    omega arith

pub loop-r-preserved : goal.loop-r-preserved
loop-r-preserved c =
    rows_turn _ _ _ _ _ _ _ c.loop-r.invariant c.loop-r-test.true _ _ (c.put_row-next.ensures.next, c.put_row-next.ensures.out)

pub returns : goal.returns
returns c = let all_clauses = rows_end _ _ _ _ _ _ _ c.loop-r.invariant c.loop-r-test.false in record { next = all_clauses.0; out = all_clauses.1 }
