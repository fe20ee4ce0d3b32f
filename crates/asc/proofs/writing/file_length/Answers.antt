-- `writing::file_length` meets its contract. Invariant: the length of the tiles before t is counted (`Counted`). Assumes nothing.
use mathlib.Core.Path.{ap, ◌∙◌}
use native.Mathlib.Omega.{arith}
use lib.ListN.{length}
use Rattle.texts.specs.Decimal.{decimal}
use Rattle.texts.proofs.DecimalLaws.{decimal_length}
use Rattle.asc.proofs.LengthLaws.{counted_start, counted_turn, counted_end, counted_few}
use Rattle.asc.proofs.writing.file_length.Goals as goal

pub loop-t-init : goal.loop-t-init
loop-t-init c = counted_start _

pub overflow_add-length-in-loop-t-2 : goal.overflow_add-length-in-loop-t-2
overflow_add-length-in-loop-t-2 c =
    let few = counted_few _ _ _ c.loop-t.invariant in
    let across = decimal_length c.place-x.result.0 in
    let up = decimal_length c.place-x.result.1 in
    omega arith

pub loop-t-preserved : goal.loop-t-preserved
loop-t-preserved c =
    counted_turn _ _ _ c.loop-t.invariant (omega arith) _ _
    (c.decimal_length.ensures ∙ ap (λ n. length (decimal n)) c.place-x.ensures.across) (c.decimal_length-in-loop-t.ensures ∙ ap (λ n. length (decimal n)) c.place-x.ensures.up)

pub returns : goal.returns
returns c =
    let few = counted_few _ _ _ c.loop-t.invariant in
    (counted_end _ _ _ c.loop-t.invariant (omega arith), omega arith)
