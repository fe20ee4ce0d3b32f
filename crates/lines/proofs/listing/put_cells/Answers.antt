-- `listing::put_cells` meets its contract. Invariant: the lines of the first c cells stand there, and the length is the old one. Assumes nothing.
use Rattle.lines.proofs.LineLaws.{cell_long}
use Rattle.texts.proofs.PutsLaws.{puts_none, puts_turn, joined_long}
use Rattle.lines.specs.Listing.{cell_part}
use Rattle.lists.specs.Parts.{joined}
use native.Mathlib.Omega.{arith}
use mathlib.Core.Path.{refl, ◌∙◌}
use Rattle.lines.proofs.listing.put_cells.Goals as goal

pub loop-c-init : goal.loop-c-init
unfolding joined
loop-c-init c = (omega arith, refl, puts_none _ _ _ refl)

pub put_cell-next-requires : goal.put_cell-next-requires
put_cell-next-requires c =
    let long = joined_long (cell_part c.args.st.now) 13 c.loop-c.c (cell_long c.args.st.now) in
    let next = c.loop-c.invariant.2.0 in
    (omega arith, omega arith, omega arith)

pub loop-c-preserved : goal.loop-c-preserved
loop-c-preserved c =
    let long = joined_long (cell_part c.args.st.now) 13 c.loop-c.c (cell_long c.args.st.now) in
    let more = cell_long c.args.st.now c.loop-c.c in
    let next = c.loop-c.invariant.2.0 in
    (omega arith, c.put_cell-next.auto.out ∙ c.loop-c.invariant.1, puts_turn (cell_part c.args.st.now) _ _ _ _ _ _ _ c.loop-c.invariant.2 (c.put_cell-next.ensures.next, c.put_cell-next.ensures.out) (omega arith))
