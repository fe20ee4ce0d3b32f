-- `leaving::mark_exits` meets its contract. Invariant: the tiles before `tile` are marked. Assumes nothing.
use Rattle.card.specs.Marks.{west_marks, east_marks, south_marks, north_marks}
use Rattle.card.proofs.TurnLaws.{exits_start, exits_next}
use Rattle.card.proofs.leaving.mark_exits.Goals as goal

pub loop-tile-init : goal.loop-tile-init
loop-tile-init c = exits_start c.args.b c.args.marks.now

pub loop-tile-preserved : goal.loop-tile-preserved
unfolding west_marks east_marks south_marks north_marks
loop-tile-preserved c =
    exits_next c.args.b c.args.marks.now c.loop-tile.tile _ _ _ _ _ c.loop-tile.invariant c.mark_side.ensures c.mark_side-in-loop-tile.ensures c.mark_side-in-loop-tile-2.ensures c.mark_side-in-loop-tile-3.ensures
