-- `feeding::keep_open` meets its contract. Invariant: the marks before w stayed or went. Assumes nothing.
use Rattle.card.specs.Marks.{open_from}
use Rattle.card.proofs.TurnLaws.{kept_start, kept_next}
use Rattle.card.proofs.feeding.keep_open.Goals as goal

pub loop-w-init : goal.loop-w-init
loop-w-init c = kept_start (open_from c.args.b c.args.st.now c.args.sources.now) c.args.marks.now

pub loop-w-preserved : goal.loop-w-preserved
loop-w-preserved c =
    kept_next (open_from c.args.b c.args.st.now c.args.sources.now) c.args.marks.now c.loop-w.w _ _ c.loop-w.invariant c.keep_open_at.ensures
