-- `leaving::keep_driven` meets its contract. Invariant: the marks before w stayed or went. Assumes nothing.
use mathlib.Core.Path.{◌∙◌}
use Rattle.netlist.proofs.MarkLaws.{listed_true, listed_false}
use lib.Seq.{set-get_or}
use Rattle.netlist.specs.Marks.{listed}
use Rattle.card.proofs.TurnLaws.{kept_start, kept_next, kept_yes, kept_no}
use Rattle.card.proofs.leaving.keep_driven.Goals as goal
use Rattle.card.proofs.leaving.keep_driven.Goals.{then-sources-w-eq0, else-sources-w-eq0}

pub loop-w-init : goal.loop-w-init
loop-w-init c = kept_start (listed c.args.sources.now) c.args.marks.now

pub loop-w-preserved : goal.loop-w-preserved
loop-w-preserved c =
    let p = listed c.args.sources.now in
    let w = c.loop-w.w in
    kept_next p c.args.marks.now w _ _ c.loop-w.invariant
    (elim c.if-sources-w-eq0.branch [
      | then-sources-w-eq0 x ↦ kept_no p _ w _ (listed_false c.args.sources.now w x.if-sources-w-eq0.true) x.marks-is
      | else-sources-w-eq0 x ↦ x.marks-is ∙ set-get_or _ w 0 ∙ kept_yes p _ w (listed_true c.args.sources.now w x.if-sources-w-eq0.false)
    ])
