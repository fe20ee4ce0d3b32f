-- `feeding::keep_open_at` meets its contract: no mark, an open wire, or another one. Assumes nothing.
use mathlib.Core.Path.{refl, sym, ◌∙◌}
use Rattle.card.proofs.TurnLaws.{kept_clear, kept_yes, kept_no}
use Rattle.card.proofs.feeding.keep_open_at.Goals as goal
use Rattle.card.proofs.feeding.keep_open_at.Goals.{else-marks-w-ne0-via-then-marks-w-ne0+else-not-is_open, else-marks-w-ne0-via-else-marks-w-ne0}

pub returns-else-marks-w-ne0 : goal.returns-else-marks-w-ne0
returns-else-marks-w-ne0 c =
    elim c.else-marks-w-ne0.branch [
      | else-marks-w-ne0-via-then-marks-w-ne0+else-not-is_open w ↦ kept_yes _ c.args.marks.now c.args.w (sym w.is_open.ensures ∙ w.if-not-is_open.false)
      | else-marks-w-ne0-via-else-marks-w-ne0 w ↦ kept_clear _ c.args.marks.now c.args.w w.if-marks-w-ne0.false
    ]

pub returns-then-not-is_open : goal.returns-then-not-is_open
returns-then-not-is_open c = kept_no _ c.args.marks.now c.args.w _ (sym c.is_open.ensures ∙ c.if-not-is_open.true) refl
