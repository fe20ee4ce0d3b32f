-- `text_length` meets its contract: no size, or the length that is counted. Assumes nothing.
use Rattle.std.specs.Prelude.{Ok}
use mathlib.Core.Path.{◌≡◌, ap, ◌∙◌, subst}
use mathlib.Core.Bool.{true}
use Rattle.asc.specs.Area.{Area, sized}
use Rattle.asc.specs.Answers.{length_answer}
use Rattle.asc.specs.Content.{text_length}
use Rattle.asc.proofs.text_length.Goals as goal

pub returns-in_default : goal.returns-in_default
unfolding length_answer
returns-in_default c = rw c.in_default.ensures

pub returns : goal.returns
unfolding length_answer
returns c =
    let same = c.in-Some.ensures in
    let size = subst (λ (a : Area). sized a ≡ true) same c.in-Some.site.is_sized in
    rw size (ap Ok (c.file_length.ensures.0 ∙ ap text_length same))
