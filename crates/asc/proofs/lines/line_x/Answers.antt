-- `lines::line_x` meets its contract: the number before the space. Assumes nothing.
use mathlib.Core.Path.{◌∙◌}
use Rattle.texts.proofs.WordLaws.{word_take}
use Rattle.asc.proofs.SpeltLaws.{tail_is, line_x_is}
use Rattle.asc.proofs.lines.line_x.Goals as goal

pub slice_bounds-number-end : goal.slice_bounds-number-end
slice_bounds-number-end c = word_take _ _ c.word_length-n.ensures

pub returns : goal.returns
returns c =
    c.number.ensures ∙ line_x_is c.args.line.now _ (tail_is 12 c.args.line.now) _ c.word_length-n.ensures
