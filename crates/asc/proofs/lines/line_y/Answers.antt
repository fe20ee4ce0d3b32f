-- `lines::line_y` meets its contract: the number behind the space, or none. Assumes nothing.
use Prim.Native.Nat.{◌-◌, ◌+◌}
use mathlib.Core.Path.{ap, ◌∙◌}
use lib.ListN.{length, take, drop}
use Rattle.texts.specs.Decimal.{number}
use Rattle.asc.proofs.SpeltLaws.{tail_is, line_y_is, line_y_none}
use Rattle.asc.proofs.lines.line_y.Goals as goal

pub returns-then-n-rest : goal.returns-then-n-rest
returns-then-n-rest c =
    c.number.ensures ∙ ap number (tail_is (c.word_length-n.result + 1) (take (length c.args.line.now - 12) (drop 12 c.args.line.now))) ∙ line_y_is c.args.line.now (take (length c.args.line.now - 12) (drop 12 c.args.line.now)) (tail_is 12 c.args.line.now) _ c.word_length-n.ensures

pub returns-else-n-rest : goal.returns-else-n-rest
returns-else-n-rest c =
    line_y_none c.args.line.now _ (tail_is 12 c.args.line.now) _ c.word_length-n.ensures c.if-n-rest.false
