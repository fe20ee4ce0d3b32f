-- `feeding::mark_flop` meets its contract: no flip-flop, or its ports. Assumes nothing.
use mathlib.Core.Path.{sym, ◌∙◌}
use Rattle.card.proofs.TurnLaws.{flop_no, flop_yes}
use Rattle.card.proofs.feeding.mark_flop.Goals as goal

pub returns-else-is_flop : goal.returns-else-is_flop
returns-else-is_flop c = flop_no c.args.b c.args.st.now c.args.marks.now c.args.c (sym c.is_flop.ensures ∙ c.if-is_flop.false)

pub returns-then-is_flop : goal.returns-then-is_flop
returns-then-is_flop c = flop_yes c.args.b c.args.st.now c.args.marks.now c.args.c (sym c.is_flop.ensures ∙ c.if-is_flop.true) _ _ c.mark_ports.ensures c.mark_ports-then-is_flop.ensures
