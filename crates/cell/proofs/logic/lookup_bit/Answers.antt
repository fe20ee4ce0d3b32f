-- `lookup_bit` meets its contract: after each choice the wanted bit is the one that the remaining inputs index (`by_halves`). Assumes nothing.
use Rattle.cell.proofs.HalvesLaws.{by_halves, halved_one, halved_lt}
use mathlib.Core.Path.{◌∙◌}
use native.Mathlib.Omega.{arith}
use Rattle.cell.proofs.logic.lookup_bit.Goals as goal

-- the one that is left is 0 or 1
pub overflow_cast-result : goal.overflow_cast-result
overflow_cast-result c = omega (arith, c.half-one.ensures.is, halved_lt c.half-two.result c.args.in0 1)

pub returns : goal.returns
returns c =
    (by_halves c.requires.0 c.requires.1 c.requires.2
    c.half-eight.ensures.among
    c.half-four.ensures.among
    c.half-two.ensures.among
    (c.half-one.ensures.is ∙ halved_one c.half-two.result c.args.in0)
    ).after_in0
