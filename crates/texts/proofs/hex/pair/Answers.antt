-- `hex::pair` meets its contract. Assumes nothing.
use mathlib.Core.Path.{ap, ◌∙◌}
use native.Mathlib.Omega.{arith}
use Rattle.texts.specs.Hex.{value_of, pair_at}
use Rattle.texts.proofs.HexLaws.{value_lt}
use Rattle.texts.proofs.hex.pair.Goals as goal

pub overflow_mul-result : goal.overflow_mul-result
overflow_mul-result c = omega (arith, value_lt c.byte_at.result)

pub overflow_add-result : goal.overflow_add-result
overflow_add-result c = omega (arith, value_lt c.byte_at.result, value_lt c.byte_at-2.result)

pub returns : goal.returns
unfolding pair_at
returns c =
    let high = c.value-high.ensures ∙ ap value_of c.byte_at.ensures in
    let low = c.value-low.ensures ∙ ap value_of c.byte_at-2.ensures in
    omega arith
