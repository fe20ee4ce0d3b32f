-- `clocks::has_flop` meets its contract: the search over the cells is `any_cell`. Assumes nothing.
use mathlib.Core.Path.{refl}
use Rattle.std.proofs.Common.{rules, tests}
use Rattle.lists.proofs.RangeLaws.{any_below}
use Rattle.equations.specs.Tiles.{flop_on}
use Rattle.drivers.proofs.clocks.has_flop.Goals as goal

pub returns : goal.returns
returns c =
    let p = flop_on c.args.st.now c.args.tile in
    any_below p p _ _ _ _ refl c.any.ensures.ran (λ x b h k. search (rules, tests)) (λ k l. refl)
