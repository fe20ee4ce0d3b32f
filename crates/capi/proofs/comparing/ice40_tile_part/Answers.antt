-- `ice40_tile_part` meets its contract: the index of the tile's first number, or the ground. Assumes nothing.
use Rattle.capi.proofs.PartLaws.{part_fits}
use native.Mathlib.Omega.{arith}
use mathlib.Core.Path.{sym, ◌∙◌}
use Rattle.capi.proofs.comparing.ice40_tile_part.Goals as goal

pub overflow_mul-tile : goal.overflow_mul-tile
overflow_mul-tile c =
    let small = part_fits _ _ _ _ _ (sym c.part_answer-a.ensures ∙ c.in-Ok.is) in
    omega (arith, small)
