-- `part::part_answer` meets its contract: each return is one way through `part_answer`. Assumes nothing.
use mathlib.Core.Path.{sym, ◌∙◌}
use native.Mathlib.Omega.{arith}
use Rattle.compare.proofs.LengthLaws.{sizes_test}
use Rattle.compare.proofs.PartLaws.{part_first_size, part_second_size, part_differ, part_length, part_past, part_done}
use Rattle.compare.proofs.part.part_answer.Goals as goal

-- the first block has no size
pub returns-then-not-is_allowed : goal.returns-then-not-is_allowed
returns-then-not-is_allowed c =
    part_first_size c.args.a c.args.b c.args.first c.args.second c.args.tile
    (sym c.is_allowed.ensures ∙ c.if-not-is_allowed.true)

-- the second has none
pub returns-then-not-is_allowed-2 : goal.returns-then-not-is_allowed-2
returns-then-not-is_allowed-2 c =
    part_second_size c.args.a c.args.b c.args.first c.args.second c.args.tile
    (sym c.is_allowed.ensures ∙ c.if-not-is_allowed.false) (sym c.is_allowed-2.ensures ∙ c.if-not-is_allowed-2.true)

-- the sizes differ
pub returns-then-ne : goal.returns-then-ne
returns-then-ne c =
    part_differ c.args.a c.args.b c.args.first c.args.second c.args.tile
    (sym c.is_allowed.ensures ∙ c.if-not-is_allowed.false) (sym c.is_allowed-2.ensures ∙ c.if-not-is_allowed-2.false)
    (sizes_test c.args.a c.args.b c.ne.ensures c.if-ne.true)

-- a length that is not the exact one
pub returns-then-not-is_part_exact : goal.returns-then-not-is_part_exact
returns-then-not-is_part_exact c =
    part_length c.args.a c.args.b c.args.first c.args.second c.args.tile
    (sym c.is_allowed.ensures ∙ c.if-not-is_allowed.false) (sym c.is_allowed-2.ensures ∙ c.if-not-is_allowed-2.false)
    (sizes_test c.args.a c.args.b c.ne.ensures c.if-ne.false) (sym c.is_part_exact.ensures ∙ c.if-not-is_part_exact.true)

-- a tile that the blocks do not have
pub returns-then-tile_count-tile : goal.returns-then-tile_count-tile
returns-then-tile_count-tile c =
    part_past c.args.a c.args.b c.args.first c.args.second c.args.tile
    (sym c.is_allowed.ensures ∙ c.if-not-is_allowed.false) (sym c.is_allowed-2.ensures ∙ c.if-not-is_allowed-2.false)
    (sizes_test c.args.a c.args.b c.ne.ensures c.if-ne.false) (sym c.is_part_exact.ensures ∙ c.if-not-is_part_exact.false)
    (omega (arith, c.tile_count.ensures.0, c.if-tile_count-tile.true))

-- one that they have
pub returns : goal.returns
returns c =
    part_done c.args.a c.args.b c.args.first c.args.second c.args.tile
    (sym c.is_allowed.ensures ∙ c.if-not-is_allowed.false) (sym c.is_allowed-2.ensures ∙ c.if-not-is_allowed-2.false)
    (sizes_test c.args.a c.args.b c.ne.ensures c.if-ne.false) (sym c.is_part_exact.ensures ∙ c.if-not-is_part_exact.false)
    (omega (arith, c.tile_count.ensures.0, c.if-tile_count-tile.false))
