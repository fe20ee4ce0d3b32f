-- `blocks::list_block` meets its contract. Invariant: the rows of the tiles before t are stored (`TilesStored`). Assumes nothing.
use native.Mathlib.Omega.{arith}
use Rattle.lists.proofs.PartLaws.{part_code_length}
use Rattle.lists.proofs.Storing.{stored_start}
use Rattle.ports.specs.Lengths.{settings_length}
use Rattle.compare.proofs.BlockLaws.{store_tile_part, store_tile_room}
use Rattle.compare.proofs.blocks.list_block.Goals as goal

pub loop-t-init : goal.loop-t-init
loop-t-init c = stored_start _ _ _ _ _

pub list_tile-at-requires : goal.list_tile-at-requires
list_tile-at-requires c =
    let t = c.loop-t.t in
    let n = c.args.n in
    let old = c.args.before.now in
    let new = c.args.after.now in (
      part_code_length settings_length t n old c.requires.1 (omega arith),
      part_code_length settings_length t n new c.requires.2 (omega arith),
      store_tile_room old new t c.loop-t.invariant n (omega arith) c.requires.3,
    )

pub loop-t-preserved : goal.loop-t-preserved
loop-t-preserved c =
    store_tile_part c.args.before.now c.args.after.now c.loop-t.t c.loop-t.invariant _ _
    c.list_tile-at.ensures.list c.list_tile-at.ensures.end
