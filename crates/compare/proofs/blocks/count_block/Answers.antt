-- `blocks::count_block` meets its contract. Invariant: c counts the rows of the tiles before t. Assumes nothing.
use Prim.Native.Nat.{◌*◌}
use native.Mathlib.Omega.{arith}
use borrow.Author.Rules.{rules}
use Rattle.lists.specs.Search.{count_below}
use Rattle.lists.proofs.CountLaws.{count_le}
use Rattle.compare.specs.Places.{places_per_tile, differ_at}
use Rattle.compare.specs.Rows.{block_differs}
use Rattle.compare.proofs.BlockLaws.{taken, count_tile_part}
use Rattle.compare.proofs.blocks.count_block.Goals as goal

pub loop-t-init : goal.loop-t-init
unfolding count_below
loop-t-init c = search rules

pub overflow_add-c : goal.overflow_add-c
overflow_add-c c =
    let t = c.loop-t.t in
    let old = c.args.before.now in
    let new = c.args.after.now in
    omega (
      arith,
      c.count_tile-c.ensures,
      c.loop-t.invariant,
      count_le (block_differs old new) (places_per_tile * t),
      count_le (differ_at (taken t old) (taken t new)) places_per_tile,
    )

pub loop-t-preserved : goal.loop-t-preserved
loop-t-preserved c =
    count_tile_part c.args.before.now c.args.after.now c.loop-t.t _ _ c.loop-t.invariant c.count_tile-c.ensures
