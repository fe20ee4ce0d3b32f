-- `groups::after_off` meets its contract. Invariant: the groups from g on and before `at` are off. Measure: the groups left. Assumes nothing.
use Prim.Native.Nat.{◌+◌}
use native.Mathlib.Omega.{arith}
use Rattle.routing.specs.LogicTile.{logic_tile}
use Rattle.codec.specs.Settings.{groups_from}
use Rattle.tile.proofs.WritingLaws.{off_four}
use Rattle.tile.proofs.groups.after_off.Goals as goal

pub loop-at-preserved : goal.loop-at-preserved
loop-at-preserved c = (
  omega arith,
  omega arith,
  off_four c.args.settings.now c.args.g c.loop-at.at (groups_from logic_tile + c.loop-at.at)
      c.loop-at.invariant.2 (omega arith) c.if-any-ne0.false,
)
