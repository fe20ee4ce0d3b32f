-- `write_groups` meets its contract. Invariant: with the row that is held, the slots of the first g groups are written. Measure: the groups left.
-- Assumes nothing.
use mathlib.Core.Path.{◌≡◌}
use Prim.Native.Nat.{◌-◌, ◌<◌, ◌≤◌}
use lib.ListN.{length}
use Rattle.ports.specs.Lengths.{tile_numbers}
use Rattle.routing.specs.Slots.{group_slot}
use Rattle.routing.specs.LogicTile.{logic_tile}
use Rattle.codec.specs.Held.{with_held}
use Rattle.codec.specs.Writing.{TileWritten}
use Rattle.tile.proofs.write_groups.Given as goal

abbrev pub invariant-loop-g : goal.invariant-loop-g
invariant-loop-g l =
    (l.g ≤ l.n) × (length l.bits ≡ tile_numbers) × (l.held.row < tile_numbers) × TileWritten l.table l.settings (group_slot logic_tile l.g) (with_held l.bits l.held)

abbrev pub decreases-loop-g : goal.decreases-loop-g
decreases-loop-g l = l.n - l.g
