-- `write_passives` meets its contract. Invariant: the slots of the first j passive bits are written. Assumes nothing.
use Prim.Native.Nat.{◌+◌}
use Rattle.routing.specs.Slots.{passive_slots}
use Rattle.routing.specs.LogicTile.{logic_tile}
use Rattle.codec.specs.Writing.{TileWritten}
use Rattle.tile.proofs.write_passives.Given as goal

abbrev pub invariant-loop-j : goal.invariant-loop-j
invariant-loop-j l = TileWritten l.table l.settings (passive_slots logic_tile + l.j) l.bits
