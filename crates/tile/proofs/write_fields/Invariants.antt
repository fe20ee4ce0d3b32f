-- `write_fields` meets its contract. Invariant: the slots of the first f fields are written. Assumes nothing.
use Prim.Native.Nat.{◌+◌}
use Rattle.routing.specs.Slots.{field_slots}
use Rattle.routing.specs.LogicTile.{logic_tile}
use Rattle.codec.specs.Writing.{TileWritten}
use Rattle.tile.proofs.write_fields.Given as goal

abbrev pub invariant-loop-f : goal.invariant-loop-f
invariant-loop-f l = TileWritten l.table l.settings (field_slots logic_tile + l.f) l.bits
