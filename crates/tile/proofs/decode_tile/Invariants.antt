-- `decode_tile` meets its contract. Invariants: the settings are those of the bits (`Filled`) up to the groups, then the first g groups. Assumes nothing.
use Rattle.codec.specs.Bits.{bit_at}
use Prim.Native.Nat.{◌+◌}
use Rattle.lists.proofs.TableLaws.{Filled}
use Rattle.routing.specs.LogicTile.{logic_tile}
use Rattle.ports.specs.Lengths.{settings_length}
use Rattle.codec.specs.Settings.{groups_from}
use Rattle.codec.specs.Decode.{setting_at}
use Rattle.tile.proofs.decode_tile.Given as goal

abbrev pub invariant-loop-n : goal.invariant-loop-n
invariant-loop-n l = Filled (setting_at l.table (bit_at l.bits)) 0 settings_length l.n l.settings

abbrev pub invariant-loop-g : goal.invariant-loop-g
invariant-loop-g l = Filled (setting_at l.table (bit_at l.bits)) 0 settings_length (groups_from logic_tile + l.g) l.settings
