-- `write_others` meets its contract. Invariant: the digits before the k-th are written, and the positions from it on are clear. Assumes nothing.
use mathlib.Core.Path.{◌≡◌}
use Prim.Native.Nat.{◌<◌}
use lib.ListN.{length}
use Rattle.routing.specs.Table.{width_of, position_at}
use Rattle.routing.specs.LogicTile.{logic_tile}
use Rattle.ports.specs.Lengths.{tile_numbers}
use Rattle.codec.specs.Held.{with_held, ClearFrom, DigitsWritten}
use Rattle.codec.proofs.groups.write_others.Given as goal

abbrev pub invariant-loop-k : goal.invariant-loop-k
invariant-loop-k l =
    (length l.bits ≡ tile_numbers) × (l.next.row < tile_numbers) ×
    ClearFrom (position_at logic_tile l.table l.g) l.k (width_of logic_tile l.table l.g) (with_held l.bits l.next) ×
    DigitsWritten (position_at logic_tile l.table l.g) l.pattern 1 l.k (with_held l.initial.bits l.initial.next) (with_held l.bits l.next)
