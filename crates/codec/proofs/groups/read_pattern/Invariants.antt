-- `read_pattern` meets its contract. Invariant: the pattern so far has the first k positions as its digits. Assumes nothing.
use mathlib.Core.Path.{◌≡◌}
use Rattle.digits.specs.Digits.{from_digits}
use Rattle.routing.specs.LogicTile.{logic_tile}
use Rattle.codec.specs.Groups.{group_bit}
use Rattle.codec.specs.Bits.{bit_at}
use Rattle.codec.proofs.groups.read_pattern.Given as goal

abbrev pub invariant-loop-k : goal.invariant-loop-k
invariant-loop-k l = l.pattern ≡ from_digits (group_bit logic_tile l.table (bit_at l.bits) l.g) l.k
