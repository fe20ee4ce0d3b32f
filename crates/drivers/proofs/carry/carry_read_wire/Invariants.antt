-- `carry::carry_read_wire` meets its contract. Invariant: the lowest of those that the rows before w read. Assumes nothing.
use Rattle.drivers.specs.CarryReads.{carry_read_in}
use Rattle.ports.specs.Lengths.{ports}
use Rattle.lists.specs.Search.{first}
use mathlib.Core.Path.{◌≡◌}
use Rattle.drivers.proofs.carry.carry_read_wire.Given as goal

abbrev pub invariant-loop-w : goal.invariant-loop-w
invariant-loop-w l = l.lowest ≡ first (carry_read_in l.b l.table l.st l.w) 0 (ports l.b)
