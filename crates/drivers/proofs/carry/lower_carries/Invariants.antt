-- `carry::lower_carries` meets its contract. Invariant: the operands before j are taken (`lower_carries`). Assumes nothing.
use Rattle.drivers.specs.CarryReads.{lower_carries}
use mathlib.Core.Path.{◌≡◌}
use Rattle.drivers.proofs.carry.lower_carries.Given as goal

abbrev pub invariant-loop-j : goal.invariant-loop-j
invariant-loop-j l = l.lowest ≡ lower_carries l.b l.st l.row l.low l.j
