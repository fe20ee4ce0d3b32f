-- `read_value` meets its contract. Invariant: the value so far has the first j of the tens' digits, in the order of the cell.
-- Assumes nothing.
use mathlib.Core.Path.{◌≡◌}
use Rattle.digits.specs.Digits.{from_digits}
use Rattle.codec.proofs.TenLaws.{tens_digit}
use Rattle.codec.proofs.cells.read_value.Given as goal

abbrev pub invariant-loop-j : goal.invariant-loop-j
invariant-loop-j l = l.value ≡ from_digits (tens_digit l.both) l.j
