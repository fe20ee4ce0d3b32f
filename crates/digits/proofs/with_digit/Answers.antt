-- `digits::with_digit` meets its contract, by the laws of a digit written in 64 digits. Assumes nothing.
use Rattle.digits.proofs.WriteLaws.{write_is, write_lt}
use native.Mathlib.Omega.{arith}
use Rattle.digits.proofs.with_digit.Goals as goal

pub overflow_add-result : goal.overflow_add-result
overflow_add-result c = rw c.from.ensures (record { fits = write_lt 64 c.args.word c.args.k c.args.value (omega arith) (omega arith) (omega arith) })

pub returns : goal.returns
returns c = rw c.from.ensures (write_is 64 c.args.word c.args.k c.args.value (omega arith) (omega arith) (omega arith))
