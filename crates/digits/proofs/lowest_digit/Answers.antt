-- `digits::lowest_digit` meets its contract: the count of trailing zeros is the lowest set digit. Assumes nothing.
use native.Mathlib.Omega.{arith}
use Rattle.digits.proofs.LowestLaws.{trailing_lowest}
use Rattle.digits.proofs.lowest_digit.Goals as goal

pub returns : goal.returns
returns c = trailing_lowest 64 c.args.word (omega arith) (omega arith)
