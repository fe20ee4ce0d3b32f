-- `digits::without_digit` meets its contract: `&` with all digits but one. Assumes nothing.
use native.Mathlib.Omega.{arith}
use Rattle.digits.proofs.WriteLaws.{lower_is}
use Rattle.digits.proofs.without_digit.Goals as goal

pub returns : goal.returns
returns c = lower_is 64 c.args.word c.args.k c.requires (omega arith)
