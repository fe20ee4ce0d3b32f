-- `hex::quad` meets its contract. Assumes nothing.
use Prim.Native.Nat.{◌+◌}
use native.Mathlib.Omega.{arith}
use Rattle.texts.specs.Hex.{quad_at}
use Rattle.texts.proofs.HexLaws.{pair_lt}
use Rattle.texts.proofs.hex.quad.Goals as goal

pub overflow_mul-result : goal.overflow_mul-result
overflow_mul-result c = let args = c.args in omega (arith, pair_lt args.s.now args.at)

pub overflow_add-result : goal.overflow_add-result
overflow_add-result c = let args = c.args in omega (arith, pair_lt args.s.now args.at, pair_lt args.s.now (args.at + 2))

pub returns : goal.returns
unfolding quad_at
returns c = omega arith
