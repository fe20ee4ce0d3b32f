-- `write_bit` meets its contract: one digit of one number is written. Assumes nothing.
use mathlib.Core.Path.{ap}
use Prim.Native.Nat.{◌/◌}
use lib.ListN.{set}
use Rattle.codec.specs.Bits.{unit, set_bit_in}
use Rattle.codec.proofs.bits.write_bit.Goals as goal

pub returns : goal.returns
unfolding set_bit_in
returns c =
    ap (set c.args.bits.now (c.args.p / unit)) c.with_digit.ensures
