-- `read_bit` meets its contract: the digit of the number that holds the position. Assumes nothing.
use Rattle.words.specs.Packed.{bit_in}
use Rattle.codec.proofs.bits.read_bit.Goals as goal

pub returns : goal.returns
unfolding bit_in
returns c = c.digit_of.ensures
