-- `span::crossing` meets its contract: an exclusive or with 1 flips the lowest bit. Assumes nothing.
use Rattle.fabric.proofs.FlipLaws.{xor_flip}
use Rattle.fabric.proofs.span.crossing.Goals as goal

pub returns : goal.returns
returns c = xor_flip c.args.k
