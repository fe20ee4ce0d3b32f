-- `read_ten` meets its contract: ten digits of a row are its bits (`ten_is`). Assumes nothing.
use Rattle.codec.proofs.TenLaws.{ten_is}
use Rattle.codec.proofs.bits.read_ten.Goals as goal

pub returns : goal.returns
returns c = ten_is c.args.bits.now c.args.p c.requires.0
