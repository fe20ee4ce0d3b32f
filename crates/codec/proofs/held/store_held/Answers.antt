-- `store_held` meets its contract: the bits that are meant are the tile's. Assumes nothing.
use Rattle.codec.specs.Held.{with_held}
use mathlib.Core.Path.{refl}
use Rattle.codec.proofs.held.store_held.Goals as goal

pub returns : goal.returns
unfolding with_held
returns c = refl
