-- `blocks::list_block` meets its contract. Invariant: the rows of the tiles before t are stored (`TilesStored`). Assumes nothing.
use Rattle.compare.proofs.BlockLaws.{TilesStored}
use Rattle.compare.proofs.blocks.list_block.Given as goal

abbrev pub invariant-loop-t : goal.invariant-loop-t
invariant-loop-t l = TilesStored l.before l.after l.initial.list l.t l.at l.list
