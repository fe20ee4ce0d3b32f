-- `blocks::count_block` meets its contract. Invariant: c counts the rows of the tiles before t. Assumes nothing.
use mathlib.Core.Path.{◌≡◌}
use Rattle.compare.specs.Rows.{difference_count}
use Rattle.compare.proofs.blocks.count_block.Given as goal

abbrev pub invariant-loop-t : goal.invariant-loop-t
invariant-loop-t l = l.c ≡ difference_count l.before l.after l.t
