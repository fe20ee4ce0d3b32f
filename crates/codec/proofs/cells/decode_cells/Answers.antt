-- `decode_cells` meets its contract: cell i is made of the bits' value i. Assumes nothing.
use Rattle.std.proofs.Common.{rules}
use Rattle.lists.proofs.StdLaws.{from_fn-is}
use Rattle.codec.specs.Bits.{bit_at}
use Rattle.codec.specs.Cells.{cell_in, cells_in, empty_cell}
use Rattle.codec.proofs.cells.decode_cells.Goals as goal

pub returns : goal.returns
unfolding cells_in
returns c = from_fn-is (cell_in (bit_at c.args.bits.now)) empty_cell 8 _ (λ i y q l k. search rules) c.from_fn.result c.from_fn.ensures.items
