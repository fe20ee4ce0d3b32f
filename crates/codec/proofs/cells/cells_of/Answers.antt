-- `cells_of` meets its contract: cell i is made of its table and its flags in the settings. Assumes nothing.
use Rattle.std.proofs.Common.{rules}
use Rattle.lists.proofs.StdLaws.{from_fn-is}
use Rattle.codec.specs.Cells.{cell_setting, cell_settings, empty_cell}
use Rattle.codec.proofs.cells.cells_of.Goals as goal

pub returns : goal.returns
unfolding cell_settings
returns c = from_fn-is (cell_setting c.args.settings.now) empty_cell 8 _ (λ i y q l k. search rules) c.from_fn.result c.from_fn.ensures.items
