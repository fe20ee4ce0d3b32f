-- `has_no_cells` meets its contract: every number of the cells is 0. Assumes nothing.
use Rattle.std.proofs.Common.{rules, tests, true, ◌∙◌, ◌&&◌, eqb}
use Rattle.std.proofs.lemmas.Iterator.{YieldsList-from_slice}
use Rattle.std.proofs.lemmas.Iterator.Consumers.{fold_from_yields_List}
use Rattle.codec.proofs.CellLaws.{all_cells_zero}
use Rattle.codec.proofs.cells.has_no_cells.Goals as goal

pub returns : goal.returns
returns c =
    fold_from_yields_List _ (λ a x. a && eqb x 0) true c.fold.result c.fold.ensures.ran (YieldsList-from_slice _ c.iter.ensures.rest) (λ a x b q k. search (rules, tests))
    ∙ all_cells_zero c.args.settings.now c.requires
