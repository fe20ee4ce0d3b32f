-- `cells::is_used` meets its contract: the table, or else the flags, decide. Assumes nothing.
use Rattle.card.proofs.CellLaws.{used_table, used_flags}
use mathlib.Core.Path.{ap, ◌∙◌}
use mathlib.Core.Bool.{not}
use borrow.Author.Tests.{ne_eqb}
use Rattle.card.proofs.cells.is_used.Goals as goal

pub returns-then-tile_setting-ne0 : goal.returns-then-tile_setting-ne0
returns-then-tile_setting-ne0 c =
    ap not (ne_eqb c.tile_setting.result 0 c.if-tile_setting-ne0.true) ∙ used_table c.args.st.now c.args.c _ c.tile_setting.ensures c.if-tile_setting-ne0.true

pub returns-else-tile_setting-ne0 : goal.returns-else-tile_setting-ne0
returns-else-tile_setting-ne0 c = used_flags c.args.st.now c.args.c _ c.tile_setting.ensures c.if-tile_setting-ne0.false _ c.tile_setting-else-tile_setting-ne0.ensures
