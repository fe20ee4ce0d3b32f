-- `cell_rows::mux_row` meets its contract: set, switched, or neither. Assumes nothing.
use Rattle.equations.proofs.WireRowLaws.{set_row_lem, chain_row, unset_row}
use Rattle.equations.specs.RowMeaning.{plain_row}
use Rattle.netlist.specs.Kinds.{copy_kind}
use borrow.Author.Tests.{eq-eqb, ne_eqb}
use mathlib.Core.Path.{sym, ◌∙◌, ap}
use Rattle.equations.proofs.cell_rows.mux_row.Goals as goal

-- set
pub returns-then-tile_setting-eq1 : goal.returns-then-tile_setting-eq1
returns-then-tile_setting-eq1 c =
    let a = c.args in
    c.plain_row.ensures ∙ sym (set_row_lem a.b a.st.now a.w a.tile (eq-eqb _ _ (sym c.tile_setting.ensures ∙ c.if-tile_setting-eq1.true)))

-- switched
pub returns-then-tile_setting-eq1-2 : goal.returns-then-tile_setting-eq1-2
returns-then-tile_setting-eq1-2 c =
    let a = c.args in
    c.plain_row-then-tile_setting-eq1-2.ensures ∙ ap (plain_row copy_kind a.w) c.tile_wire.ensures
    ∙ sym
    (chain_row a.b a.st.now a.w a.tile (ne_eqb _ _ (λ e. c.if-tile_setting-eq1.false (c.tile_setting.ensures ∙ e)))
    (eq-eqb _ _ (sym c.tile_setting-else-tile_setting-eq1.ensures ∙ c.if-tile_setting-eq1-2.true)))

-- neither
pub returns-else-tile_setting-eq1-2 : goal.returns-else-tile_setting-eq1-2
returns-else-tile_setting-eq1-2 c =
    let a = c.args in
    c.plain_row-else-tile_setting-eq1-2.ensures
    ∙ sym
    (unset_row a.b a.st.now a.w a.tile (ne_eqb _ _ (λ e. c.if-tile_setting-eq1.false (c.tile_setting.ensures ∙ e)))
    (ne_eqb _ _ (λ e. c.if-tile_setting-eq1-2.false (c.tile_setting-else-tile_setting-eq1.ensures ∙ e))))
