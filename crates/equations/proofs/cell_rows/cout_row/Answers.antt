-- `cell_rows::cout_row` meets its contract, with the carry and without. Assumes nothing.
use Rattle.equations.proofs.WireRowLaws.{carry_row, no_carry_row}
use Rattle.cell.specs.declared.logic.Cell.{Cell}
use mathlib.Core.Path.{sym, ◌∙◌, ap}
use Rattle.equations.proofs.cell_rows.cout_row.Goals as goal

-- the carry is enabled
pub returns-then-cell : goal.returns-then-cell
returns-then-cell c =
    let a = c.args in
    let on = sym (ap (λ (cell : Cell). cell.carry) c.cell_at-cell.ensures) in
    c.majority_row.ensures ∙ sym (carry_row a.b a.st.now a.w a.tile a.i (on ∙ c.if-cell.true))

-- it is not
pub returns-else-cell : goal.returns-else-cell
returns-else-cell c =
    let a = c.args in
    let on = sym (ap (λ (cell : Cell). cell.carry) c.cell_at-cell.ensures) in
    c.plain_row.ensures ∙ sym (no_carry_row a.b a.st.now a.w a.tile a.i (on ∙ c.if-cell.false))
