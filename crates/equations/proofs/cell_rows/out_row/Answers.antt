-- `cell_rows::out_row` meets its contract, with the flip-flop and without. Assumes nothing.
use Rattle.equations.proofs.WireRowLaws.{flop_row, out_row}
use Rattle.cell.specs.declared.logic.Cell.{Cell}
use mathlib.Core.Path.{sym, ◌∙◌, ap}
use Rattle.equations.proofs.cell_rows.out_row.Goals as goal

-- a flip-flop
pub returns-then-cell : goal.returns-then-cell
returns-then-cell c =
    let a = c.args in
    let on = sym (ap (λ (cell : Cell). cell.flipflop) c.cell_at-cell.ensures) in
    c.plain_row.ensures ∙ sym (flop_row a.b a.st.now a.w a.tile a.i (on ∙ c.if-cell.true))

-- the lookup
pub returns-else-cell : goal.returns-else-cell
returns-else-cell c =
    let a = c.args in
    let on = sym (ap (λ (cell : Cell). cell.flipflop) c.cell_at-cell.ensures) in
    c.lookup_row.ensures ∙ sym (out_row a.b a.st.now a.w a.tile a.i (on ∙ c.if-cell.false))
