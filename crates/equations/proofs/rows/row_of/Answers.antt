-- `rows::row_of` meets its contract: no wire's number, a wire with a switch, or one without. Assumes nothing.
use Rattle.fabric.proofs.WireLaws.{wires_length, wires_at}
use Rattle.equations.proofs.RowFromLaws.{drive_driven, row_from_none, row_from_switch, row_from_drive}
use Rattle.netlist.specs.Kinds.{copy_kind}
use Rattle.equations.specs.RowMeaning.{plain_row}
use Rattle.equations.specs.WireRows.{drive_row}
use Rattle.equations.specs.Routed.{Driven}
use mathlib.Core.Path.{sym, ◌∙◌, ap, subst}
use native.Mathlib.Omega.{arith}
use Rattle.equations.proofs.rows.row_of.Goals as goal

pub bounds-wires-p : goal.bounds-wires-p
bounds-wires-p c =
    let a = c.args in
    omega (arith, wires_length a.b a.wires.now c.requires.0.wired)

-- no wire's number
pub returns-then-from-p : goal.returns-then-from-p
returns-then-from-p c =
    let a = c.args in
    let pre = c.requires in
    let wire = c.from.ensures ∙ wires_at a.b a.wires.now pre.0.wired a.p pre.2 in
    c.zero_row.ensures ∙ row_from_none a.b a.st.now a.sources.now a.p (λ e. c.if-from-p.true (wire ∙ e))

-- a switch ends on it
pub returns-in-Some : goal.returns-in-Some
returns-in-Some c =
    let a = c.args in
    let pre = c.requires in
    let wire = c.from.ensures ∙ wires_at a.b a.wires.now pre.0.wired a.p pre.2 in
    c.plain_row.ensures ∙ ap (plain_row copy_kind a.p) c.in-Some.ensures.1
    ∙ row_from_switch a.b a.st.now a.sources.now a.p (sym wire ∙ c.if-from-p.false) (λ e. omega (arith, c.in-Some.ensures))

pub drive_row-requires : goal.drive_row-requires
drive_row-requires c =
    let a = c.args in
    let pre = c.requires in
    (pre.0, subst (Driven a.b) (sym c.drive_of.ensures) (drive_driven a.b a.p pre.2))

-- none does
pub returns-in-None : goal.returns-in-None
returns-in-None c =
    let a = c.args in
    let pre = c.requires in
    let wire = c.from.ensures ∙ wires_at a.b a.wires.now pre.0.wired a.p pre.2 in
    c.drive_row.ensures ∙ ap (drive_row a.b a.st.now a.p) c.drive_of.ensures
    ∙ row_from_drive a.b a.st.now a.sources.now a.p (sym wire ∙ c.if-from-p.false) (omega (arith, c.in-None.ensures))
