-- `rows::write_rows` meets its contract. Invariant: the first p rows are written (`RowsWritten`). Assumes nothing.
use Rattle.fabric.proofs.WireLaws.{wires_length}
use Rattle.equations.specs.Sources.{row_from}
use Rattle.ports.specs.Lengths.{ports}
use Rattle.netlist.proofs.RowLaws.{RowsWritten, written_step, written_end}
use mathlib.Core.List.{List}
use mathlib.Core.Path.{sym, subst}
use Prim.Native.Nat.{◌+◌, ℕ}
use native.Mathlib.Omega.{arith}
use Rattle.equations.proofs.rows.write_rows.Goals as goal

pub loop-p-preserved : goal.loop-p-preserved
loop-p-preserved c =
    let a = c.args in
    let inv = c.loop-p.invariant in
    let f = row_from a.b a.st.now a.sources.now in
    let n = wires_length a.b a.wires.now c.requires.0.wired in
    let row = written_step f (ports a.b) _ _ _ inv (omega (arith, n)) c.row_of.ensures in
    subst (λ (l : List ℕ). RowsWritten f (ports a.b) (c.loop-p.p + 1) l) (sym c.write_row.ensures) row

pub returns : goal.returns
returns c = written_end _ _ _ _ c.loop-p.invariant (omega (arith, wires_length c.args.b c.args.wires.now c.requires.0.wired))
