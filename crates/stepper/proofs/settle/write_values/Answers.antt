-- `settle::write_values` meets its contract. Invariant: the first p values are those of the ports' wires (`Filled`). Assumes nothing.
use native.Mathlib.Omega.{arith}
use lib.ListN.{get_or}
use Prim.Native.Nat.{ℕ}
use mathlib.Core.Path.{◌∙◌, ap}
use Rattle.lists.proofs.TableLaws.{filled_end}
use Rattle.lists.specs.Tables.{tabulate}
use Rattle.fabric.proofs.WireLaws.{wire_within, wires_length, wires_at}
use Rattle.stepper.proofs.SettledLaws.{port_values_is}
use Rattle.stepper.proofs.settle.write_values.Goals as goal

pub bounds-wires-p : goal.bounds-wires-p
bounds-wires-p c =
    let a = c.args in
    omega (arith, wires_length a.b a.wires.now c.requires.0)

pub bounds-x-from : goal.bounds-x-from
bounds-x-from c =
    let a = c.args in
    omega (arith, wires_at a.b a.wires.now c.requires.0 c.loop-p.p (omega arith), wire_within a.b c.loop-p.p (omega arith), c.from.ensures)

pub returns : goal.returns
returns c =
    let a = c.args in
    filled_end _ 0 _ _ _ c.loop-p.invariant (omega arith)
    ∙ ap (λ (m : ℕ). tabulate (λ p. get_or a.x.now (get_or a.wires.now p 0) 0) 0 m) c.requires.2
    ∙ port_values_is a.b a.wires.now c.requires.0 a.x.now
