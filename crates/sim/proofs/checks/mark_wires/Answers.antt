-- `checks::mark_wires` meets its contract. Invariant: the first p marks are the ports' (`Filled`). Assumes nothing.
use native.Mathlib.Omega.{arith}
use lib.ListN.{get_or}
use lib.Dec.{eqb}
use Prim.Native.Nat.{ℕ}
use mathlib.Core.Bool.{cond}
use mathlib.Core.Path.{◌∙◌, ap}
use Rattle.lists.proofs.TableLaws.{filled_end}
use Rattle.lists.specs.Tables.{tabulate}
use Rattle.fabric.proofs.WireLaws.{wires_length}
use Rattle.stepper.proofs.SettledLaws.{wire_marks_is}
use Rattle.sim.proofs.checks.mark_wires.Goals as goal

pub bounds-wires-p : goal.bounds-wires-p
bounds-wires-p c =
    let a = c.args in
    omega (arith, wires_length a.b a.wires.now c.requires.0)

pub returns : goal.returns
returns c =
    let a = c.args in
    filled_end _ 0 _ _ _ c.loop-p.invariant (omega arith)
    ∙ ap (λ (m : ℕ). tabulate (λ p. cond (eqb (get_or a.wires.now p 0) p) 1 0) 0 m) c.requires.1
    ∙ wire_marks_is a.b a.wires.now c.requires.0
