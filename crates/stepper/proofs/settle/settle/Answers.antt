-- `settle::settle` meets its contract: a list that passed ground 12 can be run from zeros, as many rows as there are wires. Assumes nothing.
use lib.ListN.{length}
use Prim.Native.Nat.{ℕ}
use mathlib.Core.Path.{sym, ◌∙◌, ap, subst}
use native.Mathlib.Omega.{arith}
use Rattle.lists.proofs.TableLaws.{zeros_length}
use Rattle.lists.specs.Tables.{zeros}
use Rattle.netlist.specs.Running.{RowFits}
use Rattle.stepper.proofs.SettledLaws.{runnable_fits}
use Rattle.stepper.specs.Settling.{settled_by}
use Rattle.stepper.proofs.settle.settle.Goals as goal

pub run-requires-clause-by_index : goal.run-requires-clause-by_index
run-requires-clause-by_index c =
    let a = c.args in
    let e = c.requires.1 in
    let z = (c.fill.ensures.after (λ y e. e) ∙ ap zeros c.requires.2) in
    let h = c.requires.0 in
    λ i l. subst (λ (m : ℕ). RowFits a.list.now (length a.state.now) (length a.lent.now) m i) (sym (ap length z ∙ zeros_length _)) (runnable_fits a.b _ _ _ h i (omega arith))

pub returns : goal.returns
unfolding settled_by
returns c =
    c.run.ensures
    ∙ rw (c.requires.1, (c.fill.ensures.after (λ y e. e) ∙ ap zeros c.requires.2))
