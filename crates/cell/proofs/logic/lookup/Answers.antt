-- `lookup` meets its contract: inputs above 15, then the bit at the inputs' digits. Assumes nothing.
use Rattle.cell.specs.Lookup.{looked_up}
use Rattle.cell.proofs.LookupLaws.{looked_up_inputs}
use borrow.Author.Tests.{le-ltb}
use native.Mathlib.Omega.{arith}
use Rattle.cell.proofs.logic.lookup.Goals as goal

pub returns-then-inputs-gt15 : goal.returns-then-inputs-gt15
unfolding looked_up
returns-then-inputs-gt15 c = rw (le-ltb _ _ c.if-inputs-gt15.true)

pub returns : goal.returns
returns c =
    looked_up_inputs c.args.table c.args.inputs _ _ _ _ (omega arith)
    c.input-in0.ensures c.input-in1.ensures c.input-in2.ensures c.input-in3.ensures
    c.lookup_bit.ensures
