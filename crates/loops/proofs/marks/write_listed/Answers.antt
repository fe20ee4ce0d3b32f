-- `marks::write_listed` meets its contract. Invariant: the first w marks are written without who waits (`Copied`). Assumes nothing.
use Rattle.lists.proofs.Copying.{copied_start, copied_step, copied_end}
use Rattle.netlist.proofs.MarkLaws.{only_listed_length, only_listed_at}
use Rattle.netlist.specs.Marks.{only_listed}
use Rattle.lists.proofs.StdLaws.{from_bool-is}
use lib.Dec.{eqb}
use lib.ListN.{length, get_or}
use mathlib.Core.Path.{sym, ◌∙◌}
use native.Mathlib.Omega.{arith}
use Prim.Native.Nat.{◌<◌}
use Rattle.loops.proofs.marks.write_listed.Goals as goal

pub loop-w-init : goal.loop-w-init
loop-w-init c = copied_start (only_listed c.args.marks.now) _ (c.requires ∙ sym (only_listed_length c.args.marks.now))

pub loop-w-preserved : goal.loop-w-preserved
loop-w-preserved c =
    let marks = c.args.marks.now in
    let w = c.loop-w.w in
    let inside : w < length (only_listed marks) = omega (arith, only_listed_length marks, c.loop-w-test.true) in
    copied_step (only_listed marks) _ _ _ c.loop-w.invariant inside (c.from.ensures ∙ from_bool-is (eqb (get_or marks w 0) 1) ∙ sym (only_listed_at marks w))

pub returns : goal.returns
returns c =
    let marks = c.args.marks.now in
    copied_end (only_listed marks) _ _ c.loop-w.invariant (let e = only_listed_length marks in let l = c.loop-w-test.false in omega arith)
