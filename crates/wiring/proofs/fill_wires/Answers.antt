-- `fill_wires` meets its contract. Invariant: the rows to the south are filled. Assumes nothing.
use Rattle.wiring.proofs.FillLaws.{rows_all}
use Rattle.fabric.specs.Wire.{wires_of}
use Rattle.lists.proofs.TableLaws.{filled_end}
use native.Mathlib.Omega.{arith}
use Rattle.wiring.proofs.fill_wires.Goals as goal

pub returns : goal.returns
unfolding wires_of
returns c =
    filled_end _ 0 _ _ _ c.loop-y.invariant
    (rows_all c.args.b c.loop-y.y (omega arith))
