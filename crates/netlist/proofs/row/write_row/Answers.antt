-- `row::write_row` meets its contract: the seven numbers are put in one after another. Assumes nothing.
use native.Mathlib.Omega.{arith}
use Prim.Native.Nat.{◌*◌}
use Rattle.lists.proofs.StdLaws.{copied_at-is}
use Rattle.netlist.specs.Rows.{row_length, set_row, numbers_of}
use Rattle.netlist.proofs.row.write_row.Goals as goal

pub returns : goal.returns
unfolding set_row
returns c =
    copied_at-is c.args.list.now (numbers_of c.args.row) c.copy_from_slice.new.self (row_length * c.args.i) _ c.copy_from_slice.ensures.after (omega arith)
    (omega arith)
