-- `settings::put_row` meets its contract: a row's five numbers are copied to their place. Assumes nothing.
use Prim.Native.Nat.{ℕ}
use mathlib.Core.Path.{◌≡◌, ap}
use native.Mathlib.Omega.{arith}
use lib.ListN.{length, length-take, length-drop}
use Rattle.lists.proofs.StdLaws.{copied_at-is}
use Rattle.compare.proofs.settings.put_row.Goals as goal

pub returns : goal.returns
returns c =
    let copied = c.copy_from_slice.ensures.after in
    let long : length c.args.row ≡ 5 =
    omega (arith, ap length copied, c.copy_from_slice.ensures.len, length-take {A = ℕ}, length-drop {A = ℕ}) in
    copied_at-is c.args.list.now c.args.row _ c.args.at _ copied (omega arith) (omega arith)
