-- `cells::next_cell` meets its contract: the cell's next state, of what stands at its tile's own ports. Assumes nothing.
use Prim.Native.Nat.{◌/◌}
use Rattle.std.proofs.Common.{rules}
use Rattle.moments.specs.Clocking.{handed, next_cell}
use Rattle.moments.proofs.cells.next_cell.Goals as goal

pub returns : goal.returns
unfolding next_cell
returns c =
    let a = c.args in
    c.next_state.ensures (handed a.before.now (a.c / 8)) (handed a.after.now (a.c / 8)) (λ q r l p. search rules) (λ q r l p. search rules)
