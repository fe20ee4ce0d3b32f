-- `clock::next_cell` meets its contract: the cell's next state, of what the wires of its tile's ports have. Assumes nothing.
use Prim.Native.Nat.{◌/◌}
use Rattle.std.proofs.Common.{rules}
use Rattle.stepper.specs.Clocking.{value_at, next_cell}
use Rattle.stepper.proofs.clock.next_cell.Goals as goal

pub returns : goal.returns
unfolding next_cell
returns c =
    let a = c.args in
    c.next_state.ensures (value_at a.b a.before.now (a.c / 8)) (value_at a.b a.after.now (a.c / 8)) (λ q r l p. search rules) (λ q r l p. search rules)
