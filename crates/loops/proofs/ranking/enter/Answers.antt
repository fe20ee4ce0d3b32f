-- `ranking::enter` meets its contract: the wire goes to the end of the path (`descending_enter`). Assumes nothing.
use Rattle.loops.proofs.Descending.{descending_room, descending_enter}
use native.Mathlib.Omega.{arith}
use Rattle.loops.proofs.ranking.enter.Goals as goal

pub bounds-queue-depth : goal.bounds-queue-depth
bounds-queue-depth c =
    let r = c.requires.descending.0.room in omega
    (arith, descending_room _ _ _ c.requires.descending.0 c.args.d 1 c.requires.d_in_bounds.0 c.requires.d_in_bounds.1 (omega arith))

pub returns : goal.returns
returns c = let all_clauses = descending_enter _ _ _ c.requires.descending.0 c.args.d _ c.requires.d_in_bounds.0 c.requires.d_in_bounds.1
    (omega (arith, descending_room _ _ _ c.requires.descending.0 c.args.d 1 c.requires.d_in_bounds.0 c.requires.d_in_bounds.1 (omega arith))) in record { kept = all_clauses.0; less = all_clauses.1 }
