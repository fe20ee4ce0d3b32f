-- `ranking::leave` meets its contract: the last wire of the path is held (`descending_hold`), or ranked with those held since (`descending_rank`).
-- Assumes nothing.
use Rattle.loops.proofs.Descending.{descending_hold, descending_rank}
use lib.ListN.{length}
use native.Mathlib.Omega.{arith}
use Prim.Native.Nat.{◌+◌, ◌<◌, ◌-◌}
use Rattle.loops.proofs.ranking.leave.Goals.{After-from-v}
use Rattle.loops.proofs.ranking.leave.Goals as goal

last-lt : (c : After-from-v) → c.from-v.result < length c.args.marks.now
last-lt c =
    let b = c.requires.descending.0.path_lt (c.args.at.depth - 1) (let p = c.requires.descending.1 in omega arith) in omega (arith, c.from-v.ensures)

pub returns-then-own-high : goal.returns-then-own-high
returns-then-own-high c = let all_clauses = descending_hold _ _ _ c.requires.descending.0 c.from-v.result c.highest_mark-high.result (last-lt (goal.at.returns-then-own-high c).After-from-v) c.requires.descending.1
    (omega arith) in record { kept = all_clauses.0; less = all_clauses.1 }

pub returns : goal.returns
returns c = let all_clauses = descending_rank _ _ _ c.requires.descending.0 c.from-v.result (c.args.at.ranks + 1) (last-lt (goal.at.returns c).After-from-v) c.requires.descending.1
    (omega arith) c.rank_held-left.new.marks c.rank_held-left.result (omega arith)
    c.rank_held-left.ensures in record { kept = all_clauses.0; less = all_clauses.1 }
