-- `groups::after_off` meets its contract. Invariant: the groups from g on and before `at` are off. Measure: the groups left. Assumes nothing.
use Prim.Native.Nat.{◌-◌, ◌<◌, ◌≤◌}
use Rattle.tile.proofs.WritingLaws.{Off}
use Rattle.tile.proofs.groups.after_off.Given as goal

abbrev pub invariant-loop-at : goal.invariant-loop-at
invariant-loop-at l = (l.g < l.at) × (l.at ≤ l.n) × Off l.settings l.g l.at

abbrev pub decreases-loop-at : goal.decreases-loop-at
decreases-loop-at l = l.n - l.at
