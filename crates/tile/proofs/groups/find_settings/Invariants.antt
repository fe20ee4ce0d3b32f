-- `groups::find_settings` meets its contract. Invariant: the first g patterns are looked up (`Found`). Measure: the groups left. Assumes nothing.
use Prim.Native.Nat.{◌-◌, ◌≤◌}
use Rattle.tile.specs.Taking.{Found}
use Rattle.tile.proofs.groups.find_settings.Given as goal

abbrev pub invariant-loop-g : goal.invariant-loop-g
invariant-loop-g l = (l.g ≤ l.n) × Found l.table l.g l.initial.settings l.settings

abbrev pub decreases-loop-g : goal.decreases-loop-g
decreases-loop-g l = l.n - l.g
