-- `take_row` meets its contract. Invariant: the settings have gathered all that they had, and the set digits that are no longer left are taken
-- (`Passed`). Measure: what is left. Assumes nothing.
use Prim.Native.Nat.{ℕ, ◌+◌, ◌*◌}
use lib.ListN.{get_or}
use Rattle.codec.specs.Bits.{unit}
use Rattle.tile.specs.Taking.{Learned, Taken}
use Rattle.tile.proofs.Passing.{Passed}
use Rattle.tile.proofs.reading.take_row.Given as goal

abbrev pub invariant-loop-left : goal.invariant-loop-left
invariant-loop-left l =
    Learned l.table l.bits l.initial.settings l.settings × Passed (λ (k : ℕ). Taken l.table l.settings (unit * l.i + k)) (get_or l.bits l.i 0) l.left

abbrev pub decreases-loop-left : goal.decreases-loop-left
decreases-loop-left l = l.left
