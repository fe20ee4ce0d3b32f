-- `try_decode` meets its contract. Invariant: what is gathered is right, and the set bits of the first i rows are taken. Assumes nothing.
use Prim.Native.Nat.{ℕ, ◌<◌}
use Rattle.tile.specs.Taking.{Gathered, TakenRow}
use Rattle.tile.proofs.reading.try_decode.Given as goal

abbrev pub invariant-loop-i : goal.invariant-loop-i
invariant-loop-i l =
    Gathered l.table l.bits l.settings × ((j : ℕ) → j < l.i → TakenRow l.table l.bits l.settings j)
