-- `ranking::rank_held` meets its contract. Invariant: no more are without a mark than before. Assumes nothing.
use Rattle.netlist.specs.Marks.{unmarked}
use Prim.Native.Nat.{◌≤◌}
use Rattle.loops.proofs.ranking.rank_held.Given as goal

abbrev pub invariant-loop-i : goal.invariant-loop-i
invariant-loop-i l = unmarked l.marks ≤ unmarked l.initial.marks
