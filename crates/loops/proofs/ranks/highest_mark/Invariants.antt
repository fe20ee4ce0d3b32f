-- `ranks::highest_mark` meets its contract. Invariant: no operand below j has a higher mark. Assumes nothing.
use Rattle.netlist.specs.Rows.{operand_of}
use lib.ListN.{get_or}
use Prim.Native.Nat.{ℕ, ◌≤◌, ◌<◌}
use Rattle.loops.proofs.ranks.highest_mark.Given as goal

abbrev pub invariant-loop-j : goal.invariant-loop-j
invariant-loop-j l = (k : ℕ) → k < l.j → get_or l.marks (operand_of l.row k) 0 ≤ l.high
