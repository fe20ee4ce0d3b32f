-- `ranks::highest_rank` meets its contract. Invariant: no operand below j that is not listed has a higher rank. Assumes nothing.
use Rattle.netlist.specs.Marks.{Unlisted}
use Rattle.netlist.specs.Rows.{operand_of}
use lib.ListN.{get_or}
use Prim.Native.Nat.{ℕ, ◌≤◌, ◌<◌}
use Rattle.loops.proofs.ranks.highest_rank.Given as goal

abbrev pub invariant-loop-j : goal.invariant-loop-j
invariant-loop-j l = (k : ℕ) → k < l.j → Unlisted l.listed (operand_of l.row k) → get_or l.ranks (operand_of l.row k) 0 ≤ l.high
