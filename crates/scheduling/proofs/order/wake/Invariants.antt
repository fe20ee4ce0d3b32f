-- `order::wake` meets its contract. Invariant: the chain is woken up to k (`Waking`). Measure: the numbers that are not woken. Assumes nothing.
use Rattle.scheduling.proofs.Waking.{Waking}
use Rattle.bitset.specs.Bitset.{has, numbers}
use Rattle.lists.specs.Search.{count_below}
use mathlib.Core.Bool.{not}
use Prim.Native.Nat.{ℕ}
use Rattle.scheduling.proofs.order.wake.Given as goal

abbrev pub invariant-loop-k : goal.invariant-loop-k
invariant-loop-k l = Waking l.links l.mark l.initial.woken l.woken l.k

abbrev pub decreases-loop-k : goal.decreases-loop-k
decreases-loop-k l = count_below (λ (m : ℕ). not (has l.woken m)) numbers
