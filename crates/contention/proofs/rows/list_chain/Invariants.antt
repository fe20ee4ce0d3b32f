-- `rows::list_chain` meets its contract. Invariant: the rows of the switches met stand in the list (`Filed`), for every block that the chains are of.
-- Measure: the room left. Assumes nothing.
use Rattle.contention.proofs.Walking.{Filed}
use Rattle.contention.specs.Chains.{Chained}
use Rattle.ports.specs.declared.size.Block.{Block}
use Rattle.ports.specs.Lengths.{ports}
use lib.ListN.{length}
use Prim.Native.Nat.{◌-◌, ◌<◌}
use Rattle.contention.proofs.rows.list_chain.Given as goal

abbrev pub invariant-loop-link : goal.invariant-loop-link
invariant-loop-link l =
    (B : Block) → Chained B l.table l.st 0 l.heads l.nexts → l.w < ports B → Filed B l.table l.st l.w l.from l.initial.list l.at l.link l.list

abbrev pub decreases-loop-link : goal.decreases-loop-link
decreases-loop-link l = length l.initial.list - l.at
