-- `scan::scan` meets its contract. Invariant: the lines before `at` are in order and lead to the scan and the rooms (`Going`). Measure: the bytes left. Assumes nothing.
use Prim.Native.Nat.{◌-◌}
use lib.ListN.{length}
use Rattle.asc.specs.Site.{area_of}
use Rattle.asc.proofs.ScanLaws.{Going}
use Rattle.asc.proofs.scan.scan.Given as goal

abbrev pub invariant-loop-at : goal.invariant-loop-at
invariant-loop-at l = Going (area_of l.site) l.text l.given l.content l.s l.at l.n

abbrev pub decreases-loop-at : goal.decreases-loop-at
decreases-loop-at l = length l.text - l.at
