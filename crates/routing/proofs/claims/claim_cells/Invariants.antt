-- `claims::claim_cells` leaves the map of the cells' slots. Invariant: the map has the first s slots. Assumes nothing.
use Rattle.routing.specs.Claiming.{TableOwned}
use Rattle.routing.specs.LogicTile.{logic_tile}
use lib.ListN.{length}
use mathlib.Core.List.{List}
use mathlib.Core.Path.{◌≡◌}
use Prim.Native.Nat.{ℕ}
use Rattle.routing.proofs.claims.claim_cells.Given as goal

abbrev pub invariant-loop-s : goal.invariant-loop-s
invariant-loop-s l = (length l.own ≡ logic_tile.positions) × ((table : List ℕ) → TableOwned logic_tile table l.s l.own)
