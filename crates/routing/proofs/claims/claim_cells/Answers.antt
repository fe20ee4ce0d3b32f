-- `claims::claim_cells` leaves the map of the cells' slots. Invariant: the map has the first s slots. Assumes nothing.
use Rattle.routing.proofs.ClaimingLaws.{cell_claimed}
use Rattle.routing.proofs.LogicTileLaws.{logic_tile_once}
use Rattle.routing.proofs.OwnerLaws.{owned_start}
use Rattle.routing.specs.Claiming.{TableOwned}
use Rattle.routing.specs.Slots.{slots_of}
use Rattle.routing.specs.LogicTile.{logic_tile}
use Rattle.lists.proofs.TableLaws.{zeros_length}
use lib.ListN.{length, length-set}
use native.Mathlib.Omega.{arith}
use mathlib.Core.Path.{◌∙◌, subst, ap}
use Prim.Native.Nat.{ℕ}
use Rattle.routing.proofs.claims.claim_cells.Goals as goal

pub loop-s-init : goal.loop-s-init
loop-s-init c = (ap length c.requires ∙ zeros_length logic_tile.positions, λ table. owned_start logic_tile.positions (slots_of logic_tile table) _ c.requires)

pub loop-s-preserved : goal.loop-s-preserved
loop-s-preserved c = (
  length-set c.loop-s.own _ _ ∙ c.loop-s.invariant.0,
  λ table. cell_claimed logic_tile table logic_tile_once c.loop-s.s _ c.loop-s.own (c.loop-s.invariant.1 table) (omega arith) c.cell_position-p.ensures,
)

pub returns : goal.returns
returns c = λ table. subst (λ (x : ℕ). TableOwned logic_tile table x c.loop-s.own) (omega arith) (c.loop-s.invariant.1 table)
