-- `claims::claim` answers whether every position of the run is free, and then has claimed them. Invariant: the map has the slots before
-- slot + k, and the positions from k on decide. Assumes nothing.
use Rattle.routing.proofs.PositionLaws.{position_out, position_taken, position_free, position_claimed}
use Rattle.routing.specs.Claiming.{TableOwned}
use Rattle.routing.specs.LogicTile.{logic_tile}
use Rattle.lists.proofs.SearchLaws.{all_turn_hit, all_turn_skip, all_turn_end}
use Rattle.lists.proofs.CaseLaws.{clash}
use native.Mathlib.Omega.{arith}
use mathlib.Core.Path.{refl, sym, ◌∙◌, subst}
use Prim.Native.Nat.{ℕ, ◌+◌}
use Rattle.routing.proofs.claims.claim.Goals as goal
use Rattle.routing.proofs.claims.claim.Goals.{then-p-ge-POSITIONS-via-then-p-ge-POSITIONS, then-p-ge-POSITIONS-via-else-p-ge-POSITIONS+then-own-p-gt0}

-- the position is not in the tile, or it is claimed already
pub returns-then-p-ge-POSITIONS : goal.returns-then-p-ge-POSITIONS
returns-then-p-ge-POSITIONS c =
    let table = c.args.table.now in
    let slot = c.args.slot in
    let own = c.loop-k.own in
    let k = c.loop-k.k in
    let at = c.requires.0.run_at k (omega arith) ∙ sym c.from-p.ensures in
    record {
      answer = all_turn_hit _ _ _ _ c.loop-k.invariant.1 (omega arith) (elim c.then-p-ge-POSITIONS.branch [
        | then-p-ge-POSITIONS-via-then-p-ge-POSITIONS w ↦ position_out logic_tile table slot k _ at w.if-p-ge-POSITIONS.true
        | then-p-ge-POSITIONS-via-else-p-ge-POSITIONS+then-own-p-gt0 w ↦ position_taken logic_tile table slot k _ at own c.loop-k.invariant.0 (omega arith) (λ z. omega arith)
      ]);
      map = λ z. clash z refl;
    }

pub loop-k-preserved : goal.loop-k-preserved
loop-k-preserved c =
    let table = c.args.table.now in
    let slot = c.args.slot in
    let own = c.loop-k.own in
    let k = c.loop-k.k in
    let at = c.requires.0.run_at k (omega arith) ∙ sym c.from-p.ensures in
    let used = c.requires.0.run_used k (omega arith) in (
      position_claimed logic_tile table slot k _ at own c.loop-k.invariant.0 (omega arith) used (omega arith),
      all_turn_skip _ _ _ _ c.loop-k.invariant.1 (omega arith)
          (position_free logic_tile table slot k _ at own c.loop-k.invariant.0 (omega arith) (omega arith)),
    )

-- every position is claimed now
pub returns : goal.returns
returns c =
    let table = c.args.table.now in
    let slot = c.args.slot in
    record { answer = all_turn_end _ _ _ _ c.loop-k.invariant.1 (omega arith); map = λ z. subst (λ (x : ℕ). TableOwned logic_tile table (slot + x) c.loop-k.own) (omega arith) c.loop-k.invariant.0 }
