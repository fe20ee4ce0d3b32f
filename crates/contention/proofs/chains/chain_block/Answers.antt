-- `chains::chain_block` meets its contract. Invariant: the tiles from `tile` on are in chains, with their rows.. Assumes nothing.
use Rattle.contention.proofs.Tallying.{tallied_cleared, rows_all}
use Rattle.contention.specs.Chains.{Chained}
use Rattle.ports.specs.Lengths.{max_groups}
use native.Mathlib.Omega.{arith}
use Prim.Native.Nat.{ℕ, ◌*◌}
use mathlib.Core.Path.{◌≡◌, subst}
use Rattle.contention.proofs.chains.chain_block.Goals as goal

pub loop-tile-init : goal.loop-tile-init
loop-tile-init c =
    let a = c.args in
    tallied_cleared a.b a.table.now a.st.now _ _ _ (c.fill.ensures.after (λ y e. e)) c.requires.2 c.requires.3

pub returns : goal.returns
returns c =
    let a = c.args in
    let e : max_groups * c.loop-tile.tile ≡ 0 = omega arith in
    record { chains = subst (λ (x : ℕ). Chained a.b a.table.now a.st.now x c.loop-tile.heads c.loop-tile.nexts) e c.loop-tile.invariant.chained; rows = rows_all a.b a.table.now a.st.now _ _ _ _ c.loop-tile.invariant e }
