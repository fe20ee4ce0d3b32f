-- `chains::chain_tile` meets its contract. Invariant: the groups from g on are in chains, with their rows.. Assumes nothing.
use Rattle.contention.proofs.Tallying.{tallied_tile}
use Rattle.contention.proofs.chains.chain_tile.Goals as goal

pub loop-g-init : goal.loop-g-init
loop-g-init c =
    let a = c.args in
    let e = c.group_count-groups.ensures in
    (e, tallied_tile a.b a.table.now a.st.now a.tile _ _ _ _ c.requires.routed.0.few_groups e c.requires.tallied)
