-- `sources::take_tile` meets its contract. Invariant: the pass has taken the switches before group g (`Sourced`). Assumes nothing.
use Rattle.drivers.proofs.SwitchTurns.{sourced_tile}
use native.Mathlib.Omega.{arith}
use Rattle.drivers.proofs.sources.take_tile.Goals as goal

pub returns : goal.returns
returns c =
    let a = c.args in
    let B = a.b in
    let t = a.table.now in
    let st = a.st.now in
    let T = a.tile in
    let ok = c.requires.routed.0 in
    let n = c.group_count-groups.ensures in
    let few = ok.few_groups in
    sourced_tile B t st T c.loop-g.g c.loop-g.lowest _ (omega arith) (omega arith) c.loop-g.invariant
