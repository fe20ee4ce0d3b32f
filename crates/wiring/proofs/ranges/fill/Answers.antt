-- `ranges::fill` meets its contract: after the last turn all ports of the range have their wires. Assumes nothing.
use mathlib.Core.Path.{◌≡◌}
use Prim.Native.Nat.{◌≤◌}
use native.Mathlib.Omega.{arith}
use lib.ListN.{length, length-take}
use Rattle.ports.specs.Block.{port}
use Rattle.wiring.proofs.FillLaws.{room, fill_end}
use Rattle.wiring.proofs.ranges.fill.Goals as goal

pub returns : goal.returns
returns g c =
    let s = c.split_at_mut-done.ensures in
    let e : length c.split_at_mut-done.result.0.now ≡ port c.args.b c.args.x c.args.y c.args.q = omega (arith, s.front_len, c.port_number.ensures) in
    let l : c.args.count ≤ length c.split_at_mut-done.result.1.now = room _ _ c.requires.range.1 c.requires.range.2 s.value e in
    let n = length-take c.args.count c.split_at_mut-done.result.1.now in
    fill_end _ _ c.requires.range.1 c.requires.range.2 s.value e
    _ (omega (arith, c.loop-k.auto.to-items, n))
    (λ k lk. c.loop-k.invariant k (omega (arith, n)))
