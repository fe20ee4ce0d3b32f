-- `order::wake` meets its contract. Invariant: the chain is woken up to k (`Waking`). Measure: the numbers that are not woken. Assumes nothing.
use Rattle.scheduling.proofs.Waking.{waking_start, waking_lt, waking_within, waking_step, waking_less, waking_end}
use native.Mathlib.Omega.{arith}
use Rattle.scheduling.proofs.order.wake.Goals as goal

pub loop-k-init : goal.loop-k-init
loop-k-init c = rw c.from-k.ensures (waking_start _ _ _ c.requires)

pub insert-requires : goal.insert-requires
insert-requires c = waking_within _ _ _ _ _ c.loop-k.invariant (omega arith)

pub offset_bounds-links-w : goal.offset_bounds-links-w
offset_bounds-links-w c =
    let l = waking_within _ _ _ _ _ c.loop-k.invariant (omega arith) in
    omega arith

pub bounds-links-w : goal.bounds-links-w
bounds-links-w c =
    (waking_lt _ _ _ _ _ c.loop-k.invariant (omega arith)).0

pub loop-k-smaller : goal.loop-k-smaller
loop-k-smaller c =
    waking_less _ _ _ _ _ c.loop-k.invariant (omega arith) _ c.insert.ensures.here c.insert.ensures.others

pub loop-k-preserved : goal.loop-k-preserved
loop-k-preserved c =
    rw c.from-k-in-loop-k.ensures (waking_step _ _ _ _ _ c.loop-k.invariant (omega arith) _ c.insert.ensures.here c.insert.ensures.others)

pub returns : goal.returns
returns c = waking_end _ _ _ _ _ c.loop-k.invariant c.loop-k-test.false
