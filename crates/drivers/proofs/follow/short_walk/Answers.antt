-- `follow::short_walk` meets its contract. Invariant: the walk gets to u. Assumes nothing.
use Rattle.drivers.proofs.WalkLaws.{gets_on}
use Rattle.drivers.proofs.Tracing.{end_traced}
use lib.ListN.{get_or}
use native.Mathlib.Omega.{arith}
use mathlib.Core.Logic.{inr}
use mathlib.Core.Path.{◌≡◌}
use Prim.Native.Nat.{suc}
use Rattle.drivers.proofs.follow.short_walk.Goals as goal

pub returns-in_default-clause-end : goal.returns-in_default-clause-end
returns-in_default-clause-end c = end_traced c.args.sources.now c.args.start c.requires.1 c.requires.0 c.loop.u c.loop.invariant.1

pub loop-preserved : goal.loop-preserved
loop-preserved c =
    let s = c.args.sources.now in
    let l = c.requires.1 c.loop.u in
    let d : get_or s c.loop.u 0 ≡ suc c.from-u.result = omega (arith, c.in-Some.ensures) in
    (omega arith, inr (gets_on s c.loop.invariant.1 d))

pub returns : goal.returns
returns c =
    let i = c.loop.invariant in
    record { within = i.0; end = end_traced c.args.sources.now c.args.start c.requires.1 c.requires.0 c.loop.u i.1 }
