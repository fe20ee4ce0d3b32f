-- `listing::put_switches` meets its contract. Invariant: the lines of the first w wires stand there, and the length is the old one. Assumes nothing.
use Rattle.lines.proofs.LineLaws.{switch_long}
use Rattle.texts.proofs.PutsLaws.{puts_none, puts_turn, joined_long}
use Rattle.lines.specs.Listing.{switch_part}
use Rattle.lists.specs.Parts.{joined}
use native.Mathlib.Omega.{arith}
use mathlib.Core.Path.{refl, ◌∙◌}
use Rattle.lines.proofs.listing.put_switches.Goals as goal

pub loop-w-init : goal.loop-w-init
unfolding joined
loop-w-init c = (omega arith, refl, puts_none _ _ _ refl)

pub put_switch-next-requires : goal.put_switch-next-requires
put_switch-next-requires c =
    let long = joined_long (switch_part c.args.sources.now) 11 c.loop-w.w (switch_long c.args.sources.now) in
    let next = c.loop-w.invariant.2.0 in
    (omega arith, omega arith, omega arith)

pub loop-w-preserved : goal.loop-w-preserved
loop-w-preserved c =
    let long = joined_long (switch_part c.args.sources.now) 11 c.loop-w.w (switch_long c.args.sources.now) in
    let more = switch_long c.args.sources.now c.loop-w.w in
    let next = c.loop-w.invariant.2.0 in
    (omega arith, c.put_switch-next.auto.out ∙ c.loop-w.invariant.1, puts_turn (switch_part c.args.sources.now) _ _ _ _ _ _ _ c.loop-w.invariant.2 (c.put_switch-next.ensures.next, c.put_switch-next.ensures.out) (omega arith))
