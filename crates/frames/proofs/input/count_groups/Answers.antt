-- `input::count_groups` meets its contract. Invariant: `Counting`. Assumes nothing.
use Rattle.frames.proofs.InputLaws.{counting_start, counting_skip, counting_stop, counting_end}
use native.Mathlib.Omega.{arith}
use mathlib.Core.Path.{sym, ◌∙◌}
use Rattle.frames.proofs.input.count_groups.Goals as goal

pub loop-count-init : goal.loop-count-init
loop-count-init c = rw c.passive_count.ensures (counting_start c.args.s.now)

pub loop-count-preserved : goal.loop-count-preserved
loop-count-preserved c =
    rw c.group_digits.ensures (counting_skip _ _ _ c.loop-count.invariant c.loop-count-test.true (sym c.group_line.ensures ∙ c.if-not-group_line.false))

pub returns : goal.returns
returns c = let all = counting_end _ _ _ c.loop-count.invariant c.loop-count-test.false in
    record { count = omega (arith, all.count, c.loop-count-test.false); end = all.end }

pub returns-then-not-group_line : goal.returns-then-not-group_line
returns-then-not-group_line c =
    let all = counting_stop _ _ _ c.loop-count.invariant c.loop-count-test.true (sym c.group_line.ensures ∙ c.if-not-group_line.true) in
    record { count = all.count; end = all.end }
