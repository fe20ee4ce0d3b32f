-- `clocking::clock_checked` meets its contract: a yes of the checks shows that the cells can be clocked. Assumes nothing.
use mathlib.Core.Path.{◌≡◌}
use mathlib.Core.List.{◌++◌}
use lib.ListN.{length}
use Rattle.std.proofs.Common.{rules}
use Rattle.std.specs.Prelude.{Ok}
use Rattle.moments.proofs.ClockLaws.{bytes_clockable}
use Rattle.moments.specs.Checks.{bytes_answer}
use Rattle.moments.proofs.clocking.clock_checked.Goals as goal

pub clock-requires : goal.clock-requires
unfolding bytes_answer
clock-requires c =
    let a = c.args in
    let passed : bytes_answer (a.state.now ++ a.before.now ++ a.after.now) ≡ (Ok tt) = search rules in
    (bytes_clockable a.s a.table.now a.settings.now a.state.now a.before.now a.after.now (length a.next.now) c.requires.0 c.requires.1 passed, c.requires.1.next_long)
