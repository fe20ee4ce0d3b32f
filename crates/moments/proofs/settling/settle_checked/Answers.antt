-- `settling::settle_checked` meets its contract: a yes of the checks shows that the list can be run. Assumes nothing.
use mathlib.Core.Path.{◌≡◌}
use native.Mathlib.Omega.{arith}
use Rattle.std.proofs.Common.{rules}
use Rattle.std.specs.Prelude.{Ok}
use Rattle.moments.proofs.SettleLaws.{run_shows}
use Rattle.moments.specs.Checks.{bytes_answer}
use Rattle.moments.specs.Settling.{run_answer}
use Rattle.moments.proofs.settling.settle_checked.Goals as goal

pub settle_ports-requires : goal.settle_ports-requires
unfolding run_answer bytes_answer
settle_ports-requires c =
    let a = c.args in
    let long = c.requires.1 in
    let passed : run_answer a.b a.list.now a.state.now a.lent.now ≡ (Ok tt) = search rules in (
      c.requires.0,
      c.check_rows.ensures.wires,
      c.check_rows.ensures.own,
      run_shows a.b a.list.now a.state.now a.lent.now passed long.list_long long.state_long long.lent_long,
      omega (arith, long.room_long.values_long),
    )
