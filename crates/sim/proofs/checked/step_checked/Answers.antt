-- `checked::step_checked` meets its contract: a no keeps the outputs, a yes shows that the list can be run. Assumes nothing.
use Rattle.std.specs.Prelude.{Ok}
use mathlib.Core.Path.{◌≡◌, sym, ◌∙◌}
use native.Mathlib.Omega.{arith}
use Rattle.sim.proofs.StepLaws.{inputs_shows, run_shows}
use Rattle.sim.proofs.checked.step_checked.Goals as goal

pub write_step-requires : goal.write_step-requires
write_step-requires c =
    let a = c.args in
    let done : c.check_inputs.result ≡ Ok tt = c.in_ok-check_inputs.was in
    let long = c.requires.inputs_long in
    let room = c.requires.step_room_long in
    let passed = inputs_shows a.b a.table.now a.settings.now a.list.now a.state.now a.before.now a.after.now (sym c.check_inputs.ensures.answer ∙ done) in
    let runs = run_shows a.b a.list.now a.state.now a.before.now a.after.now passed.2 long.list_long long.state_long long.before_long long.after_long in (
      record { size = c.requires.sized; settings_long = long.settings_long; wired = c.check_inputs.ensures.wires done },
      c.check_inputs.ensures.own done,
      runs.0,
      runs.1,
      omega (arith, room.values_long),
      room.next_long,
      room.first_long,
      room.second_long,
    )
