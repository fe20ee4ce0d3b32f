-- `step` meets its contract: grounds 1 and 2 leave everything, every later answer clears the work room. Assumes nothing.
use Prim.Native.Nat.{ℕ}
use mathlib.Core.List.{List}
use mathlib.Core.Bool.{true}
use lib.ListN.{length}
use mathlib.Core.Path.{◌≡◌, refl, sym, ◌∙◌}
use Rattle.lists.specs.Tables.{zeros}
use Rattle.refusal.specs.Grounds.{answer_number}
use Rattle.refusal.specs.Memory.{work_room}
use Rattle.ports.specs.Block.{sized}
use Rattle.sim.proofs.StepLaws.{step_size, step_length, step_inputs, room_cleared}
use Rattle.sim.specs.Lengths.{step_room_lent}
use Rattle.sim.proofs.MeaningLaws.{step_says}
use Rattle.sim.proofs.step.Goals as goal

pub returns-then-not-is_sized : goal.returns-then-not-is_sized
returns-then-not-is_sized c =
    let a = c.args in
    let answer = step_size a.b _ _ _ _ _ _ _ (sym c.is_sized.ensures ∙ c.if-not-is_sized.true) in
    record { answer = answer; values = refl; next = refl; wires = refl; own = refl; marks = refl; first = refl; second = refl; says = step_says a.b a.table.now a.settings.now a.list.now a.state.now a.before.now a.after.now (step_room_lent a.values.now a.next.now a.wires.now a.own.now a.marks.now a.first.now a.second.now) _ answer }

pub returns-then-not-is_step_exact : goal.returns-then-not-is_step_exact
returns-then-not-is_step_exact c =
    let a = c.args in
    let is : sized a.b ≡ true = sym c.is_sized.ensures ∙ c.if-not-is_sized.false in
    let answer = step_length a.b _ _ _ _ _ _ _ is (sym c.is_step_exact.ensures ∙ c.if-not-is_step_exact.true) in
    record { answer = answer; values = refl; next = refl; wires = refl; own = refl; marks = refl; first = refl; second = refl; says = step_says a.b a.table.now a.settings.now a.list.now a.state.now a.before.now a.after.now (step_room_lent a.values.now a.next.now a.wires.now a.own.now a.marks.now a.first.now a.second.now) _ answer }

pub returns : goal.returns
returns c =
    let a = c.args in
    let is : sized a.b ≡ true = sym c.is_sized.ensures ∙ c.if-not-is_sized.false in
    let done = c.step_checked-r.ensures in
    let long = sym c.is_step_exact.ensures ∙ c.if-not-is_step_exact.false in
    let kept = c.step_checked-r.auto in
    let r = c.step_checked-r.result in
    let cleared : (old : List ℕ) (n : ℕ) → n ≡ length old → zeros n ≡ work_room (answer_number r) old =
    λ old n l. room_cleared a.b a.table.now a.settings.now a.list.now a.state.now a.before.now a.after.now old r n done.answer l in
    let answer = done.answer ∙ step_inputs a.b _ _ _ _ _ _ _ is long in
    record { answer = answer; values = done.values; next = done.next; wires = c.fill.ensures.after (λ y e. e) ∙ cleared a.wires.now _ kept.wires; own = c.fill-2.ensures.after (λ y e. e) ∙ cleared a.own.now _ kept.own; marks = c.fill-3.ensures.after (λ y e. e) ∙ cleared a.marks.now _ kept.marks; first = c.fill-4.ensures.after (λ y e. e) ∙ cleared a.first.now _ kept.first; second = c.fill-5.ensures.after (λ y e. e) ∙ cleared a.second.now _ kept.second; says = step_says a.b a.table.now a.settings.now a.list.now a.state.now a.before.now a.after.now (step_room_lent a.values.now a.next.now a.wires.now a.own.now a.marks.now a.first.now a.second.now) _ answer }
