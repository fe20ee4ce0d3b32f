-- `clock` meets its contract: grounds 1 and 2 leave everything, and the rest is `clock_checked`. Assumes nothing.
use Rattle.moments.proofs.ClockMeaning.{clock_says}
use Rattle.moments.proofs.ClockLaws.{clock_size, clock_length, clock_inputs}
use Rattle.ports.specs.Block.{allowed}
use mathlib.Core.Path.{◌≡◌, refl, sym, ◌∙◌}
use lib.ListN.{length}
use mathlib.Core.Bool.{true}
use Rattle.moments.proofs.clock.Goals as goal

pub returns-then-not-is_allowed : goal.returns-then-not-is_allowed
returns-then-not-is_allowed c =
    let a = c.args in
    let answer = clock_size a.s a.table.now a.settings.now a.state.now a.before.now a.after.now _ (sym c.is_allowed.ensures ∙ c.if-not-is_allowed.true) in
    record { answer = answer; next = refl; says = clock_says a.s a.table.now a.settings.now a.state.now a.before.now a.after.now (length a.next.now) _ answer }

pub returns-then-not-is_clock_exact : goal.returns-then-not-is_clock_exact
returns-then-not-is_clock_exact c =
    let a = c.args in
    let is : allowed a.s ≡ true = sym c.is_allowed.ensures ∙ c.if-not-is_allowed.false in
    let answer = clock_length a.s a.table.now a.settings.now a.state.now a.before.now a.after.now _ is (sym c.is_clock_exact.ensures ∙ c.if-not-is_clock_exact.true) in
    record { answer = answer; next = refl; says = clock_says a.s a.table.now a.settings.now a.state.now a.before.now a.after.now (length a.next.now) _ answer }

pub returns : goal.returns
returns c =
    let a = c.args in
    let is : allowed a.s ≡ true = sym c.is_allowed.ensures ∙ c.if-not-is_allowed.false in
    let answer = c.clock_checked.ensures.answer ∙ clock_inputs a.s a.table.now a.settings.now a.state.now a.before.now a.after.now _ is (sym c.is_clock_exact.ensures ∙ c.if-not-is_clock_exact.false) in
    record { answer = answer; next = c.clock_checked.ensures.next; says = clock_says a.s a.table.now a.settings.now a.state.now a.before.now a.after.now (length a.next.now) _ answer }
