-- `settle` meets its contract: grounds 1 and 2 leave everything, every later answer clears the work room. Assumes nothing.
use Rattle.moments.proofs.SettleMeaning.{settle_says}
use Rattle.moments.specs.Lengths.{settle_room_lent}
use Rattle.moments.proofs.SettleLaws.{settle_size, settle_length, settle_inputs, settle_cleared}
use Rattle.ports.specs.Block.{sized}
use Rattle.refusal.specs.Memory.{work_room}
use Rattle.refusal.specs.Grounds.{answer_number}
use Rattle.lists.specs.Tables.{zeros}
use mathlib.Core.Path.{◌≡◌, refl, sym, ◌∙◌}
use lib.ListN.{length}
use mathlib.Core.Bool.{true}
use mathlib.Core.List.{List}
use Prim.Native.Nat.{ℕ}
use Rattle.moments.proofs.settle.Goals as goal

pub returns-then-not-is_sized : goal.returns-then-not-is_sized
returns-then-not-is_sized c =
    let a = c.args in
    let answer = settle_size a.b a.table.now a.settings.now a.list.now a.state.now a.lent.now _ (sym c.is_sized.ensures ∙ c.if-not-is_sized.true) in
    record { answer = answer; values = refl; wires = refl; own = refl; marks = refl; says = settle_says a.b a.table.now a.settings.now a.list.now a.state.now a.lent.now (settle_room_lent a.values.now a.wires.now a.own.now a.marks.now) _ answer }

pub returns-then-not-is_settle_exact : goal.returns-then-not-is_settle_exact
returns-then-not-is_settle_exact c =
    let a = c.args in
    let is : sized a.b ≡ true = sym c.is_sized.ensures ∙ c.if-not-is_sized.false in
    let answer = settle_length a.b a.table.now a.settings.now a.list.now a.state.now a.lent.now _ is (sym c.is_settle_exact.ensures ∙ c.if-not-is_settle_exact.true) in
    record { answer = answer; values = refl; wires = refl; own = refl; marks = refl; says = settle_says a.b a.table.now a.settings.now a.list.now a.state.now a.lent.now (settle_room_lent a.values.now a.wires.now a.own.now a.marks.now) _ answer }

pub returns : goal.returns
returns c =
    let a = c.args in
    let is : sized a.b ≡ true = sym c.is_sized.ensures ∙ c.if-not-is_sized.false in
    let done = c.settle_checked-r.ensures in
    let kept = c.settle_checked-r.auto in
    let r = c.settle_checked-r.result in
    let cleared : (old : List ℕ) (n : ℕ) → n ≡ length old → zeros n ≡ work_room (answer_number r) old =
    λ old n l. settle_cleared a.b a.table.now a.settings.now a.list.now a.state.now a.lent.now old r n done.answer l in
    let answer = done.answer ∙ settle_inputs a.b a.table.now a.settings.now a.list.now a.state.now a.lent.now _ is (sym c.is_settle_exact.ensures ∙ c.if-not-is_settle_exact.false) in
    record { answer = answer; values = done.values; wires = c.fill.ensures.after (λ y e. e) ∙ cleared a.wires.now _ kept.wires; own = c.fill-2.ensures.after (λ y e. e) ∙ cleared a.own.now _ kept.own; marks = c.fill-3.ensures.after (λ y e. e) ∙ cleared a.marks.now _ kept.marks; says = settle_says a.b a.table.now a.settings.now a.list.now a.state.now a.lent.now (settle_room_lent a.values.now a.wires.now a.own.now a.marks.now) _ answer }
