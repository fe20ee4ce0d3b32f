-- `build` meets its contract: size and lengths are exact, then the list is built and the work room cleared. Assumes nothing.
use Rattle.block.proofs.BuildingLaws.{build_size, build_length, build_bits, build_cleared}
use Rattle.block.proofs.MeaningLaws.{build_says}
use Rattle.block.specs.Lengths.{room_lent}
use mathlib.Core.Path.{refl, sym, ◌∙◌}
use Rattle.block.proofs.build.Goals as goal

-- a size that no block has
pub returns-then-not-is_sized : goal.returns-then-not-is_sized
returns-then-not-is_sized c =
    let B = c.args.b in
    let table = c.args.table.now in
    let bits = c.args.bits.now in
    let list = c.args.list.now in
    let settings = c.args.settings.now in
    let wires = c.args.wires.now in
    let sources = c.args.sources.now in
    let rows = c.args.rows.now in
    let marks = c.args.marks.now in
    let queue = c.args.queue.now in
    let answer = build_size B table bits _ (sym c.is_sized.ensures ∙ c.if-not-is_sized.true) in
    record { answer = answer; list = refl; settings = refl; wires = refl; sources = refl; rows = refl; marks = refl; queue = refl; says = build_says B table bits settings (room_lent list wires sources rows marks queue) _ answer }

-- a length that is not the exact one
pub returns-then-not-is_build_exact : goal.returns-then-not-is_build_exact
returns-then-not-is_build_exact c =
    let B = c.args.b in
    let table = c.args.table.now in
    let bits = c.args.bits.now in
    let list = c.args.list.now in
    let settings = c.args.settings.now in
    let wires = c.args.wires.now in
    let sources = c.args.sources.now in
    let rows = c.args.rows.now in
    let marks = c.args.marks.now in
    let queue = c.args.queue.now in
    let answer = build_length B table bits _ (sym c.is_sized.ensures ∙ c.if-not-is_sized.false) (sym c.is_build_exact.ensures ∙ c.if-not-is_build_exact.true) in
    record { answer = answer; list = refl; settings = refl; wires = refl; sources = refl; rows = refl; marks = refl; queue = refl; says = build_says B table bits settings (room_lent list wires sources rows marks queue) _ answer }

-- every other answer
pub returns : goal.returns
returns c =
    let B = c.args.b in
    let table = c.args.table.now in
    let bits = c.args.bits.now in
    let settings = c.args.settings.now in
    let wires = c.args.wires.now in
    let sources = c.args.sources.now in
    let rows = c.args.rows.now in
    let marks = c.args.marks.now in
    let queue = c.args.queue.now in
    let list = c.args.list.now in
    let cleared = build_cleared B table bits _ c.list_bits-r.ensures.answer in
    let answer = c.list_bits-r.ensures.answer ∙ build_bits B table bits _ (sym c.is_sized.ensures ∙ c.if-not-is_sized.false) (sym c.is_build_exact.ensures ∙ c.if-not-is_build_exact.false) in
    record { answer = answer; list = c.list_bits-r.ensures.list; settings = cleared settings c.list_bits-r.new.settings _ c.list_bits-r.auto.settings (c.fill.ensures.after (λ y e. e)); wires = cleared wires c.list_bits-r.new.wires _ c.list_bits-r.auto.wires (c.fill-2.ensures.after (λ y e. e)); sources = cleared sources c.list_bits-r.new.sources _ c.list_bits-r.auto.sources (c.fill-3.ensures.after (λ y e. e)); rows = cleared rows c.list_bits-r.new.rows _ c.list_bits-r.auto.rows (c.fill-4.ensures.after (λ y e. e)); marks = cleared marks c.list_bits-r.new.marks _ c.list_bits-r.auto.marks (c.fill-5.ensures.after (λ y e. e)); queue = cleared queue c.list_bits-r.new.queue _ c.list_bits-r.auto.queue (c.fill-6.ensures.after (λ y e. e)); says = build_says B table bits settings (room_lent list wires sources rows marks queue) _ answer }
