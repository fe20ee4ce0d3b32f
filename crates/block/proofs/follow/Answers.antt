-- `follow` meets its contract: size and lengths are exact, then the driver is followed and the work room cleared. Assumes nothing.
use Rattle.block.proofs.DriverLaws.{follow_size, follow_length, follow_settings, follow_cleared}
use Rattle.block.proofs.DriverMeaningLaws.{follow_says}
use mathlib.Core.Path.{refl, sym, ◌∙◌}
use Rattle.block.proofs.follow.Goals as goal

-- a size that no block has
pub returns-then-not-is_sized : goal.returns-then-not-is_sized
returns-then-not-is_sized c =
    let B = c.args.b in
    let table = c.args.table.now in
    let settings = c.args.settings.now in
    let tile = c.args.tile in
    let port = c.args.port in
    let wires = c.args.wires.now in
    let sources = c.args.sources.now in
    let marks = c.args.marks.now in
    let answer = follow_size B table settings tile port _ (sym c.is_sized.ensures ∙ c.if-not-is_sized.true) in
    record { answer = answer; wires = refl; sources = refl; marks = refl; says = follow_says B table settings tile port wires sources marks _ answer }

-- a length that is not the exact one
pub returns-then-not-is_follow_exact : goal.returns-then-not-is_follow_exact
returns-then-not-is_follow_exact c =
    let B = c.args.b in
    let table = c.args.table.now in
    let settings = c.args.settings.now in
    let tile = c.args.tile in
    let port = c.args.port in
    let wires = c.args.wires.now in
    let sources = c.args.sources.now in
    let marks = c.args.marks.now in
    let answer = follow_length B table settings tile port _ (sym c.is_sized.ensures ∙ c.if-not-is_sized.false) (sym c.is_follow_exact.ensures ∙ c.if-not-is_follow_exact.true) in
    record { answer = answer; wires = refl; sources = refl; marks = refl; says = follow_says B table settings tile port wires sources marks _ answer }

-- every other answer
pub returns : goal.returns
returns c =
    let B = c.args.b in
    let table = c.args.table.now in
    let settings = c.args.settings.now in
    let tile = c.args.tile in
    let port = c.args.port in
    let wires = c.args.wires.now in
    let sources = c.args.sources.now in
    let marks = c.args.marks.now in
    let cleared = follow_cleared B table settings tile port _ c.follow_settings-r.ensures in
    let answer = c.follow_settings-r.ensures ∙ follow_settings B table settings tile port _ (sym c.is_sized.ensures ∙ c.if-not-is_sized.false) (sym c.is_follow_exact.ensures ∙ c.if-not-is_follow_exact.false) in
    record { answer = answer; wires = cleared wires c.follow_settings-r.new.wires _ c.follow_settings-r.auto.wires (c.fill.ensures.after (λ y e. e)); sources = cleared sources c.follow_settings-r.new.sources _ c.follow_settings-r.auto.sources (c.fill-2.ensures.after (λ y e. e)); marks = cleared marks c.follow_settings-r.new.marks _ c.follow_settings-r.auto.marks (c.fill-3.ensures.after (λ y e. e)); says = follow_says B table settings tile port wires sources marks _ answer }
