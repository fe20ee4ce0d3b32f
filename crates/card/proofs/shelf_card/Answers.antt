-- `shelf_card` meets its contract: size and lengths are exact, then the card is made and the work room cleared. Assumes nothing.
use mathlib.Core.Path.{refl, sym, ◌∙◌}
use lib.ListN.{length}
use Rattle.block.specs.Lengths.{room_lent, build_lent}
use Rattle.card.proofs.MeaningLaws.{card_say}
use Rattle.card.proofs.EntryLaws.{answer_size, answer_length, answer_bits, room_cleared}
use Rattle.card.proofs.shelf_card.Goals as goal

pub returns-then-not-is_sized : goal.returns-then-not-is_sized
returns-then-not-is_sized c = let t = c.args.table.now in let bits = c.args.bits.now in let room = room_lent c.args.list.now c.args.wires.now c.args.sources.now c.args.rows.now c.args.marks.now c.args.queue.now in let lent = build_lent t bits c.args.settings.now room in let answer = answer_size c.args.b t bits _ (length c.args.card.now) (sym c.is_sized.ensures ∙ c.if-not-is_sized.true) in
    record { answer = answer; card = refl; list = refl; settings = refl; wires = refl; sources = refl; rows = refl; marks = refl; queue = refl; says = card_say c.args.b t bits c.args.settings.now room c.args.card.now _ _ answer refl }

pub returns-then-not-is_build_exact : goal.returns-then-not-is_build_exact
returns-then-not-is_build_exact c = let t = c.args.table.now in let bits = c.args.bits.now in let room = room_lent c.args.list.now c.args.wires.now c.args.sources.now c.args.rows.now c.args.marks.now c.args.queue.now in let lent = build_lent t bits c.args.settings.now room in let sized = sym c.is_sized.ensures ∙ c.if-not-is_sized.false in let answer = answer_length c.args.b t bits _ (length c.args.card.now) sized (sym c.is_build_exact.ensures ∙ c.if-not-is_build_exact.true) in
    record { answer = answer; card = refl; list = refl; settings = refl; wires = refl; sources = refl; rows = refl; marks = refl; queue = refl; says = card_say c.args.b t bits c.args.settings.now room c.args.card.now _ _ answer refl }

pub returns : goal.returns
returns c = let t = c.args.table.now in let bits = c.args.bits.now in let room = room_lent c.args.list.now c.args.wires.now c.args.sources.now c.args.rows.now c.args.marks.now c.args.queue.now in let lent = build_lent t bits c.args.settings.now room in let sized = sym c.is_sized.ensures ∙ c.if-not-is_sized.false in let exact = sym c.is_build_exact.ensures ∙ c.if-not-is_build_exact.false in let cleared = room_cleared c.args.b t bits sized (length c.args.card.now) _ c.card_bits-r.ensures.answer in
    let answer = c.card_bits-r.ensures.answer ∙ answer_bits c.args.b t bits _ (length c.args.card.now) sized exact in
    record { answer = answer; card = c.card_bits-r.ensures.card; list = cleared c.args.list.now c.card_bits-r.new.list _ c.card_bits-r.auto.list (c.fill.ensures.after (λ y e. e)); settings = cleared c.args.settings.now c.card_bits-r.new.settings _ c.card_bits-r.auto.settings (c.fill-2.ensures.after (λ y e. e)); wires = cleared c.args.wires.now c.card_bits-r.new.wires _ c.card_bits-r.auto.wires (c.fill-3.ensures.after (λ y e. e)); sources = cleared c.args.sources.now c.card_bits-r.new.sources _ c.card_bits-r.auto.sources (c.fill-4.ensures.after (λ y e. e)); rows = cleared c.args.rows.now c.card_bits-r.new.rows _ c.card_bits-r.auto.rows (c.fill-5.ensures.after (λ y e. e)); marks = cleared c.args.marks.now c.card_bits-r.new.marks _ c.card_bits-r.auto.marks (c.fill-6.ensures.after (λ y e. e)); queue = cleared c.args.queue.now c.card_bits-r.new.queue _ c.card_bits-r.auto.queue (c.fill-7.ensures.after (λ y e. e)); says = card_say c.args.b t bits c.args.settings.now room c.args.card.now _ _ answer c.card_bits-r.ensures.card }
