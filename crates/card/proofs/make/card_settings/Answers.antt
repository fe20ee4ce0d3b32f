-- `make::card_settings` meets its contract: what each pass leaves is what the next one starts from. Assumes nothing.
use mathlib.Core.Path.{◌∙◌}
use lib.ListN.{length}
use Rattle.card.proofs.MakingLaws.{rows_touchable, leaving_made, feeding_made, answer_made, card_made}
use Rattle.card.proofs.make.card_settings.Goals as goal

pub mark_feeding-requires : goal.mark_feeding-requires
mark_feeding-requires c = record { mapped = (record { size = c.requires.routed.0.size; settings_long = c.requires.routed.0.settings_long; wired = c.fill_wires.ensures }, c.find_sources.auto.sources ∙ c.requires.wires_len.1, c.copy.auto.to ∙ c.requires.wires_len.2); rows_touchable = rows_touchable c.args.b c.args.table.now c.args.st.now c.requires.routed.0 c.requires.routed.1 _ _ c.requires.routed.2 c.requires.routed.3 }

pub returns : goal.returns
returns c = let left = leaving_made c.args.b c.args.table.now c.args.st.now _ _ c.find_sources.ensures.sources c.mark_leaving.ensures in let fed = feeding_made c.args.b c.args.table.now c.args.st.now _ c.args.list.now _ _ c.args.count c.find_sources.ensures.sources c.requires.routed.2 c.requires.routed.3 (c.copy.ensures ∙ left) c.mark_feeding.ensures in
    record { answer = answer_made c.args.b c.args.table.now c.args.st.now _ _ left fed (length c.args.card.now) _ c.put_card.ensures.answer; card = card_made c.args.b c.args.table.now c.args.st.now _ _ left fed (length c.args.card.now) c.put_card.result c.args.card.now _ c.put_card.ensures.card }
