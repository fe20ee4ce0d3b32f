-- `make::card_bits` meets its contract: a no of building is passed on; a yes shows what the card needs. Assumes nothing.
use Rattle.refusal.specs.Grounds.{answer_number}
use Prim.Native.Nat.{ℕ}
use mathlib.Core.Path.{◌≡◌, sym, ap, subst, ◌∙◌}
use mathlib.Core.List.{List}
use mathlib.Core.Bool.{true}
use lib.ListN.{length}
use Rattle.refusal.specs.Memory.{output}
use Rattle.lists.specs.Listing.{zero_filled}
use Rattle.equations.specs.Settling.{block_list}
use Rattle.equations.specs.Routed.{Routed}
use Rattle.config.specs.Blocks.{tiles_of}
use Rattle.block.proofs.LengthLaws.{build_long_exact}
use Rattle.block.specs.Meaning.{BuildSays, Accepted}
use Rattle.block.specs.Building.{build_answer}
use Rattle.block.specs.Lengths.{room_lent, build_lent}
use Rattle.card.specs.Card.{card_numbers, card_length}
use Rattle.card.specs.Entry.{numbers_answer}
use Rattle.std.proofs.lemmas.Result.{err_from_is_err_and}
use Rattle.card.proofs.EntryLaws.{bits_no, bits_yes}
use Rattle.card.proofs.MeaningLaws.{accepted_routed}
use Rattle.card.proofs.MakingLaws.{listed_output}
use Rattle.card.proofs.make.card_bits.Goals as goal

pub card_settings-requires : goal.card_settings-requires
card_settings-requires c = let t = c.args.table.now in let bits = c.args.bits.now in let lent = build_lent t bits c.args.settings.now (room_lent c.args.list.now c.args.wires.now c.args.sources.now c.args.rows.now c.args.marks.now c.args.queue.now) in let said = subst (BuildSays c.args.b t bits lent) c.in_ok-count.was c.build.ensures.says in
    record { routed = (subst (λ (s : List ℕ). Routed c.args.b c.args.table.now s) (sym c.decode_block.ensures) (accepted_routed c.args.b t bits lent said.0), subst (λ (s : List ℕ). Accepted c.args.b c.args.table.now s) (sym c.decode_block.ensures) said.2, listed_output _ _ c.args.list.now _ _ c.in_ok-count.was c.build.ensures.list ∙ ap (block_list c.args.b c.args.table.now) (sym c.decode_block.ensures), said.1); wires_len = (c.build.auto.wires ∙ c.requires.1.room_long.wires_long, c.build.auto.sources ∙ c.requires.1.room_long.sources_long, c.build.auto.marks ∙ c.requires.1.room_long.marks_long, c.build.auto.queue ∙ c.requires.1.room_long.queue_long) }

-- a no of building
pub returns-in_err-count-clause-answer : goal.returns-in_err-count-clause-answer
returns-in_err-count-clause-answer c =
    let t = c.args.table.now in
    let bits = c.args.bits.now in
    let lent =
    build_lent t bits c.args.settings.now
    (room_lent c.args.list.now c.args.wires.now c.args.sources.now c.args.rows.now c.args.marks.now c.args.queue.now) in
    let answer : c.build.result ≡ build_answer c.args.b c.args.table.now (tiles_of c.args.bits.now) true =
    c.build.ensures.answer ∙ ap (build_answer c.args.b c.args.table.now (tiles_of c.args.bits.now)) ((build_long_exact c.args.b lent).1 c.requires.1) in
    let p = err_from_is_err_and c.from_residual.result c.from_residual.ensures.1 in
    rw (p.1, p.2) (bits_no c.args.b t bits true (length c.args.card.now) _ answer _ c.in_err-count.was)

pub returns : goal.returns
returns c = let t = c.args.table.now in let bits = c.args.bits.now in let lent = build_lent t bits c.args.settings.now (room_lent c.args.list.now c.args.wires.now c.args.sources.now c.args.rows.now c.args.marks.now c.args.queue.now) in let answer : c.build.result ≡ build_answer c.args.b c.args.table.now (tiles_of c.args.bits.now) true = c.build.ensures.answer ∙ ap (build_answer c.args.b c.args.table.now (tiles_of c.args.bits.now)) ((build_long_exact c.args.b lent).1 c.requires.1) in
    record { answer = c.card_settings.ensures.answer ∙ ap (λ (s : List ℕ). numbers_answer (card_length c.args.b c.args.table.now s) (length c.args.card.now)) c.decode_block.ensures ∙ bits_yes c.args.b t bits true (length c.args.card.now) _ answer _ c.in_ok-count.was; card = c.card_settings.ensures.card ∙ ap (λ (s : List ℕ). output (answer_number c.card_settings.result) c.args.card.now (zero_filled (length c.args.card.now) (card_numbers c.args.b c.args.table.now s))) c.decode_block.ensures }
