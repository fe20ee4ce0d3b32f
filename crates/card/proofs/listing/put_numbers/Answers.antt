-- `listing::put_numbers` meets its contract: four parts, one after another. Assumes nothing.
use native.Mathlib.Omega.{arith}
use lib.ListN.{length-set}
use Rattle.card.proofs.CardLaws.{card_written, needed_is, marked_le}
use Rattle.card.proofs.listing.put_numbers.Goals as goal

pub put_head-requires : goal.put_head-requires
put_head-requires c = (c.requires.sized.0, c.requires.sized.1, c.requires.sized.2, omega (arith, needed_is c.args.left.now c.args.fed.now, c.requires.leaving_value.0, c.requires.leaving_value.1, c.requires.leaving_value.2, marked_le c.args.left.now, marked_le c.args.fed.now, c.requires.sized.3, c.requires.sized.4), omega (arith, needed_is c.args.left.now c.args.fed.now, c.requires.leaving_value.0, c.requires.leaving_value.1, c.requires.leaving_value.2))

pub put_wires-at-requires : goal.put_wires-at-requires
put_wires-at-requires c = (c.requires.sized.3, omega (arith, needed_is c.args.left.now c.args.fed.now, c.requires.leaving_value.0, c.requires.leaving_value.1, c.requires.leaving_value.2, c.put_head.auto.card))

pub overflow_cast-card : goal.overflow_cast-card
overflow_cast-card c = omega (arith, needed_is c.args.left.now c.args.fed.now, c.requires.leaving_value.0, c.requires.leaving_value.1, c.requires.leaving_value.2, marked_le c.args.left.now, marked_le c.args.fed.now, c.requires.sized.3, c.requires.sized.4)

pub offset_bounds-card-at : goal.offset_bounds-card-at
offset_bounds-card-at c = omega (arith, needed_is c.args.left.now c.args.fed.now, c.requires.leaving_value.0, c.requires.leaving_value.1, c.requires.leaving_value.2, marked_le c.args.left.now, marked_le c.args.fed.now, c.requires.sized.3, c.requires.sized.4, c.put_wires-at.ensures.end)

pub bounds-card-at : goal.bounds-card-at
bounds-card-at c = omega (arith, needed_is c.args.left.now c.args.fed.now, c.requires.leaving_value.0, c.requires.leaving_value.1, c.requires.leaving_value.2, c.put_wires-at.ensures.end, c.put_head.auto.card, c.put_wires-at.auto.card)

pub overflow_add-at : goal.overflow_add-at
overflow_add-at c = omega (arith, needed_is c.args.left.now c.args.fed.now, c.requires.leaving_value.0, c.requires.leaving_value.1, c.requires.leaving_value.2, marked_le c.args.left.now, marked_le c.args.fed.now, c.requires.sized.3, c.requires.sized.4, c.put_wires-at.ensures.end)

pub put_wires-requires : goal.put_wires-requires
put_wires-requires c = (c.requires.sized.4, simp length-set (omega (arith, needed_is c.args.left.now c.args.fed.now, c.requires.leaving_value.0, c.requires.leaving_value.1, c.requires.leaving_value.2, c.put_wires-at.ensures.end, c.put_head.auto.card, c.put_wires-at.auto.card)))

pub returns : goal.returns
returns c = record { end = omega (arith, needed_is c.args.left.now c.args.fed.now, c.requires.leaving_value.0, c.requires.leaving_value.1, c.requires.leaving_value.2, c.put_wires-at.ensures.end, c.put_wires.ensures.end); card = card_written c.args.b c.args.cells c.args.flops c.args.left.now c.args.fed.now c.args.card.now _ _ _ c.args.leaving c.args.feeding _ c.requires.leaving_value.0 c.requires.leaving_value.1 c.put_head.ensures c.put_wires-at.ensures.card c.put_wires-at.ensures.end c.put_wires.ensures.card }
