-- `listing::write_card` meets its contract: the numbers, and the rest cleared. Assumes nothing.
use Prim.Native.Nat.{ℕ, ◌-◌}
use mathlib.Core.Path.{◌≡◌, sym, subst}
use lib.ListN.{length, take, drop}
use borrow.Rule.Slice.PartMut.{put_mid}
use Rattle.lists.specs.Tables.{zeros}
use Rattle.lists.specs.Listing.{zero_filled}
use Rattle.card.specs.Card.{numbers_of}
use Rattle.card.proofs.CardLaws.{card_filled}
use Rattle.card.proofs.listing.write_card.Goals as goal

pub returns : goal.returns
returns c =
    let a = c.args in
    let end = c.put_numbers-end.result in
    let card = c.put_numbers-end.new.card in
    let rest = c.fill.new.self in
    let cleared =
    subst (λ (n : ℕ). rest ≡ zeros (length (take (n - end) (drop end card)))) c.put_numbers-end.auto.card (c.fill.ensures.after (λ y e. e)) in
    subst
    (λ (n : ℕ). put_mid end (n - end) card rest ≡ zero_filled (length a.card.now) (numbers_of a.b a.cells a.flops a.left.now a.fed.now))
    (sym c.put_numbers-end.auto.card)
    (card_filled a.b a.cells a.flops a.left.now a.fed.now a.card.now card rest end c.put_numbers-end.ensures.card c.put_numbers-end.ensures.end
    c.requires.leaving_value.2 cleared)
