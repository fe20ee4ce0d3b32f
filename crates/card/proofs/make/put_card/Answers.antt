-- `make::put_card` meets its contract: the card is too short, or it is written. Assumes nothing.
use native.Mathlib.Omega.{arith}
use Rattle.card.specs.Cells.{used_cell, flop_cell}
use Prim.Native.Nat.{ℕ, ◌+◌, ◌*◌}
use mathlib.Core.Path.{◌≡◌, refl, ap₂, ◌∙◌}
use lib.ListN.{length}
use Rattle.ports.proofs.BlockLaws.{tiles_le, ports_le}
use Rattle.lists.proofs.CountLaws.{count_le}
use Rattle.lists.specs.Listing.{zero_filled}
use Rattle.card.specs.Card.{numbers_of, needed}
use Rattle.lists.proofs.StdLaws.{count_range-is}
use Rattle.card.proofs.EntryLaws.{numbers_short, numbers_yes}
use Rattle.card.proofs.CardLaws.{needed_is, marked_le}
use Rattle.card.proofs.make.put_card.Goals as goal

pub overflow_add-numbers : goal.overflow_add-numbers
overflow_add-numbers c = omega (arith, c.requires.2, c.requires.3, ports_le c.args.b c.requires.0, tiles_le c.args.b c.requires.0, marked_le c.args.left.now, marked_le c.args.fed.now, c.count_marks-leaving.ensures)

pub overflow_add-numbers-2 : goal.overflow_add-numbers-2
overflow_add-numbers-2 c = omega (arith, c.requires.2, c.requires.3, ports_le c.args.b c.requires.0, tiles_le c.args.b c.requires.0, marked_le c.args.left.now, marked_le c.args.fed.now, c.count_marks-leaving.ensures, c.count_marks-feeding.ensures)

pub overflow_cast-result : goal.overflow_cast-result
overflow_cast-result c = omega (arith, c.requires.2, c.requires.3, ports_le c.args.b c.requires.0, tiles_le c.args.b c.requires.0, marked_le c.args.left.now, marked_le c.args.fed.now, c.count_marks-leaving.ensures, c.count_marks-feeding.ensures)

pub returns-then-card-numbers : goal.returns-then-card-numbers
returns-then-card-numbers c = let e : 6 + c.count_marks-leaving.result + c.count_marks-feeding.result ≡ needed c.args.left.now c.args.fed.now = omega (arith, needed_is c.args.left.now c.args.fed.now, c.count_marks-leaving.ensures, c.count_marks-feeding.ensures) in
    record { answer = numbers_short _ _ (length c.args.card.now) e c.if-card-numbers.true; card = refl }

pub write_card-requires : goal.write_card-requires
write_card-requires c = record { sized = (c.requires.0, omega (arith, c.requires.2, c.requires.3, ports_le c.args.b c.requires.0, tiles_le c.args.b c.requires.0, marked_le c.args.left.now, marked_le c.args.fed.now, c.count_used-cells.ensures, count_range-is (used_cell c.args.st.now) (8 * (c.args.b.h * c.args.b.w)), count_le (used_cell c.args.st.now) (8 * (c.args.b.h * c.args.b.w))), omega (arith, c.requires.2, c.requires.3, ports_le c.args.b c.requires.0, tiles_le c.args.b c.requires.0, marked_le c.args.left.now, marked_le c.args.fed.now, c.count_flops-flops.ensures, count_range-is (flop_cell c.args.st.now) (8 * (c.args.b.h * c.args.b.w)), count_le (flop_cell c.args.st.now) (8 * (c.args.b.h * c.args.b.w))), omega (arith, c.requires.2, c.requires.3, ports_le c.args.b c.requires.0, tiles_le c.args.b c.requires.0, marked_le c.args.left.now, marked_le c.args.fed.now), omega (arith, c.requires.2, c.requires.3, ports_le c.args.b c.requires.0, tiles_le c.args.b c.requires.0, marked_le c.args.left.now, marked_le c.args.fed.now)); leaving_value = (c.count_marks-leaving.ensures, c.count_marks-feeding.ensures, omega (arith, c.if-card-numbers.false, needed_is c.args.left.now c.args.fed.now, c.count_marks-leaving.ensures, c.count_marks-feeding.ensures)) }

pub overflow_cast-result-2 : goal.overflow_cast-result-2
overflow_cast-result-2 c = omega (arith, c.requires.2, c.requires.3, ports_le c.args.b c.requires.0, tiles_le c.args.b c.requires.0, marked_le c.args.left.now, marked_le c.args.fed.now, c.count_marks-leaving.ensures, c.count_marks-feeding.ensures)

pub returns : goal.returns
returns c = let e : 6 + c.count_marks-leaving.result + c.count_marks-feeding.result ≡ needed c.args.left.now c.args.fed.now = omega (arith, needed_is c.args.left.now c.args.fed.now, c.count_marks-leaving.ensures, c.count_marks-feeding.ensures) in
    record { answer = numbers_yes _ _ (length c.args.card.now) e (omega (arith, c.if-card-numbers.false)); card = c.write_card.ensures ∙ ap₂ (λ (x y : ℕ). zero_filled (length c.args.card.now) (numbers_of c.args.b x y c.args.left.now c.args.fed.now)) (c.count_used-cells.ensures ∙ count_range-is (used_cell c.args.st.now) (8 * (c.args.b.h * c.args.b.w))) (c.count_flops-flops.ensures ∙ count_range-is (flop_cell c.args.st.now) (8 * (c.args.b.h * c.args.b.w))) }
