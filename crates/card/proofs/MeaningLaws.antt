-- Every answer of `shelf_card` says what specs/Meaning.antt has. Main laws: `card_say`; `accepted_routed`, `accepted_card`. Assumes nothing.
use Rattle.refusal.specs.Grounds.{answer_number}
use Rattle.refusal.specs.declared.Refusal.{Refusal}
use Rattle.std.specs.Prelude.{Result, Ok, Err}
use Prim.Native.Nat.{ℕ, ◌*◌, ◌≤◌}
use mathlib.Core.Path.{◌≡◌, refl, sym, subst}
use mathlib.Core.List.{List}
use native.Mathlib.Omega.{arith}
use borrow.Author.Tests.{leb-true, leb-false}
use lib.Dec.{leb}
use lib.ListN.{length}
use Rattle.lists.specs.Search.{count_below}
use Rattle.lists.specs.Listing.{zero_filled}
use Rattle.lists.proofs.ListingLaws.{filled_length}
use Rattle.refusal.specs.Memory.{output}
use Rattle.refusal.proofs.GroundsLaws.{unless_cases}
use Rattle.refusal.proofs.MemoryLaws.{output_refused}
use Rattle.ports.specs.declared.size.Block.{Block}
use Rattle.ports.specs.Block.{tiles}
use Rattle.routing.specs.LogicTile.{logic_tile}
use Rattle.config.specs.Blocks.{fault_place, tiles_of}
use Rattle.config.proofs.FaultPlaceLaws.{decodable_no_fault}
use Rattle.equations.specs.Routed.{Routed}
use Rattle.block.specs.declared.lengths.RoomLent.{RoomLent}
use Rattle.block.specs.declared.lengths.BuildLent.{BuildLent}
use Rattle.block.specs.Lengths.{build_lent, build_exact}
use Rattle.block.specs.Building.{build_answer}
use Rattle.block.specs.Meaning.{Readable, Accepted, BuildSays}
use Rattle.block.proofs.RoutedLaws.{routed_of_read}
use Rattle.block.proofs.MeaningLaws.{build_says}
use Rattle.card.specs.Cells.{used_cell, flop_cell}
use Rattle.card.specs.Marks.{leaving_marks, feeding_marks}
use Rattle.card.specs.Card.{Card, card_numbers, card_length}
use Rattle.card.specs.Entry.{numbers_answer, after_build, settings_of, card_answer, card_after}
use Rattle.card.specs.Meaning.{unbuilt, too_short, CardSays}
use Rattle.card.proofs.LeavingLaws.{leaving_exact}
use Rattle.card.proofs.FeedingLaws.{feeding_exact}
use Rattle.card.proofs.CardLaws.{card_is, numbers_length}

-- ---- what a yes of building shows

module _ (B : Block) (t bits : List ℕ) (lent : BuildLent) (R : Readable B t bits lent) where
  pub read_no_fault : logic_tile.positions * tiles B ≤ fault_place t (tiles_of bits) (tiles B)
  read_no_fault = let e = decodable_no_fault t bits R.rules (tiles B) R.tiles_read_lem.decodable in omega arith

  pub accepted_routed : Routed B t (settings_of B t bits)
  accepted_routed = routed_of_read B t bits R.size R.rules read_no_fault

pub accepted_card : (B : Block) (t st : List ℕ) → Routed B t st → Accepted B t st → (n : ℕ) → card_length B t st ≤ n
    → Card B t st (zero_filled n (card_numbers B t st)) (card_length B t st)
accepted_card B t st ok A n fits =
    card_is B t st (leaving_marks B t st) (feeding_marks B t st) (leaving_exact B t st ok) (feeding_exact B t st ok A.no_contention A.no_loop) n fits

-- ---- every answer

module _ (B : Block) (t bits settings : List ℕ) (room : RoomLent) (old : List ℕ) where
  abbrev lent : BuildLent
  lent = build_lent t bits settings room

  abbrev st : List ℕ
  st = settings_of B t bits

  abbrev Says : Result ℕ Refusal → Type 0
  Says r = CardSays B t bits lent old (output (answer_number r) old (card_after B t bits (length old))) r

  numbers_say : Readable B t bits lent → Accepted B t st → Says (numbers_answer (card_length B t st) (length old))
  unfolding numbers_answer
  numbers_say R A =
      let ok = accepted_routed B t bits lent R in
      unless_cases Says (leb (card_length B t st) (length old)) _ _
      (λ f. (
        refl,
        too_short (card_length B t st) (zero_filled (card_length B t st) (card_numbers B t st)) R A (accepted_card B t st ok A (card_length B t st) (omega arith))
            (leb-false _ _ f),
      ))
      (λ f.
      let l = leb-true (card_length B t st) (length old) f in (
        filled_length (length old) (card_numbers B t st) (omega (arith, numbers_length B (count_below (used_cell st) (8 * tiles B)) (count_below (flop_cell st) (8 * tiles B)) (leaving_marks B t st) (feeding_marks B t st))),
        record { read = R; accepted = A; card = accepted_card B t st ok A (length old) l },
      ))

  card_mean : Says (card_answer B t bits (build_exact B lent) (length old))
  unfolding card_answer
  card_mean = go (build_answer B t (tiles_of bits) (build_exact B lent)) refl
    where
      go : (a : Result ℕ Refusal) → a ≡ build_answer B t (tiles_of bits) (build_exact B lent) → Says (after_build a (numbers_answer (card_length B t st) (length old)))
      go (Ok rows) e =
          let said : BuildSays B t bits lent (Ok rows) = build_says B t bits settings room (Ok rows) e in
          numbers_say said.0 said.2
      go (Err refusal) e = (output_refused old _ refusal, unbuilt refusal (build_says B t bits settings room (Err refusal) e))

  -- the same of what `shelf_card` promises of its answer and of the lent card
  pub card_say : (after : List ℕ) (r : Result ℕ Refusal) → r ≡ card_answer B t bits (build_exact B lent) (length old)
      → after ≡ output (answer_number r) old (card_after B t bits (length old)) → CardSays B t bits (build_lent t bits settings room) old after r
  card_say after r e q = subst (λ (x : List ℕ). CardSays B t bits lent old x r) (sym q) (subst Says (sym e) card_mean)
