-- The answers of `shelf_card`, ground by ground, each where the grounds before it have passed, and the work room after any answer. Main laws:
-- `numbers_short`, `numbers_yes`; `bits_no`, `bits_yes`; `answer_size`, `-length`, `-bits`; `room_cleared`. Assumes nothing.
use Rattle.refusal.specs.Grounds.{answer_number}
use Rattle.std.specs.Prelude.{Result, Ok, Err}
use Prim.Native.Nat.{ℕ, ◌<◌, ◌≤◌}
use mathlib.Core.Path.{◌≡◌, refl, sym, ap, ◌∙◌}
use mathlib.Core.Bool.{Bool, true, false}
use mathlib.Core.List.{List}
use borrow.Author.Tests.{le-leb, lt-leb}
use lib.Dec.{leb}
use lib.ListN.{length}
use Rattle.lists.specs.Tables.{zeros}
use Rattle.refusal.specs.Memory.{work_room}
use Rattle.refusal.specs.declared.Refusal.{Refusal}
use Rattle.refusal.specs.declared.Refusal.TheVariants.{WrongSize, WrongLength, ListTooShort}
use Rattle.refusal.proofs.GroundsLaws.{unless_cases}
use Rattle.ports.specs.declared.size.Block.{Block}
use Rattle.ports.specs.Block.{sized}
use Rattle.config.specs.Blocks.{tiles_of}
use Rattle.block.specs.Building.{build_answer}
use Rattle.block.proofs.BuildingLaws.{build_size, build_length, build_bits, build_room}
use Rattle.card.specs.Card.{card_length}
use Rattle.card.specs.Entry.{numbers_answer, after_build, settings_of, card_answer}

-- ---- ground 15

module _ (k n card : ℕ) (e : k ≡ n) where
  pub numbers_short : card < k → Err (ListTooShort k) ≡ numbers_answer n card
  unfolding numbers_answer
  numbers_short l = rw (← e, lt-leb k card l)

  pub numbers_yes : k ≤ card → Ok k ≡ numbers_answer n card
  unfolding numbers_answer
  numbers_yes l = rw (← e, le-leb k card l)

module _ (B : Block) (t bits : List ℕ) (lengths : Bool) (card : ℕ) where
  -- ---- building's grounds

  module _ (r : Result ℕ Refusal) (e : r ≡ build_answer B t (tiles_of bits) lengths) where
    pub bits_no : (refusal : Refusal) → r ≡ Err refusal → Err refusal ≡ card_answer B t bits lengths card
    unfolding card_answer
    bits_no refusal f = rw (← e, f)

    pub bits_yes : (rows : ℕ) → r ≡ Ok rows → numbers_answer (card_length B t (settings_of B t bits)) card ≡ card_answer B t bits lengths card
    unfolding card_answer
    bits_yes rows f = rw (← e, f)

  -- ---- grounds 1 and 2

  pub answer_size : sized B ≡ false → Err WrongSize ≡ card_answer B t bits lengths card
  answer_size e = bits_no (Err WrongSize) (build_size B t bits lengths e) WrongSize refl

  module _ (size : sized B ≡ true) where
    pub answer_length : lengths ≡ false → Err WrongLength ≡ card_answer B t bits lengths card
    answer_length e = bits_no (Err WrongLength) (build_length B t bits lengths size e) WrongLength refl

    pub answer_bits : lengths ≡ true → card_answer B t bits true card ≡ card_answer B t bits lengths card
    answer_bits e = ap (λ (b : Bool). card_answer B t bits b card) (sym e)

-- ---- the work room

-- "the work room is zeroed, on a yes too, but untouched under 1 and 2"
abbrev Zeroed : Result ℕ Refusal → Type 0
Zeroed r = (old : List ℕ) → zeros (length old) ≡ work_room (answer_number r) old

module _ (B : Block) (t bits : List ℕ) (size : sized B ≡ true) where
  -- grounds 3 to 8 and 15 and a yes leave it zeroed
  room_zeroed : (card : ℕ) → Zeroed (card_answer B t bits true card)
  unfolding card_answer numbers_answer
  room_zeroed card = go (build_answer B t (tiles_of bits) true) zeroed
    where
      zeroed : (old : List ℕ) → zeros (length old) ≡ work_room (answer_number (build_answer B t (tiles_of bits) true)) old
      zeroed old = build_room B t bits old ∙ ap (λ (a : Result ℕ Refusal). work_room (answer_number a) old) (build_bits B t bits true size refl)

      go : (a : Result ℕ Refusal) → ((old : List ℕ) → zeros (length old) ≡ work_room (answer_number a) old)
          → Zeroed (after_build a (numbers_answer (card_length B t (settings_of B t bits)) card))
      go (Ok rows) z = unless_cases Zeroed (leb (card_length B t (settings_of B t bits)) card) _ _ (λ f old. refl) (λ f old. refl)
      go (Err refusal) z = z

  -- a slice of it, whose old contents were cleared after the answer
  pub room_cleared : (card : ℕ) (r : Result ℕ Refusal) → r ≡ card_answer B t bits true card → (old last cleared : List ℕ) → length last ≡ length old
      → cleared ≡ zeros (length last) → cleared ≡ work_room (answer_number r) old
  room_cleared card r e old last cleared kept is =
      is ∙ ap zeros kept ∙ room_zeroed card old ∙ ap (λ (a : Result ℕ Refusal). work_room (answer_number a) old) (sym e)
