-- The answers of `contentions`, ground by ground, each where the grounds before it have passed, and the work room after any answer. Main laws: `rows_short`,
-- `rows_yes`; `bits_no`, `bits_yes`; `answer_size`, `-length`, `-bits`; `room_cleared`. Assumes nothing.
use Rattle.std.specs.Prelude.{Result, Ok, Err}
use Prim.Native.Nat.{ℕ, ◌*◌, ◌<◌, ◌≤◌}
use mathlib.Core.Path.{◌≡◌, refl, sym, ap, ap₂, ◌∙◌}
use mathlib.Core.Bool.{Bool, true, false}
use mathlib.Core.List.{List}
use borrow.Author.Tests.{le-leb, lt-leb}
use lib.Dec.{leb}
use lib.ListN.{length}
use Rattle.lists.specs.Tables.{zeros}
use Rattle.refusal.specs.Grounds.{answer_number}
use Rattle.refusal.specs.Memory.{output, work_room}
use Rattle.refusal.specs.declared.Refusal.{Refusal}
use Rattle.refusal.specs.declared.Refusal.TheVariants.{WrongSize, WrongLength, ListTooShort}
use Rattle.refusal.proofs.GroundsLaws.{unless_cases}
use Rattle.ports.specs.declared.size.Size.{Size}
use Rattle.ports.specs.declared.size.Block.{Block}
use Rattle.ports.specs.Block.{Sized, size_of, tile_count, sized}
use Rattle.ports.specs.Lengths.{settings_total}
use Rattle.ports.proofs.BlockLaws.{sized_allowed}
use Rattle.config.specs.Blocks.{decoded, tiles_of}
use Rattle.config.specs.Entry.{read_answer}
use Rattle.config.specs.Facts.{ExactLengths}
use Rattle.config.specs.Meaning.{ReadNo, wrong_size, wrong_length, broken, undecodable}
use Rattle.config.proofs.MeaningLaws.{read_says}
use Rattle.contention.specs.Contentions.{row_length, contention_count}
use Rattle.contention.specs.Lengths.{contention_lent, ContentionLong}
use Rattle.contention.specs.Entry.{rows_answer, after_read, settings_read, bits_answer, contentions_answer}

-- ---- ground 15

module _ (B : Block) (t st : List ℕ) (rows list : ℕ) (e : rows ≡ contention_count B t st) where
  pub rows_short : list < row_length * rows → Err (ListTooShort rows) ≡ rows_answer B t st list
  unfolding rows_answer
  rows_short l = rw (← e, lt-leb (row_length * rows) list l)

  pub rows_yes : row_length * rows ≤ list → Ok rows ≡ rows_answer B t st list
  unfolding rows_answer
  rows_yes l = rw (← e, le-leb (row_length * rows) list l)

-- ---- grounds 3 and 4, those of reading: `r` is what `read` answers for the size S, lent settings of the exact length

module _ (B : Block) (t bits settings : List ℕ) (long : length settings ≡ settings_total (size_of B)) (S : Size) (is : S ≡ size_of B) (r : Result (Unit {0}) Refusal)
    (e : r ≡ read_answer S t bits (length settings)) where
  pub read_answer_lem : read_answer (size_of B) t bits (length settings) ≡ r
  read_answer_lem = ap (λ (x : Size). read_answer x t bits (length settings)) (sym is) ∙ sym e

  exact_answer : read_answer (size_of B) t bits (settings_total (size_of B)) ≡ r
  exact_answer = ap (read_answer (size_of B) t bits) (sym long) ∙ read_answer_lem

  pub bits_no : (refusal : Refusal) (list : ℕ) → r ≡ Err refusal → Err refusal ≡ bits_answer B t bits list
  unfolding bits_answer
  bits_no refusal list f = rw (exact_answer, f)

  module _ (done : r ≡ (Ok tt)) where
    pub bits_yes : (list : ℕ) → rows_answer B t (settings_read B t bits) list ≡ bits_answer B t bits list
    unfolding bits_answer
    bits_yes list = rw (exact_answer, done)

    pub read_settings : (after : List ℕ) → after ≡ output (answer_number r) settings (decoded t (tiles_of bits) (tile_count S)) → after ≡ settings_read B t bits
    read_settings after f =
        f ∙ ap₂ (λ (a : Result (Unit {0}) Refusal) (x : Size). output (answer_number a) settings (decoded t (tiles_of bits) (tile_count x))) done is

-- ---- grounds 1 and 2

module _ (B : Block) (t bits : List ℕ) (lengths : Bool) (list : ℕ) where
  pub answer_size : sized B ≡ false → Err WrongSize ≡ contentions_answer B t bits lengths list
  unfolding contentions_answer
  answer_size e = rw e

  module _ (size : sized B ≡ true) where
    pub answer_length : lengths ≡ false → Err WrongLength ≡ contentions_answer B t bits lengths list
    unfolding contentions_answer
    answer_length e = rw (size, e)

    pub answer_bits : lengths ≡ true → bits_answer B t bits list ≡ contentions_answer B t bits lengths list
    unfolding contentions_answer
    answer_bits e = rw (size, e)

-- ---- the work room

-- "the work room is zeroed, on a yes too, but untouched under 1 and 2"
abbrev Zeroed : Result ℕ Refusal → Type 0
Zeroed r = (old : List ℕ) → zeros (length old) ≡ work_room (answer_number r) old

module _ (B : Block) (t bits settings wires heads nexts : List ℕ) (size : Sized B)
    (long : ContentionLong B (contention_lent t bits settings wires heads nexts)) where
  -- what reading asks for
  pub read_lengths : ExactLengths (size_of B) (length t) (length bits) (length settings)
  read_lengths = record { table_long = long.table_long; bits_long = long.bits_long; settings_long = long.settings_long }

  -- a no of reading is of ground 3 or 4
  zeroed_no : (refusal : Refusal) → ReadNo (size_of B) t bits (length settings) refusal → Zeroed (Err refusal)
  zeroed_no refusal (wrong_size n) old = absurd (n (sized_allowed B size))
  zeroed_no refusal (wrong_length n) old = absurd (n.1 read_lengths)
  zeroed_no refusal (broken part n) old = refl
  zeroed_no refusal (undecodable place C low) old = refl

  -- grounds 3, 4 and 15 and a yes leave it zeroed
  room_zeroed : (list : ℕ) → Zeroed (bits_answer B t bits list)
  unfolding bits_answer rows_answer
  room_zeroed list =
      go (read_answer (size_of B) t bits (settings_total (size_of B))) (ap (read_answer (size_of B) t bits) long.settings_long)
    where
      go : (a : Result (Unit {0}) Refusal) → read_answer (size_of B) t bits (length settings) ≡ a → Zeroed (after_read a (rows_answer B t (settings_read B t bits) list))
      go (Ok _) e =
          unless_cases Zeroed (leb (row_length * contention_count B t (settings_read B t bits)) list) _ _ (λ f old. refl) (λ f old. refl)
      go (Err refusal) e = zeroed_no refusal (read_says (size_of B) t bits settings _ (Err refusal) (sym e) refl).1

  -- a slice of it, whose old contents were cleared after the answer
  pub room_cleared : (list : ℕ) (r : Result ℕ Refusal) → r ≡ bits_answer B t bits list → (old last cleared : List ℕ) → length last ≡ length old
      → cleared ≡ zeros (length last) → cleared ≡ work_room (answer_number r) old
  room_cleared list r e old last cleared kept is =
      is ∙ ap zeros kept ∙ room_zeroed list old ∙ ap (λ (a : Result ℕ Refusal). work_room (answer_number a) old) (sym e)
