-- Every answer of the two conversions says what specs/Meaning.antt has it say. Main laws: `words_say`, `bytes_say`. Assumes nothing.
use Rattle.refusal.specs.declared.Refusal.{Refusal}
use Rattle.std.specs.Prelude.{Result}
use mathlib.Core.Path.{◌≡◌, refl, sym, subst, ◌∙◌}
use mathlib.Core.Bool.{true, false, ◌&&◌}
use mathlib.Core.List.{List}
use mathlib.Core.Logic.{⊎_elim}
use Prim.Native.Nat.{ℕ, ◌<◌, ◌≤◌}
use native.Mathlib.Omega.{arith}
use borrow.Author.Tests.{eqb-true, eqb-false, eq-eqb}
use lib.Dec.{eqb}
use lib.ListN.{length}
use Rattle.lists.proofs.CaseLaws.{clash, equal_and, and_equal, lt_or_le}
use Rattle.lists.proofs.SearchLaws.{first_le}
use Rattle.ports.specs.declared.size.Size.{Size}
use Rattle.ports.specs.Block.{tile_count, allowed}
use Rattle.ports.specs.Lengths.{columns, bits_length, bytes_length}
use Rattle.ports.proofs.BlockLaws.{allowed_exact, allowed_true}
use Rattle.refusal.specs.Grounds.{answer_number}
use Rattle.refusal.specs.Memory.{output}
use Rattle.refusal.proofs.GroundsLaws.{unless_cases}
use Rattle.words.specs.Packed.{FitsIn}
use Rattle.words.specs.Forms.{past_columns, SameBits, words_of, bytes_of}
use Rattle.words.specs.Stray.{first_stray}
use Rattle.words.specs.Answers.{words_answer, bytes_answer}
use Rattle.words.specs.Meaning.{BothLong, by_size, by_length, WordsSay, by_form, by_stray, BytesSay}
use Rattle.words.proofs.FormsLaws.{words_length, words_fit, bytes_length_lem, bytes_fit, bit_of_words, bit_of_bytes, no_stray_fits}
use Rattle.words.proofs.StrayLaws.{first_stray_exact}

-- what is computed carries the same bits
pub words_same : (n : ℕ) (bytes : List ℕ) → SameBits n bytes (words_of n bytes)
words_same n bytes = record { same = λ p h. bit_of_words n bytes p h; fits = words_fit n bytes }

pub bytes_same : (n : ℕ) (words : List ℕ) → FitsIn columns words → SameBits n (bytes_of n words) words
bytes_same n words fits = record { same = λ p h. sym (bit_of_bytes n words p h); fits = fits }

-- the test of both lengths is exact
module _ (S : Size) (bytes words : ℕ) where
  pub both_long : allowed S ≡ true → (eqb bytes (bytes_length S) && eqb words (bits_length S)) ≡ true → BothLong S bytes words
  both_long s e =
      let a = equal_and bytes (bytes_length S) _ e in
      record { right_size = (allowed_exact S).0 s; bytes_long = a.0; words_long = eqb-true words (bits_length S) a.1 }

  both_long_true : BothLong S bytes words → (eqb bytes (bytes_length S) && eqb words (bits_length S)) ≡ true
  both_long_true l = and_equal bytes (bytes_length S) l.bytes_long (eq-eqb words (bits_length S) l.words_long)

module _ (S : Size) (bytes before : List ℕ) where
  abbrev WordsMean : Result (Unit {0}) Refusal → Type 0
  WordsMean r = WordsSay S bytes before (output (answer_number r) before (words_of (tile_count S) bytes)) r

  words_mean : WordsMean (words_answer S (length bytes) (length before))
  unfolding words_answer
  words_mean =
      unless_cases WordsMean (allowed S) _ _ (λ e. (refl, by_size (λ a. clash (allowed_true S a) e)))
      (λ s. unless_cases WordsMean (eqb (length bytes) (bytes_length S) && eqb (length before) (bits_length S)) _ _
      (λ e. (refl, by_length ((allowed_exact S).0 s) (λ l. clash (both_long_true S (length bytes) (length before) l) e)))
      (λ e. let long = both_long S (length bytes) (length before) s e in
      (long, words_length (tile_count S) bytes ∙ sym long.words_long, words_same (tile_count S) bytes)))

  pub words_say : (r : Result (Unit {0}) Refusal) → r ≡ words_answer S (length bytes) (length before) → (after : List ℕ)
      → after ≡ output (answer_number r) before (words_of (tile_count S) bytes) → WordsSay S bytes before after r
  words_say r e after q = subst (λ (x : List ℕ). WordsSay S bytes before x r) (sym q) (subst WordsMean (sym e) words_mean)

module _ (S : Size) (words before : List ℕ) where
  abbrev BytesMean : Result (Unit {0}) Refusal → Type 0
  BytesMean r = BytesSay S words before (output (answer_number r) before (bytes_of (tile_count S) words)) r

  first_within : eqb (first_stray words) (length words) ≡ false → first_stray words < length words
  first_within e =
      ⊎_elim (λ (l : first_stray words < length words). l)
      (λ (l : length words ≤ first_stray words).
      let same : first_stray words ≡ length words = omega (arith, first_le (past_columns words) 0 (length words)) in absurd (eqb-false _ _ e same))
      (lt_or_le (first_stray words) (length words))

  bytes_mean : BytesMean (bytes_answer S words (length before))
  unfolding bytes_answer
  bytes_mean =
      unless_cases BytesMean (allowed S) _ _ (λ e. (refl, by_form (by_size (λ a. clash (allowed_true S a) e))))
      (λ s. unless_cases BytesMean (eqb (length before) (bytes_length S) && eqb (length words) (bits_length S)) _ _
      (λ e. (refl, by_form (by_length ((allowed_exact S).0 s) (λ l. clash (both_long_true S (length before) (length words) l) e))))
      (λ e. let long = both_long S (length before) (length words) s e in
      unless_cases BytesMean (eqb (first_stray words) (length words)) _ _
      (λ f. (refl, by_stray long (first_stray_exact words (first_within f))))
      (λ f. (
        long,
        bytes_length_lem (tile_count S) words ∙ sym long.bytes_long,
        bytes_same (tile_count S) words (no_stray_fits words (eqb-true _ _ f)),
        bytes_fit (tile_count S) words,
      ))))

  pub bytes_say : (r : Result (Unit {0}) Refusal) → r ≡ bytes_answer S words (length before) → (after : List ℕ)
      → after ≡ output (answer_number r) before (bytes_of (tile_count S) words) → BytesSay S words before after r
  bytes_say r e after q = subst (λ (x : List ℕ). BytesSay S words before x r) (sym q) (subst BytesMean (sym e) bytes_mean)
