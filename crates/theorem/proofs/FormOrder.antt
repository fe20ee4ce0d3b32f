-- The grounds of both conversions in their orders. Main laws: `words_order`, `bytes_order`. Assumes nothing.
use Rattle.std.specs.Prelude.{Result, Ok, Err}
use Prim.Native.Nat.{ℕ}
use mathlib.Core.Path.{refl}
use mathlib.Core.Logic.{inl, inr}
use mathlib.Core.List.{List}
use lib.ListN.{length}
use Rattle.refusal.specs.Grounds.{answer_number, answer_value}
use Rattle.refusal.specs.declared.Refusal.{Refusal}
use Rattle.ports.specs.declared.size.Size.{Size}
use Rattle.words.specs.Answers.{words_answer, bytes_answer}
use Rattle.words.specs.Meaning.{FormNo, by_size, by_length, WordsSay, BytesNo, by_form, by_stray, BytesSay}
use Rattle.words.proofs.StrayLaws.{fits_no_stray}
use Rattle.words.proofs.MeaningLaws.{words_say, bytes_say}
use Rattle.theorem.specs.FormGrounds.{WordsGrounds, BytesGrounds}

module _ (S : Size) (bytes words : List ℕ) where
  abbrev WordsOrder : Result (Unit {0}) Refusal → Type 0
  WordsOrder r = WordsGrounds S bytes words (answer_number r) (answer_value r)

  words_no : (refusal : Refusal) → FormNo S (length bytes) (length words) refusal → WordsOrder (Err refusal)
  words_no refusal (by_size n) = inl (n, refl, refl)
  words_no refusal (by_length s n) = inr (s, inl (λ l. n (record { right_size = s; bytes_long = l.0; words_long = l.1 }), refl, refl))

  words_told : (r : Result (Unit {0}) Refusal) (after : List ℕ) → WordsSay S bytes words after r → WordsOrder r
  words_told (Ok _) after z = inr (z.0.right_size, inr ((z.0.bytes_long, z.0.words_long), (refl, refl)))
  words_told (Err refusal) after z = words_no refusal z.1

  pub words_order : WordsOrder (words_answer S (length bytes) (length words))
  words_order = words_told (words_answer S (length bytes) (length words)) _ (words_say S bytes words _ refl _ refl)

module _ (S : Size) (words bytes : List ℕ) where
  abbrev BytesOrder : Result (Unit {0}) Refusal → Type 0
  BytesOrder r = BytesGrounds S words bytes (answer_number r) (answer_value r)

  form_no : (refusal : Refusal) → FormNo S (length bytes) (length words) refusal → BytesOrder (Err refusal)
  form_no refusal (by_size n) = inl (n, refl, refl)
  form_no refusal (by_length s n) = inr (s, inl (λ l. n (record { right_size = s; bytes_long = l.0; words_long = l.1 }), refl, refl))

  bytes_no : (refusal : Refusal) → BytesNo S words (length bytes) refusal → BytesOrder (Err refusal)
  bytes_no refusal (by_form n) = form_no refusal n
  bytes_no refusal (by_stray long low) =
      inr (long.right_size, inr ((long.bytes_long, long.words_long), inl (λ none. none _ low.here, refl, low)))

  bytes_told : (r : Result (Unit {0}) Refusal) (after : List ℕ) → BytesSay S words bytes after r → BytesOrder r
  bytes_told (Ok _) after z = inr (z.0.right_size, inr ((z.0.bytes_long, z.0.words_long), inr (fits_no_stray words z.2.fits, (refl, refl))))
  bytes_told (Err refusal) after z = bytes_no refusal z.1

  pub bytes_order : BytesOrder (bytes_answer S words (length bytes))
  bytes_order = bytes_told (bytes_answer S words (length bytes)) _ (bytes_say S words bytes _ refl _ refl)
