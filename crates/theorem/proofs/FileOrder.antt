-- The grounds of reading, measuring and writing an ASCII file in their orders. Main laws: `file_read_order`, `file_length_order`, `file_write_order`.
-- Assumes nothing.
use Rattle.std.specs.Prelude.{Result, Ok, Err}
use Prim.Native.Nat.{ℕ}
use mathlib.Core.Path.{◌≡◌, refl, ap}
use mathlib.Core.Logic.{inl, inr}
use mathlib.Core.List.{List}
use native.Mathlib.Omega.{arith}
use lib.ListN.{length}
use Rattle.lists.proofs.CaseLaws.{clash}
use Rattle.refusal.specs.Grounds.{answer_number, answer_value, number_value}
use Rattle.refusal.specs.Memory.{output}
use Rattle.refusal.specs.declared.Refusal.{Refusal}
use Rattle.refusal.specs.declared.Refusal.TheVariants.{AscLine}
use Rattle.refusal.proofs.GroundsLaws.{unless_cases}
use Rattle.asc.specs.Area.{Area, sized}
use Rattle.asc.specs.Meaning.{ReadNo, by_size, by_length, by_line, AscSays}
use Rattle.asc.specs.Answers.{read_answer, bits_read, write_answer, length_answer}
use Rattle.asc.specs.WriteMeaning as writing
use Rattle.words.proofs.StrayLaws.{fits_no_stray}
use Rattle.asc.proofs.AnswerLaws.{answer_says}
use Rattle.asc.proofs.WriteAnswerLaws.{write_says}
use Rattle.asc.proofs.ExactLaws.{asc_exact}
use Rattle.theorem.specs.FileGrounds.{FileReadGrounds, FileLengthGrounds, FileWriteGrounds}

module _ (a : Area) (text bits : List ℕ) where
  abbrev ReadOrder : Result (Unit {0}) Refusal → Type 0
  ReadOrder r = FileReadGrounds a text bits (answer_number r) (answer_value r)

  read_no : (refusal : Refusal) → ReadNo a text (length bits) refusal → ReadOrder (Err refusal)
  read_no refusal (by_size e) = inl (λ t. clash t e, refl, refl)
  read_no refusal (by_length s n) = inr (s, inl (n, refl, refl))
  read_no refusal (by_line {place} lent line) = inr (
    lent.right_size,
    inr (
      lent.right_length,
      inl (
        λ yes.
            let e = (asc_exact a text bits (bits_read a text) bits (Ok tt) (Err (AscLine place)) (lent, yes) (refl, by_line lent line)).0 in
            let n : ◌≡◌ {A = ℕ} 0 13 = ap answer_number e in
            omega arith,
        refl,
        line,
      ),
    ),
  )

  read_says : (r : Result (Unit {0}) Refusal) → AscSays a text bits (output (answer_number r) bits (bits_read a text)) r → ReadOrder r
  read_says (Ok _) says = inr (says.0.right_size, inr (says.0.right_length, inr (says.1, (refl, refl))))
  read_says (Err refusal) says = read_no refusal says.1

  pub file_read_order : ReadOrder (read_answer a text (length bits))
  file_read_order = read_says (read_answer a text (length bits)) (answer_says a text bits)

module _ (a : Area) where
  abbrev LengthOrder : Result ℕ Refusal → Type 0
  LengthOrder r = FileLengthGrounds a (answer_number r) (number_value r)

  pub file_length_order : LengthOrder (length_answer a)
  unfolding length_answer
  file_length_order = unless_cases LengthOrder (sized a) _ _ (λ e. inl (λ t. clash t e, refl, refl)) (λ e. inr (e, (refl, refl)))

module _ (a : Area) (bits text : List ℕ) where
  abbrev WriteOrder : Result (Unit {0}) Refusal → Type 0
  WriteOrder r = FileWriteGrounds a bits text (answer_number r) (answer_value r)

  write_no : (refusal : Refusal) → writing.WriteNo a bits (length text) refusal → WriteOrder (Err refusal)
  write_no refusal (writing.by_size e) = inl (λ t. clash t e, refl, refl)
  write_no refusal (writing.by_length s n) =
      inr (s, inl (λ l. n (record { right_size = s; bits_long = l.0; text_long = l.1 }), refl, refl))
  write_no refusal (writing.by_stray lent low) =
      inr (lent.right_size, inr ((lent.bits_long, lent.text_long), inl (λ none. none _ low.here, refl, low)))

  write_told : (r : Result (Unit {0}) Refusal) (after : List ℕ) → writing.WriteSays a bits text after r → WriteOrder r
  write_told (Ok _) after z =
      inr (z.0.right_size, inr ((z.0.bits_long, z.0.text_long), inr (fits_no_stray bits z.1, (refl, refl))))
  write_told (Err refusal) after z = write_no refusal z.1

  pub file_write_order : WriteOrder (write_answer a bits (length text))
  file_write_order = write_told (write_answer a bits (length text)) _ (write_says a bits text)
