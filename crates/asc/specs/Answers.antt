-- What `read`, `write` and `text_length` answer, computed. `read_told` (proofs/AnswerLaws.antt): of `read` it is what specs/Meaning.antt says. `write_told`
-- (proofs/WriteAnswerLaws.antt): of `write` it is what specs/WriteMeaning.antt says.
use Rattle.refusal.specs.declared.Refusal.{Refusal}
use Rattle.std.specs.Prelude.{ℕ, suc, ◌*◌, cond, ◌&&◌, List, [], ◌∷◌, ◌++◌, eqb, length, Result, Ok, Err}
use Rattle.ports.specs.Lengths.{tile_numbers}
use Rattle.refusal.specs.declared.Refusal.TheVariants.{WrongSize, WrongLength, Undecodable, AscLine}
use Rattle.refusal.specs.Grounds.{unless}
use Rattle.words.specs.Stray.{first_stray, stray_place}
use Rattle.asc.specs.Area.{Area, tiles_of, sized}
use Rattle.asc.specs.Stages.{Stage, begun}
use Rattle.asc.specs.Next.{Next, goes, fault, next_of, is_whole}
use Rattle.asc.specs.Content.{rows_packed, text_length}
use Rattle.asc.specs.Meaning.{content_of, line_number}

-- ---- reading: grounds 1, 2, 13, in this order

-- what the lines of a text come to: all is there, with these digits; or so many are in order and no more
pub data Outcome : Type 0 where
  complete : (content : List ℕ) → Outcome
  stuck_after : (n : ℕ) → Outcome

abbrev pub after_line : Next → (Stage → Outcome) → Outcome → Outcome
after_line (goes st) later stuck = later st
after_line fault later stuck = stuck

-- the end of a text, with the line that has begun and is not ended
abbrev pub at_end : Area → Stage → ℕ → List ℕ → Outcome
at_end a st n [] = cond (is_whole a st) (complete (content_of st)) (stuck_after n)
at_end a st n (b ∷ line) = stuck_after n

-- the text byte by byte, with the line that has begun, behind n lines that led to a stage
unfoldable pub outcome : Area → Stage → ℕ → List ℕ → List ℕ → Outcome
outcome a st n line [] = at_end a st n line
outcome a st n line (b ∷ rest) =
    cond (eqb b 10)
    (after_line (next_of a st line) (λ (next : Stage). outcome a next (suc n) [] rest) (stuck_after n))
    (outcome a st n (line ++ (b ∷ [])) rest)

abbrev pub outcome_of : Area → List ℕ → Outcome
outcome_of a s = outcome a (begun a) 0 [] s

abbrev pub outcome_answer : Outcome → Result (Unit {0}) Refusal
outcome_answer (complete content) = (Ok tt)
outcome_answer (stuck_after n) = Err (AscLine (line_number n))

abbrev pub outcome_bits : Area → Outcome → List ℕ
outcome_bits a (complete content) = rows_packed content (tiles_of a)
outcome_bits a (stuck_after n) = []

-- `bits` is the length of the lent bits
unfoldable pub read_answer : Area → List ℕ → ℕ → Result (Unit {0}) Refusal
read_answer a s bits = unless (sized a) (Err WrongSize) (unless (eqb bits (tile_numbers * tiles_of a)) (Err WrongLength) (outcome_answer (outcome_of a s)))

-- the bits that a yes writes
unfoldable pub bits_read : Area → List ℕ → List ℕ
bits_read a s = outcome_bits a (outcome_of a s)

-- ---- writing: grounds 1, 2, 4, in this order; `text` is the length of the room

unfoldable pub write_answer : Area → List ℕ → ℕ → Result (Unit {0}) Refusal
write_answer a bits text =
    unless (sized a) (Err WrongSize)
    (unless (eqb (length bits) (tile_numbers * tiles_of a) && eqb text (text_length a)) (Err WrongLength)
    (unless (eqb (first_stray bits) (length bits)) (Err (Undecodable (stray_place (first_stray bits)))) (Ok tt)))

unfoldable pub length_answer : Area → Result ℕ Refusal
length_answer a = unless (sized a) (Err WrongSize) (Ok (text_length a))
