-- What the two conversions answer, computed. `words_say` and `bytes_say` (proofs/MeaningLaws.antt): it is what specs/Meaning.antt says.
use Rattle.refusal.specs.declared.Refusal.{Refusal}
use Rattle.std.specs.Prelude.{ℕ, ◌&&◌, List, eqb, length, Result, Ok, Err}
use Rattle.ports.specs.declared.size.Size.{Size}
use Rattle.ports.specs.Block.{allowed}
use Rattle.ports.specs.Lengths.{bits_length, bytes_length}
use Rattle.refusal.specs.declared.Refusal.TheVariants.{WrongSize, WrongLength, Undecodable}
use Rattle.refusal.specs.Grounds.{unless}
use Rattle.words.specs.Stray.{first_stray, stray_place}

-- bytes to words: grounds 1, 2; `bytes` and `words` are the lengths lent
unfoldable pub words_answer : Size → ℕ → ℕ → Result (Unit {0}) Refusal
words_answer S bytes words = unless (allowed S) (Err WrongSize) (unless (eqb bytes (bytes_length S) && eqb words (bits_length S)) (Err WrongLength) (Ok tt))

-- words to bytes: grounds 1, 2, 4; `bytes` is the length lent
unfoldable pub bytes_answer : Size → List ℕ → ℕ → Result (Unit {0}) Refusal
bytes_answer S words bytes =
    unless (allowed S) (Err WrongSize)
    (unless (eqb bytes (bytes_length S) && eqb (length words) (bits_length S)) (Err WrongLength)
    (unless (eqb (first_stray words) (length words)) (Err (Undecodable (stray_place (first_stray words)))) (Ok tt)))
