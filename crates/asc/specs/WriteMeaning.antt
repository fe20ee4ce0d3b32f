-- What each answer of `write` says. Document 02, W7: "4 for a set bit in columns 54 to 63, at fault as column 53 of its row; W1's writer gives that one too, after 1
-- and 2". It has no table, so there is no other fault. `write_exact` (proofs/WriteAnswerLaws.antt): it fits one answer only.
use Rattle.std.specs.Prelude.{ℕ, ◌*◌, ◌≡◌, true, false, List, length, Result, Ok, Err}
use Rattle.ports.specs.Lengths.{columns, tile_numbers}
use Rattle.refusal.specs.declared.Refusal.{Refusal}
use Rattle.refusal.specs.declared.Refusal.TheVariants.{WrongSize, WrongLength, Undecodable}
use Rattle.words.specs.Packed.{FitsIn}
use Rattle.words.specs.Stray.{LowestStray}
use Rattle.asc.specs.Area.{Area, tiles_of, sized}
use Rattle.asc.specs.Content.{written, text_length}

-- 1 and 2 are not given: the size, and the lengths of the lent bits and of the room for the text
pub record WriteLent (a : Area) (bits text : ℕ) : Type 0 where
  pub right_size : sized a ≡ true
  pub bits_long : bits ≡ tile_numbers * tiles_of a
  pub text_long : text ≡ text_length a

-- what each no says, `text` being the length of the room: "after 1 and 2"; there is no other
pub data WriteNo (a : Area) (bits : List ℕ) (text : ℕ) : Refusal → Type 0 where
  by_size : sized a ≡ false → WriteNo a bits text WrongSize
  by_length : sized a ≡ true → (WriteLent a (length bits) text → ⊥) → WriteNo a bits text WrongLength
  by_stray : {place : ℕ} → WriteLent a (length bits) text → LowestStray bits place → WriteNo a bits text (Undecodable place)

-- What an answer of `write` says of the bits, `before` and `after` being the room for the text. A yes: "columns 54 to 63 zero", and the file.
abbrev pub WriteSays : Area → List ℕ → List ℕ → List ℕ → Result (Unit {0}) Refusal → Type 0
WriteSays a bits before after (Ok _) = WriteLent a (length bits) (length before) × FitsIn columns bits × (after ≡ written a bits)
WriteSays a bits before after (Err refusal) = (after ≡ before) × WriteNo a bits (length before) refusal
