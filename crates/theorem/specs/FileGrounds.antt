-- The grounds of reading, measuring and writing an ASCII file in their orders (document 02, W1), over the number of an answer and what comes with it.
use Rattle.std.specs.Prelude.{ℕ, ◌*◌, ◌≡◌, true, List, length}
use Rattle.ports.specs.Lengths.{tile_numbers}
use Rattle.words.specs.Stray.{LowestStray}
use Rattle.asc.specs.Area.{Area, sized, tiles_of}
use Rattle.asc.specs.Content.{text_length}
use Rattle.asc.specs.Meaning.{YesSays, LineSays}
use Rattle.asc.specs.Answers.{bits_read}
use Rattle.theorem.specs.Order.{Check, Yes, at, at0}
use Rattle.theorem.specs.FormGrounds.{NoStray}

-- "13 [..] place the line [..], after 1 and 2, before all others"
abbrev pub FileReadGrounds : Area → (text bits : List ℕ) → ℕ → ℕ → Type 0
FileReadGrounds a text bits =
    Check 1 (sized a ≡ true) at0
    (Check 2 (length bits ≡ tile_numbers * tiles_of a) at0
    (Check 13 (YesSays a text (bits_read a text)) (LineSays a text)
    (Yes at0)))

-- how many bytes a file has: 1 alone
abbrev pub FileLengthGrounds : Area → ℕ → ℕ → Type 0
FileLengthGrounds a =
    Check 1 (sized a ≡ true) at0
    (Yes (at (text_length a)))

-- writing a file: 1 and 2, and "W1's writer gives that one too, after 1 and 2", 4 for a set bit past a row's columns (document 02, W7)
abbrev pub FileWriteGrounds : Area → (bits text : List ℕ) → ℕ → ℕ → Type 0
FileWriteGrounds a bits text =
    Check 1 (sized a ≡ true) at0
    (Check 2 ((length bits ≡ tile_numbers * tiles_of a) × (length text ≡ text_length a)) at0
    (Check 4 (NoStray bits) (LowestStray bits)
    (Yes at0)))
