-- The grounds for a no: number and place of each case of `Refusal` (document 01, 'Grounds for a no'; 13 to 16 are those of document 02, W1, W4, W6
-- and W10).
use Rattle.std.specs.Prelude.{ℕ, Bool, true, false, Result, Ok, Err}
use Rattle.refusal.specs.declared.Refusal.{Refusal}
use Rattle.refusal.specs.declared.Refusal.TheVariants.{WrongSize, WrongLength, Table, Undecodable, Contention, DisabledCarry, Loop, CellClock, NoSuchSettings, NotABit, Line, Row, AscLine, SizesDiffer, ListTooShort, Change, OutOfRange}

-- the column 'No.'
abbrev pub number_of : Refusal → ℕ
number_of WrongSize = 1
number_of WrongLength = 2
number_of (Table part) = 3
number_of (Undecodable position) = 4
number_of (Contention wire) = 5
number_of (DisabledCarry wire) = 6
number_of (Loop wire) = 7
number_of (CellClock tile) = 8
number_of (NoSuchSettings tile) = 9
number_of (NotABit index) = 10
number_of (Line line) = 11
number_of (Row row) = 12
number_of (AscLine line) = 13
number_of SizesDiffer = 14
number_of (ListTooShort rows) = 15
number_of (Change line) = 16
number_of (OutOfRange number) = 20

-- the column 'Place'
abbrev pub place_of : Refusal → ℕ
place_of WrongSize = 0
place_of WrongLength = 0
place_of (Table part) = part
place_of (Undecodable position) = position
place_of (Contention wire) = wire
place_of (DisabledCarry wire) = wire
place_of (Loop wire) = wire
place_of (CellClock tile) = tile
place_of (NoSuchSettings tile) = tile
place_of (NotABit index) = index
place_of (Line line) = line
place_of (Row row) = row
place_of (AscLine line) = line
place_of SizesDiffer = 0
place_of (ListTooShort rows) = rows
place_of (Change line) = line
place_of (OutOfRange number) = number

-- "in these orders": one check in a chain of checks. Where the test holds the later checks decide, else this no is the answer.
abbrev pub unless : {A : Type 0} → Bool → A → A → A
unless true refused later = later
unless false refused later = refused

-- The paper's number of an answer, that of the ground and 0 for a yes (frame 08), whatever a yes brings.
abbrev pub answer_number : {A : Type 0} → Result A Refusal → ℕ
answer_number (Ok _) = 0
answer_number (Err refusal) = number_of refusal

-- What comes with it: the place of a no, and 0 for a yes that brings no number (frame 08)
abbrev pub answer_value : {A : Type 0} → Result A Refusal → ℕ
answer_value (Ok _) = 0
answer_value (Err refusal) = place_of refusal

-- the same where a yes brings a number
abbrev pub number_value : Result ℕ Refusal → ℕ
number_value (Ok n) = n
number_value (Err refusal) = place_of refusal
