-- What each answer of `read` says, in the paper's words. `asc_exact` (proofs/ExactLaws.antt): it fits one answer only.
use Rattle.std.specs.Prelude.{ℕ, suc, ◌*◌, min, ◌≡◌, true, false, ◌≢◌, List, [], ◌∷◌, ◌++◌, length, Result, Ok, Err}
use Rattle.ports.specs.Lengths.{tile_numbers}
use Rattle.refusal.specs.declared.Refusal.{Refusal}
use Rattle.refusal.specs.declared.Refusal.TheVariants.{WrongSize, WrongLength, AscLine}
use Rattle.texts.specs.Lines.{Plain}
use Rattle.asc.specs.Area.{Area, tiles_of, sized}
use Rattle.asc.specs.Stages.{Stage, stage, Turn, Begins, Whole}
use Rattle.asc.specs.Content.{rows_packed}

-- the digits that have come
abbrev pub content_of : Stage → List ℕ
content_of (stage d k l p g c) = c

-- What is left of a text does not go on: no line that is due stands there, ended ("a line not of the shape due, another or a second device, a block tile given
-- twice"); and where nothing is left, something is missing ("or a block tile or .device missing").
pub record Stuck (a : Area) (st : Stage) (rest : List ℕ) : Type 0 where
  pub none_due : (line behind : List ℕ) (next : Stage) → rest ≡ line ++ (10 ∷ behind) → Plain line → Turn a st line next → ⊥
  pub missing : rest ≡ [] → Whole a st → ⊥

-- so many lines are in order, and no more
pub record StuckSays (a : Area) (s : List ℕ) (n : ℕ) : Type 0 where
  pub front : List ℕ
  pub rest : List ℕ
  pub st : Stage
  pub parts : s ≡ front ++ rest
  pub begins : Begins a front n st
  pub stuck : Stuck a st rest

-- "place the line (one past the last for what is missing)": one more than the lines that are in order, cut at 2^32 - 1
abbrev pub line_number : ℕ → ℕ
line_number n = min (suc n) 4294967295

pub record LineSays (a : Area) (s : List ℕ) (place : ℕ) : Type 0 where
  pub n : ℕ
  pub says : StuckSays a s n
  pub place_is : place ≡ line_number n

-- the whole text is lines in their turn, nothing is missing, and these are the digits
pub record AllSays (a : Area) (s content : List ℕ) : Type 0 where
  pub n : ℕ
  pub st : Stage
  pub begins : Begins a s n st
  pub all_there : Whole a st
  pub digits_are : content_of st ≡ content

-- a yes: the bits are those digits
pub record YesSays (a : Area) (s bits : List ℕ) : Type 0 where
  pub content : List ℕ
  pub all_says : AllSays a s content
  pub bits_are : bits ≡ rows_packed content (tiles_of a)

-- what going through the lines of a text says, with the digits in a room: all is there, or so many lines are in order and no more
abbrev pub ScanSays : Area → List ℕ → Result (Unit {0}) ℕ → List ℕ → Type 0
ScanSays a s (Ok _) content = AllSays a s content
ScanSays a s (Err n) content = StuckSays a s n

-- 1 and 2 are not given: the size, and the length of the lent bits
pub record Lent (a : Area) (bits : ℕ) : Type 0 where
  pub right_size : sized a ≡ true
  pub right_length : bits ≡ tile_numbers * tiles_of a

-- what each no says, `bits` being the length of the lent bits: "13 [..] after 1 and 2, before all others"; there is no other
pub data ReadNo (a : Area) (s : List ℕ) (bits : ℕ) : Refusal → Type 0 where
  by_size : sized a ≡ false → ReadNo a s bits WrongSize
  by_length : sized a ≡ true → bits ≢ tile_numbers * tiles_of a → ReadNo a s bits WrongLength
  by_line : {place : ℕ} → Lent a bits → LineSays a s place → ReadNo a s bits (AscLine place)

-- What an answer of `read` says of the text s, `before` and `after` being the lent bits: "On a refusal the outputs keep their old contents".
abbrev pub AscSays : Area → List ℕ → List ℕ → List ℕ → Result (Unit {0}) Refusal → Type 0
AscSays a s before after (Ok _) = Lent a (length before) × YesSays a s after
AscSays a s before after (Err refusal) = (after ≡ before) × ReadNo a s (length before) refusal
