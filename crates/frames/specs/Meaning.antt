-- What each answer to an input says, in the paper's words. `parsed_says` (proofs/MeaningLaws.antt) shows it of every input, and `parsed_exact`
-- (proofs/ExactLaws.antt) that it fits no other answer.
use Rattle.ports.specs.declared.size.Block.{Block}
use Rattle.std.specs.Prelude.{ℕ, suc, ◌+◌, ◌*◌, ◌<◌, ◌≡◌, ◌≢◌, List, [], ◌∷◌, ◌++◌, length, Result, Ok, Err}
use Rattle.refusal.specs.declared.Refusal.{Refusal}
use Rattle.refusal.specs.declared.Refusal.TheVariants.{WrongSize, Line}
use Rattle.texts.specs.Pieces.{Stands}
use Rattle.frames.specs.Frames.{Group, Frame, fields, passives, group, size, tile, line, Proper, east_of}
use Rattle.frames.specs.Whole.{Input, Small, Whole, Holds, flat}
use Rattle.frames.specs.Contents.{table_of, bits_of}

-- how far an input has come: no frame yet; the fields; the passive list and g groups; the size, with so many tiles to come
pub data Stage : Type 0 where
  begun : Stage
  with_fields : Stage
  with_groups : (g : ℕ) → Stage
  tiles_left : (n : ℕ) → Stage

-- "One 01, one 02, the 03s, one 04, the 05s.": the frames that are due at a stage, and the stage that each leads to
pub data Turn : Stage → Frame → Stage → Type 0 where
  the_fields : {a b c : ℕ} → Turn begun (fields a b c) with_fields
  the_passives : {positions : List ℕ} → Turn with_fields (passives positions) (with_groups 0)
  -- "at most 512 groups", and "11 [..] also for a count over its limit"
  a_group : {g : ℕ} {x : Group} → g < 512 → Turn (with_groups g) (group x) (with_groups (suc g))
  the_size : {g w h : ℕ} {extra : List ℕ} → Turn (with_groups g) (size w h extra) (tiles_left (h * w))
  a_tile : {n : ℕ} {bytes : List ℕ} → Turn (tiles_left (suc n)) (tile bytes) (tiles_left n)

-- the opposite of "W or H not 1 to 8 (programs: 1 to 3)"; other frames have no size
abbrev pub Sized : Frame → Type 0
Sized (fields a b c) = Unit {0}
Sized (passives positions) = Unit {0}
Sized (group x) = Unit {0}
Sized (size w h extra) = Small w h
Sized (tile bytes) = Unit {0}

-- the first lines of s, up to position `at`, are these frames, each in its turn, and lead to a stage
pub data Begins (s : List ℕ) : List Frame → ℕ → Stage → Type 0 where
  nothing : Begins s [] 0 begun
  one_more : {fs : List Frame} {at : ℕ} {stage next : Stage} {f : Frame} → Begins s fs at stage → Turn stage f next → Proper f → Sized f → Stands s at (line f)
      → Begins s (fs ++ (f ∷ [])) (at + length (line f)) next

-- What stands there is no frame that is due: "malformed, out of turn, missing"; and where none is due, something stands there: "extra".
pub record Stuck (s : List ℕ) (at : ℕ) (stage : Stage) : Type 0 where
  pub none_due : (f : Frame) (next : Stage) → Turn stage f next → Proper f → Stands s at (line f) → ⊥
  pub not_whole : stage ≡ tiles_left 0 → at ≢ length s

-- "line, from 1 (one past the last if missing)": one more than the lines that are in order
pub record LineSays (s : List ℕ) (n : ℕ) : Type 0 where
  pub frames : List Frame
  pub at : ℕ
  pub stage : Stage
  pub begins : Begins s frames at stage
  pub stuck : Stuck s at stage
  pub place : n ≡ length frames + 1

-- "1 on reading the block frame"
pub record SizeSays (s : List ℕ) : Type 0 where
  pub frames : List Frame
  pub at : ℕ
  pub g : ℕ
  pub w : ℕ
  pub h : ℕ
  pub extra : List ℕ
  pub begins : Begins s frames at (with_groups g)
  pub proper : Proper (size w h extra)
  pub stands : Stands s at (line (size w h extra))
  pub not_small : Small w h → ⊥

-- a yes: s is the text of a whole input, and table and bits hold what its frames say
pub record BlockSays (s : List ℕ) (w h e : ℕ) : Type 0 where
  pub input : Input
  pub whole : Whole s input
  pub w_is : input.w ≡ w
  pub h_is : input.h ≡ h
  pub east_is : east_of input.extra ≡ e
  pub table : Holds (table_of s) input
  pub bits : bits_of s (h * w) ≡ flat input.tiles

-- what each no says; no other ground is given
pub data ParsedNo (s : List ℕ) : Refusal → Type 0 where
  wrong_size : SizeSays s → ParsedNo s WrongSize
  bad_line : (n : ℕ) → LineSays s n → ParsedNo s (Line n)

-- what an answer to an input says
abbrev pub ParsedSays : List ℕ → Result Block Refusal → Type 0
ParsedSays s (Ok b) = BlockSays s b.w b.h b.east
ParsedSays s (Err refusal) = ParsedNo s refusal
