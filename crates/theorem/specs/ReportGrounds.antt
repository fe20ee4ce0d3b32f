-- The grounds of the report program in their order (document 01, 'Grounds for a no' and 'Frames and one whole run'), over the number of an answer and its
-- place: those of reading the frames (`parse`), and those of a report, which goes on to build what was read.
--   SizeRead == the block frame is read      SmallRead == with W and H of 1 to 3      Taken == every line is in its turn, and none is left over
--   InputGrounds == 11 and 1 as met, before anything is built      LinesGrounds == 3 to 8, and the report of a yes
--   ReportSays == the grounds of a report, and where it says their number and place
use Rattle.refusal.specs.declared.Refusal.{Refusal}
use Rattle.std.specs.Prelude.{ℕ, ◌≡◌, ◌≢◌, List, [], ◌++◌, length, Result, Ok}
use Rattle.ports.specs.declared.size.Block.{Block}
use Rattle.ports.specs.Block.{block, size_of, tiles}
use Rattle.ports.specs.Lengths.{table_length, bytes_length}
use Rattle.texts.specs.Pieces.{Stands}
use Rattle.frames.specs.Frames.{Frame, line, Proper}
use Rattle.words.specs.Forms.{TileBits, tiles_of_bytes}
use Rattle.config.specs.Blocks.{decoded}
use Rattle.frames.specs.Contents.{table_of, bits_of}
use Rattle.frames.specs.Meaning.{with_groups, tiles_left, Turn, Sized, Begins, LineSays, BlockSays}
use Rattle.lines.specs.Lines.{answer_line}
use Rattle.reporting.specs.Report.{accepted_lines}
use Rattle.theorem.specs.Order.{Check, CheckFor, Yes, at0}
use Rattle.theorem.specs.BlockGrounds.{BitsGrounds}

-- "reading the block frame": the lines before it are frames in their turn, and it stands behind them. The block frame is the one that leads from the 03s
-- to the 05s.
pub record SizeRead (s : List ℕ) : Type 0 where
  pub frames : List Frame
  pub at : ℕ
  pub g : ℕ
  pub n : ℕ
  pub frame : Frame
  pub begins : Begins s frames at (with_groups g)
  pub turn : Turn (with_groups g) frame (tiles_left n)
  pub proper : Proper frame
  pub stands : Stands s at (line frame)

-- the opposite of "W or H not 1 to 8 (programs: 1 to 3)", of the block frame that is read
abbrev pub SmallRead : List ℕ → Type 0
SmallRead s = (b : SizeRead s) → Sized b.frame

-- "One 01, one 02, the 03s, one 04, the 05s.": no line is "malformed, out of turn, missing or extra", and table and bits hold what the frames say
pub record Taken (s : List ℕ) : Type 0 where
  pub w : ℕ
  pub h : ℕ
  pub east : ℕ
  pub says : BlockSays s w h east

-- the block, the bytes, the tiles and the settings of the frames that were taken: the bytes stay "at the file edge" (document 02, W7)
abbrev pub block_taken : {s : List ℕ} → Taken s → Block
block_taken x = block x.w x.h x.east

abbrev pub bytes_taken : {s : List ℕ} → Taken s → List ℕ
bytes_taken {s} x = bits_of s (tiles (block_taken x))

abbrev pub tiles_taken : {s : List ℕ} → Taken s → ℕ → TileBits
tiles_taken x = tiles_of_bytes (bytes_taken x)

abbrev pub settings_taken : {s : List ℕ} → Taken s → List ℕ
settings_taken {s} x = decoded (table_of s) (tiles_taken x) (tiles (block_taken x))

-- "Programs give 11 as met, also for a count over its limit, and 1 on reading the block frame": 11 of the lines up to the block frame, then 1, then 11 of
-- the lines behind it. The place of 11 is the "line, from 1 (one past the last if missing)".
abbrev pub InputGrounds : (s : List ℕ) → (Taken s → ℕ → ℕ → Type 0) → ℕ → ℕ → Type 0
InputGrounds s later =
    Check 11 (SizeRead s) (LineSays s)
    (Check 1 (SmallRead s) at0
    (CheckFor 11 (Taken s) (LineSays s) later))

-- reading frames: a yes has W, H and what is said of the column to the east
abbrev pub SizeGiven : {s : List ℕ} → Result Block Refusal → Taken s → ℕ → ℕ → Type 0
SizeGiven answer x = Yes (λ place. (place ≡ 0) × (answer ≡ Ok (block_taken x)))

abbrev pub ParseGrounds : (s : List ℕ) → Result Block Refusal → ℕ → ℕ → Type 0
ParseGrounds s answer = InputGrounds s (SizeGiven answer)

-- a report: a yes has the place 0, and the lines of an accepted block
abbrev pub LinesGiven : {s : List ℕ} → (report : List ℕ) → Taken s → ℕ → Type 0
LinesGiven {s} report x place = (place ≡ 0) × (report ≡ accepted_lines (block_taken x) (table_of s) (settings_taken x))

-- "The report program reads standard input and builds.": 3 to 8 as building gives them. 1 has passed, and 2 is not given (`exact` of `ReportSays`).
abbrev pub LinesGrounds : {s : List ℕ} → (report : List ℕ) → Taken s → ℕ → ℕ → Type 0
LinesGrounds {s} report x = BitsGrounds (block_taken x) (table_of s) (tiles_taken x) (settings_taken x) (LinesGiven report x)

abbrev pub ReportGrounds : (s report : List ℕ) → ℕ → ℕ → Type 0
ReportGrounds s report = InputGrounds s (LinesGrounds report)

-- what a report of the input s says: `report_exact` (proofs/ReportExact.antt) shows that no other report does
pub record ReportSays (s report : List ℕ) : Type 0 where
  pub number : ℕ
  pub place : ℕ
  pub grounds : ReportGrounds s report number place
  -- why 2 is not among them: table and bits have the lengths that building asks for
  pub exact : (x : Taken s) → (length (table_of s) ≡ table_length) × (length (bytes_taken x) ≡ bytes_length (size_of (block_taken x)))
  -- "08 is number and place": the last line says them
  pub before : List ℕ
  pub last_line : report ≡ before ++ answer_line number place
  -- "After a no only the 08 line is printed."
  pub only_line : number ≢ 0 → before ≡ []
