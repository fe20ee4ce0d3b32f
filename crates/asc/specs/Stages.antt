-- How the lines of a file follow each other (document 02, W1). A reader believes this file: `Turn` has a constructor for each sentence.
use Rattle.std.specs.Prelude.{ℕ, suc, ◌+◌, ◌*◌, ◌<◌, ◌≤◌, ◌≡◌, Bool, true, false, ◌≢◌, List, [], ◌∷◌, ◌++◌, length, get_or, set}
use Rattle.lists.specs.Tables.{zeros}
use Rattle.texts.specs.Pieces.{line_end, placed}
use Rattle.texts.specs.Lines.{Plain, word}
use Rattle.ports.specs.Lengths.{rows, columns, positions}
use Rattle.asc.specs.Area.{Area, tiles_of}
use Rattle.asc.specs.Spelling.{device_word, device_line, tile_word, tile_line}

-- How far a file has come: whether .device was met; whether a section is being skipped; how many rows of a tile are still due and the position
-- of the next one's first digit; a mark for each tile of the block, 1 once it was given; and the digits, that of position 54r + c of tile t at 864t + 54r + c.
pub data Stage : Type 0 where
  stage : (device skipping : Bool) (left place : ℕ) (given content : List ℕ) → Stage

abbrev pub begun : Area → Stage
begun a = stage false false 0 0 (zeros (tiles_of a)) (zeros (positions * tiles_of a))

-- "tiles outside": X, Y is not in the block
abbrev pub Outside : Area → ℕ → ℕ → Type 0
Outside a X Y = (i j : ℕ) → i < a.w → j < a.h → X ≡ a.x + i → Y ≡ a.y + j → ⊥

-- "54 digits", each 0 or 1
pub record DigitRow (line : List ℕ) : Type 0 where
  pub long : length line ≡ columns
  pub digits : (k : ℕ) → k < columns → (48 ≤ get_or line k 0) × (get_or line k 0 ≤ 49)

-- The lines that are due at a stage, without their line feeds, and the stage that each leads to. While rows are due nothing else is but an empty line.
pub data Turn (a : Area) : Stage → List ℕ → Stage → Type 0 where
  -- "empty lines are passed over"
  empty : {st : Stage} → Turn a st [] st
  -- "Read .device 1k", and not "another or a second device"
  the_device : {k : Bool} {p : ℕ} {g c : List ℕ} → Turn a (stage false k 0 p g c) device_line (stage true false 0 p g c)
  -- ".logic_tile with its two coordinates and sixteen rows", and not "a block tile given twice"; tile (i, j) has index j * W + i, and
  -- a block that `sized` lets pass has its coordinates at most 255
  a_tile : {d k : Bool} {p : ℕ} {g c : List ℕ} {i j : ℕ} → i < a.w → j < a.h → get_or g (j * a.w + i) 0 ≡ 0
      → Turn a (stage d k 0 p g c) (tile_line (a.x + i) (a.y + j)) (stage d false rows (positions * (j * a.w + i)) (set g (j * a.w + i) 1) c)
  -- "sixteen rows of 54 digits, column 0 first"
  a_row : {d k : Bool} {l p : ℕ} {g c line : List ℕ} → DigitRow line → Turn a (stage d k (suc l) p g c) line (stage d k l (p + columns) g (placed p line c))
  -- "tiles outside [..] are skipped up to the next dot line"; "coordinates are [..] 0 to 255"
  outside : {d k : Bool} {p : ℕ} {g c : List ℕ} {X Y : ℕ} → X ≤ 255 → Y ≤ 255 → Outside a X Y → Turn a (stage d k 0 p g c) (tile_line X Y) (stage d true 0 p g c)
  -- "other dot sections are skipped up to the next dot line": which section it is goes by the whole first word
  other : {d k : Bool} {p : ℕ} {g c line : List ℕ} → word (46 ∷ line) ≢ device_word → word (46 ∷ line) ≢ tile_word
      → Turn a (stage d k 0 p g c) (46 ∷ line) (stage d true 0 p g c)
  -- "skipped up to the next dot line": a line that begins with anything but a dot
  skipped : {d : Bool} {p : ℕ} {g c line : List ℕ} {b : ℕ} → b ≢ 46 → Turn a (stage d true 0 p g c) (b ∷ line) (stage d true 0 p g c)

-- "Each line, skipped too, ends in a line feed": so many lines, each in its turn, make up a text and lead to a stage
pub data Begins (a : Area) : List ℕ → ℕ → Stage → Type 0 where
  nothing : Begins a [] 0 (begun a)
  one_more : {front line : List ℕ} {n : ℕ} {st next : Stage} → Begins a front n st → Plain line → Turn a st line next
      → Begins a (front ++ (line ++ line_end)) (suc n) next

-- not "a block tile or .device missing": no row is due, .device was met and every tile of the block was given
pub data Whole (a : Area) : Stage → Type 0 where
  whole : {k : Bool} {p : ℕ} {g c : List ℕ} → ((t : ℕ) → t < tiles_of a → get_or g t 0 ≡ 1) → Whole a (stage true k 0 p g c)
