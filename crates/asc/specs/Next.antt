-- What a line leads to, computed: the tests in the order in which the code makes them. `turn_next` and `next_turn` (proofs/NextLaws.antt, proofs/TurnLaws.antt):
-- exactly `Turn`.
use Rattle.std.specs.Prelude.{ℕ, zero, suc, ◌+◌, ◌-◌, ◌*◌, Bool, true, false, cond, ◌&&◌, not, List, [], ◌∷◌, eqb, leb, ltb, get_or, set, Option, Some, None}
use Rattle.lists.specs.Search.{all_from}
use Rattle.texts.specs.Pieces.{placed}
use Rattle.texts.specs.Lines.{same, word}
use Rattle.ports.specs.Lengths.{rows, columns, positions}
use Rattle.asc.specs.Area.{Area, tiles_of}
use Rattle.asc.specs.Spelling.{device_word, device_line, tile_word, line_x, line_y, is_tile_line, is_row}
use Rattle.asc.specs.Stages.{Stage, stage}
use Rattle.asc.specs.declared.turn.Scan.{Scan}

pub data Next : Type 0 where
  goes : Stage → Next
  fault : Next

-- X, Y is in the block
unfoldable pub inside : Area → ℕ → ℕ → Bool
inside a X Y = leb a.x X && (ltb X (a.x + a.w) && (leb a.y Y && ltb Y (a.y + a.h)))

-- the index of the tile at X, Y
abbrev pub tile_at : Area → ℕ → ℕ → ℕ
tile_at a X Y = (Y - a.y) * a.w + (X - a.x)

-- a good tile line
unfoldable pub tile_next : Area → Bool → Bool → ℕ → List ℕ → List ℕ → ℕ → ℕ → Next
tile_next a d k p g c X Y =
    cond (inside a X Y)
    (cond (eqb (get_or g (tile_at a X Y) 0) 0) (goes (stage d false rows (positions * tile_at a X Y) (set g (tile_at a X Y) 1) c)) fault)
    (goes (stage d true 0 p g c))

-- a line whose first word is .device
unfoldable pub device_next : Bool → ℕ → List ℕ → List ℕ → List ℕ → Next
device_next d p g c line = cond (same line device_line && not d) (goes (stage true false 0 p g c)) fault

-- a line whose first byte is a dot
unfoldable pub dot_next : Area → Bool → Bool → ℕ → List ℕ → List ℕ → List ℕ → Next
dot_next a d k p g c line =
    cond (same (word line) device_word)
    (device_next d p g c line)
    (cond (same (word line) tile_word)
    (cond (is_tile_line line) (tile_next a d k p g c (line_x line) (line_y line)) fault)
    (goes (stage d true 0 p g c)))

-- a line where a row is due; l are due behind it
unfoldable pub row_next : Bool → Bool → ℕ → ℕ → List ℕ → List ℕ → List ℕ → Next
row_next d k l p g c line = cond (is_row line) (goes (stage d k l (p + columns) g (placed p line c))) fault

-- a line that is not empty
abbrev pub line_next : Area → Stage → List ℕ → Next
line_next a (stage d k zero p g c) line =
    cond (eqb (get_or line 0 0) 46) (dot_next a d k p g c line) (cond k (goes (stage d k zero p g c)) fault)
line_next a (stage d k (suc l) p g c) line = row_next d k l p g c line

unfoldable pub next_of : Area → Stage → List ℕ → Next
next_of a st [] = goes st
next_of a st (b ∷ line) = line_next a st (b ∷ line)

-- nothing is missing (`Whole`)
unfoldable pub is_whole : Area → Stage → Bool
is_whole a (stage d k l p g c) = d && (eqb l 0 && all_from (λ t. eqb (get_or g t 0) 1) 0 (tiles_of a))

-- ---- as the code has them

abbrev pub stage_of : Scan → List ℕ → List ℕ → Stage
stage_of s g c = stage s.device s.skipping s.left s.place g c

abbrev pub turned_to : Option Scan → List ℕ → List ℕ → Next
turned_to (Some s) g c = goes (stage_of s g c)
turned_to None g c = fault
