-- The frames that are read, as document 01 gives them, and the line of each ('Frames and one whole run'; document 02, W2).
use Rattle.ports.specs.Lengths.{tile_bytes}
use Rattle.std.specs.Prelude.{ℕ, ◌<◌, ◌≤◌, ◌≡◌, List, [], ◌∷◌, ◌++◌, length, get_or}
use Rattle.texts.specs.Each.{each, Each}
use Rattle.texts.specs.Hex.{two, four}
use Rattle.texts.specs.Pieces.{line_end}

-- "entries of pattern and source"
pub record Entry : Type 0 where
  pub pattern : ℕ
  pub source : ℕ

-- "destination, position count, positions, entry count, entries": the counts are those of the lists
pub record Group : Type 0 where
  pub destination : ℕ
  pub positions : List ℕ
  pub entries : List Entry

-- "01 fields; 02 count, passive positions; 03 [..]; 04 W, H; 05 a tile"
pub data Frame : Type 0 where
  -- "01 fields": the positions of the three
  fields : (a b c : ℕ) → Frame
  -- "02 count, passive positions"
  passives : (positions : List ℕ) → Frame
  -- "03 destination, position count, positions, entry count, entries"
  group : (x : Group) → Frame
  -- "04 W, H", and W2: "The block frame gains a byte": the bytes that stand behind W and H
  size : (w h : ℕ) (extra : List ℕ) → Frame
  -- "05 a tile": its bytes
  tile : (bytes : List ℕ) → Frame

-- "Ports, wires, positions, tables and places are 4 digits [..], the rest 2."
abbrev pub entry_digits : Entry → List ℕ
entry_digits e = two e.pattern ++ four e.source

-- the digits of a frame, its number first
abbrev pub digits : Frame → List ℕ
digits (fields a b c) = two 1 ++ each four (a ∷ b ∷ c ∷ [])
digits (passives positions) = two 2 ++ (two (length positions) ++ each four positions)
digits (group x) =
    two 3
    ++ (four x.destination ++ (two (length x.positions) ++ (each four x.positions ++ (two (length x.entries) ++ each entry_digits x.entries))))
digits (size w h extra) = two 4 ++ (two w ++ (two h ++ each two extra))
digits (tile bytes) = two 5 ++ each two bytes

-- "one frame a line, every line ended"
abbrev pub line : Frame → List ℕ
line f = digits f ++ line_end

-- a number that fits its digits
abbrev pub Fits2 : ℕ → Type 0
Fits2 x = x < 256

abbrev pub Fits4 : ℕ → Type 0
Fits4 x = x < 65536

abbrev pub EntryFits : Entry → Type 0
EntryFits e = Fits2 e.pattern × Fits4 e.source

-- the numbers of a group fit their digits, and its counts keep to their limits
pub record GroupFits (x : Group) : Type 0 where
  pub destination_fits : Fits4 x.destination
  pub positions_few : length x.positions ≤ 8
  pub positions_fit : Each Fits4 x.positions
  pub entries_few : length x.entries ≤ 32
  pub entries_fit : Each EntryFits x.entries

-- W2: "a byte, 01 for such an east column, else 00 or left out"; "another byte is 11"
pub record ExtraFits (extra : List ℕ) : Type 0 where
  pub few : length extra ≤ 1
  pub bits : Each (λ (b : ℕ). b < 2) extra

-- what it says of the column to the east: 1 for logic or RAM
abbrev pub east_of : List ℕ → ℕ
east_of extra = get_or extra 0 0

-- The numbers fit their digits, and no count is over its limit. A count of 0 is well formed here, and breaks a rule of the table (ground 3).
abbrev pub Proper : Frame → Type 0
Proper (fields a b c) = Each Fits4 (a ∷ b ∷ c ∷ [])
Proper (passives positions) = (length positions ≤ 64) × Each Fits4 positions
Proper (group x) = GroupFits x
Proper (size w h extra) = Fits2 w × Fits2 h × ExtraFits extra
Proper (tile bytes) = (length bytes ≡ tile_bytes) × Each Fits2 bytes
