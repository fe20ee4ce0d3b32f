-- The lines that a report prints: "06 is driven wire and source wire of each enabled switch [..]; 07 is tile, cell, table, flags [..]; 08 is number
-- and place." Ports, wires, tables and places are 4 digits, the rest 2.
use Rattle.std.specs.Prelude.{ℕ, min, List, ◌++◌}
use Rattle.texts.specs.Hex.{two, four}
use Rattle.texts.specs.Pieces.{line_end}

-- the lines 06 and 07
abbrev pub switch_line : ℕ → ℕ → List ℕ
switch_line wire source = two 6 ++ (four wire ++ (four source ++ line_end))

abbrev pub cell_line : ℕ → ℕ → ℕ → ℕ → List ℕ
cell_line tile cell table flags = two 7 ++ (two tile ++ (two cell ++ (four table ++ (two flags ++ line_end))))

-- "a place above FFFF is FFFF"
abbrev pub answer_line : ℕ → ℕ → List ℕ
answer_line number place = two 8 ++ (two number ++ (four (min place 65535) ++ line_end))
