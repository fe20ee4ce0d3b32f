-- The lines 06 and 07 of an accepted block.
use Rattle.std.specs.Prelude.{ℕ, ◌*◌, ◌/◌, ◌%◌, ◌-◌, cond, ◌&&◌, List, [], eqb, get_or}
use Rattle.lists.specs.Parts.{joined}
use Rattle.equations.specs.Tiles.{table_of, flags_at}
use Rattle.lines.specs.Lines.{switch_line, cell_line}

-- "06 is driven wire and source wire of each enabled switch, rising by the first". An accepted block has at most one switch to a wire, so there is
-- a line for each wire with a switch; `sources` has one more than the wire that it comes from (reporting/proofs/SwitchLaws.antt: a line for each switch).
abbrev pub switch_part : List ℕ → ℕ → List ℕ
switch_part sources w = cond (eqb (get_or sources w 0) 0) [] (switch_line w (get_or sources w 0 - 1))

-- those of the first n ports
abbrev pub switch_lines : List ℕ → ℕ → List ℕ
switch_lines sources n = joined (switch_part sources) n

-- "07 is tile, cell, table, flags (1 carry, 2 flip-flop, 4 set, 8 asynchronous) of cells not all zero", by tile, then cell
abbrev pub cell_part : List ℕ → ℕ → List ℕ
cell_part st c =
    cond (eqb (table_of st (c / 8) (c % 8)) 0 && eqb (flags_at st (c / 8) (c % 8)) 0)
    []
    (cell_line (c / 8) (c % 8) (table_of st (c / 8) (c % 8)) (flags_at st (c / 8) (c % 8)))

abbrev pub cell_lines : List ℕ → ℕ → List ℕ
cell_lines st n = joined (cell_part st) (8 * n)
