-- A cell's settings and their flags as one number (document 01, 'Cells' and frame 07: "flags (1 carry, 2 flip-flop, 4 set, 8 asynchronous)").
use Rattle.std.specs.Prelude.{ℕ, ◌+◌, cond}
use Rattle.cell.specs.declared.logic.Cell.{Cell}
use Rattle.digits.specs.Digits.{is_set}

-- the cell with this table and these flags
abbrev pub cell_of : ℕ → ℕ → Cell
cell_of table flags = record {
  table = table;
  carry = is_set flags 0;
  flipflop = is_set flags 1;
  set = is_set flags 2;
  asynchronous = is_set flags 3;
}

abbrev pub flags_of : Cell → ℕ
flags_of c = cond c.carry 1 0 + cond c.flipflop 2 0 + cond c.set 4 0 + cond c.asynchronous 8 0
