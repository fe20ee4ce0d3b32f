-- "how many cells are not all zero, how many flip-flops" (document 02, W14): cell c of a block is cell c % 8 of tile c / 8.
use Rattle.std.specs.Prelude.{ℕ, ◌/◌, ◌%◌, Bool, not, ◌&&◌, List, eqb}
use Rattle.equations.specs.Tiles.{table_of, flags_at, flop_on}

-- not all of its twenty bits are zero: neither its table nor its flags
unfoldable pub used_cell : List ℕ → ℕ → Bool
used_cell st c = not (eqb (table_of st (c / 8) (c % 8)) 0 && eqb (flags_at st (c / 8) (c % 8)) 0)

-- its flip-flop is enabled
unfoldable pub flop_cell : List ℕ → ℕ → Bool
flop_cell st c = flop_on st (c / 8) (c % 8)
