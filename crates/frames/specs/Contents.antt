-- What the frames of an input say, laid out as the lent routing table and the block's bits (docs/API.md). Places that a frame leaves unused are 0.
use Rattle.ports.specs.Lengths.{tile_bytes}
use Rattle.std.specs.Prelude.{ℕ, ◌+◌, ◌-◌, ◌*◌, ◌/◌, ◌%◌, cond, List, ◌++◌, eqb, ltb}
use Rattle.lists.specs.Tables.{tabulate, zeros}
use Rattle.lists.specs.Parts.{joined}
use Rattle.texts.specs.Hex.{pair_at, quad_at}
use Rattle.frames.specs.Lines.{passive_count, position_count, entry_count}
use Rattle.frames.specs.Input.{group_at, group_count, tile_at}

-- the numbers before the groups: the fields, the passive count and 64 positions, the group count
unfoldable pub head_number : List ℕ → ℕ → ℕ
head_number s k =
    cond (ltb k 3) (quad_at s (2 + 4 * k))
    (cond (eqb k 3) (passive_count s)
    (cond (ltb k 68) (cond (ltb (k - 4) (passive_count s)) (quad_at s (19 + 4 * (k - 4))) 0)
    (group_count s)))

-- the 75 numbers of a group: destination, position count, 8 positions, entry count, 32 of pattern and source
unfoldable pub entry_number : List ℕ → ℕ → ℕ → ℕ
entry_number s at e = cond (eqb (e % 2) 0) (pair_at s (at + 6 * (e / 2))) (quad_at s (at + 6 * (e / 2) + 2))

unfoldable pub group_number : List ℕ → ℕ → ℕ → ℕ
group_number s at k =
    cond (eqb k 0) (quad_at s (at + 2))
    (cond (eqb k 1) (position_count s at)
    (cond (ltb k 10) (cond (ltb (k - 2) (position_count s at)) (quad_at s (at + 8 + 4 * (k - 2))) 0)
    (cond (eqb k 10) (entry_count s at)
    (cond (ltb ((k - 11) / 2) (entry_count s at)) (entry_number s (at + 10 + 4 * position_count s at) (k - 11)) 0))))

abbrev pub group_numbers : List ℕ → ℕ → List ℕ
group_numbers s g = cond (ltb g (group_count s)) (tabulate (group_number s (group_at s g)) 0 75) (zeros 75)

-- the routing table
unfoldable pub table_of : List ℕ → List ℕ
table_of s = tabulate (head_number s) 0 69 ++ joined (group_numbers s) 512

-- byte j of tile t, and the bits of n tiles
abbrev pub bytes_of_tile : List ℕ → ℕ → List ℕ
bytes_of_tile s t = tabulate (λ j. pair_at s (tile_at s t + 2 + 2 * j)) 0 tile_bytes

unfoldable pub bits_of : List ℕ → ℕ → List ℕ
bits_of s n = joined (bytes_of_tile s) n
