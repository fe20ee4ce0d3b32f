-- Bits past a row's columns. Document 02, W7: "4 for a set bit in columns 54 to 63, at fault as column 53 of its row".
use Rattle.std.specs.Prelude.{ℕ, ◌+◌, ◌*◌, ◌<◌, ◌≤◌, ◌≡◌, List, length, get_or}
use Rattle.lists.specs.Search.{first}
use Rattle.digits.specs.Digits.{digit}
use Rattle.ports.specs.Lengths.{rows, columns}
use Rattle.words.specs.Forms.{past_columns}

-- row i of a block, which is row i % 16 of tile i / 16, has a set bit from column 54 on
pub record Stray (words : List ℕ) (i : ℕ) : Type 0 where
  pub column : ℕ
  pub beyond : columns ≤ column
  pub set : digit (get_or words i 0) column ≡ 1

-- the lowest such row of a block, and its place: "864 times the tile plus" 54r + 53
pub record LowestStray (words : List ℕ) (place : ℕ) : Type 0 where
  pub tile : ℕ
  pub row : ℕ
  pub in_tile : row < rows
  pub here : Stray words (rows * tile + row)
  pub lowest : (i : ℕ) → i < rows * tile + row → Stray words i → ⊥
  pub is_place : place ≡ rows * columns * tile + (columns * row + 53)

-- computed: the first such row, as many as there are rows where none is; and its place, over the whole block
abbrev pub first_stray : List ℕ → ℕ
first_stray words = first (past_columns words) 0 (length words)

abbrev pub stray_place : ℕ → ℕ
stray_place i = columns * i + 53
