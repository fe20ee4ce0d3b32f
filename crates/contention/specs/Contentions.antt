-- "A listing gives every fighting wire with every enabled switch that ends on it" (document 02, W6). `ContentionRow` is what a reader believes; `contentions`
-- computes the rows by wire and switch, and proofs/ContentionLaws.antt shows that they are just these.
use Rattle.std.specs.Prelude.{ℕ, ◌*◌, ◌/◌, ◌%◌, Bool, ◌&&◌, List, [], ◌∷◌, ltb}
use Rattle.lists.specs.Search.{count_below}
use Rattle.lists.specs.Listing.{rows_where}
use Rattle.ports.specs.declared.size.Block.{Block}
use Rattle.ports.specs.Lengths.{ports}
use Rattle.equations.specs.Switches.{tile_of, group_in, switches, Ends, Contention}
use Rattle.equations.specs.WireRows.{ends_on}

-- numbers in a row
abbrev pub row_length : ℕ
row_length = 3

-- "a row of 16-bit wire, tile and group for each such switch": each enabled switch that ends on a wire with two or more, also from one source
pub data ContentionRow (B : Block) (t st : List ℕ) : List ℕ → Type 0 where
  contender : (w s : ℕ) → Contention B t st w → Ends B t st s w → ContentionRow B t st (w ∷ tile_of s ∷ group_in s ∷ [])

-- ---- computed

-- the row of switch s on wire w
unfoldable pub switch_row : ℕ → ℕ → List ℕ
switch_row w s = w ∷ tile_of s ∷ group_in s ∷ []

module _ (B : Block) (t st : List ℕ) where
  -- two or more switches end on wire w
  unfoldable pub contended : ℕ → Bool
  contended w = ltb 1 (count_below (ends_on B t st w) (switches B))

  -- switch s is one of two or more that end on wire w
  unfoldable pub contends : ℕ → ℕ → Bool
  contends w s = contended w && ends_on B t st w s

  -- the same of number x of all pairs of a wire and a switch, by wire
  unfoldable pub contention_at : ℕ → Bool
  contention_at x = contends (x / switches B) (x % switches B)

  unfoldable pub contention_row : ℕ → List ℕ
  contention_row x = switch_row (x / switches B) (x % switches B)

  abbrev pub contention_count : ℕ
  contention_count = count_below contention_at (switches B * ports B)

  abbrev pub contentions : List ℕ
  contentions = rows_where contention_at contention_row (switches B * ports B)
