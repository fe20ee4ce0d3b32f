-- The numbers of a card (document 02, W14). `Card` is what a reader believes; `card_numbers` computes them, and proofs/CardLaws.antt shows that it does.
use Rattle.std.specs.Prelude.{ℕ, ◌+◌, ◌*◌, ◌≤◌, ◌≡◌, List, [], ◌∷◌, ◌++◌, length, get_or, take, drop}
use Rattle.lists.specs.Search.{count_below}
use Rattle.lists.specs.Listing.{Lists, rows_where}
use Rattle.ports.specs.declared.size.Block.{Block}
use Rattle.ports.specs.Block.{tiles}
use Rattle.netlist.specs.Marks.{listed}
use Rattle.card.specs.Cells.{used_cell, flop_cell}
use Rattle.card.specs.Leaving.{LeavingWire}
use Rattle.card.specs.Feeding.{FeedingWire}
use Rattle.card.specs.Marks.{leaving_marks, feeding_marks}

-- a wire of some kind, as a row of one number
pub data Wire (Is : ℕ → Type 0) : List ℕ → Type 0 where
  wire : (w : ℕ) → Is w → Wire Is (w ∷ [])

-- "W, H, how many cells are not all zero, how many flip-flops, leaving wires, and open wires [..], each of the two lists after its count, the rest zeros",
-- "Wires rise by number, each once". `numbers` is how many numbers that are, without the rest.
pub record Card (B : Block) (t st card : List ℕ) (numbers : ℕ) : Type 0 where
  pub width : get_or card 0 0 ≡ B.w
  pub height : get_or card 1 0 ≡ B.h
  pub cells : get_or card 2 0 ≡ count_below (used_cell st) (8 * tiles B)
  pub flip_flops : get_or card 3 0 ≡ count_below (flop_cell st) (8 * tiles B)
  -- how many leaving wires, and how many feeding ones
  pub leaving : ℕ
  pub feeding : ℕ
  pub leaving_count : get_or card 4 0 ≡ leaving
  pub leaving_wires : Lists (Wire (LeavingWire B t st)) 1 (take leaving (drop 5 card)) leaving
  pub feeding_count : get_or card (5 + leaving) 0 ≡ feeding
  -- and the rest zeros
  pub feeding_wires : Lists (Wire (FeedingWire B t st)) 1 (drop (6 + leaving) card) feeding
  pub numbers_are : numbers ≡ 6 + leaving + feeding
  pub room : numbers ≤ length card

-- ---- computed

-- the row of one wire
abbrev pub wire_row : ℕ → List ℕ
wire_row w = w ∷ []

-- the marked wires, and how many they are
abbrev pub marked : List ℕ → List ℕ
marked m = rows_where (listed m) wire_row (length m)

abbrev pub marked_count : List ℕ → ℕ
marked_count m = count_below (listed m) (length m)

-- the numbers of a card with these marks
unfoldable pub numbers_of : Block → (cells flops : ℕ) → (leaving feeding : List ℕ) → List ℕ
numbers_of B cells flops leaving feeding =
    B.w ∷ B.h ∷ cells ∷ flops ∷ marked_count leaving ∷ (marked leaving ++ (marked_count feeding ∷ marked feeding))

-- "the numbers needed"
unfoldable pub needed : (leaving feeding : List ℕ) → ℕ
needed leaving feeding = 6 + marked_count leaving + marked_count feeding

abbrev pub card_numbers : Block → (t st : List ℕ) → List ℕ
card_numbers B t st =
    numbers_of B (count_below (used_cell st) (8 * tiles B)) (count_below (flop_cell st) (8 * tiles B)) (leaving_marks B t st) (feeding_marks B t st)

abbrev pub card_length : Block → (t st : List ℕ) → ℕ
card_length B t st = needed (leaving_marks B t st) (feeding_marks B t st)
