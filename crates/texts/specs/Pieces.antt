-- Pieces of a text: the end of a line, what stands at a position, and a piece put in at one.
use Rattle.std.specs.Prelude.{ℕ, ◌+◌, ◌≡◌, List, [], ◌∷◌, ◌++◌, length, take, drop}

-- "every line ended": a line feed
abbrev pub line_end : List ℕ
line_end = 10 ∷ []

-- xs stands in s at position `at`
abbrev pub Stands : List ℕ → ℕ → List ℕ → Type 0
Stands s at xs = take (length xs) (drop at s) ≡ xs

-- a text with xs put in at position `at`
abbrev pub placed : ℕ → List ℕ → List ℕ → List ℕ
placed at xs out = take at out ++ (xs ++ drop (at + length xs) out)
