-- Lines and their words. A line is taken without its line feed; 10 is a line feed, 32 a space.
use Rattle.std.specs.Prelude.{ℕ, ◌<◌, Bool, ◌&&◌, ◌≢◌, List, eqb, length, take, get_or}
use Rattle.lists.specs.Search.{first, all_from}

-- no byte of a line is a line feed
abbrev pub Plain : List ℕ → Type 0
Plain line = (k : ℕ) → k < length line → get_or line k 0 ≢ 10

-- two texts are the same, byte by byte
unfoldable pub same : List ℕ → List ℕ → Bool
same xs ys = eqb (length xs) (length ys) && all_from (λ k. eqb (get_or xs k 0) (get_or ys k 0)) 0 (length xs)

-- "spaces part words": the first word of a line is what stands before its first space
abbrev pub word_length : List ℕ → ℕ
word_length xs = first (λ k. eqb (get_or xs k 0) 32) 0 (length xs)

unfoldable pub word : List ℕ → List ℕ
word xs = take (word_length xs) xs
