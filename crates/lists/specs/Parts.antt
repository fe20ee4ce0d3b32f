-- A list as parts of one length, one after another: the tiles of a block.
use Rattle.std.specs.Prelude.{ℕ, zero, suc, ◌*◌, List, [], ◌++◌, take, drop}

-- part t of the parts of length k
abbrev pub part : ℕ → ℕ → List ℕ → List ℕ
part k t xs = take k (drop (k * t) xs)

-- the first n parts that f gives, joined
unfoldable pub joined : (ℕ → List ℕ) → ℕ → List ℕ
joined f zero = []
joined f (suc n) = joined f n ++ f n
