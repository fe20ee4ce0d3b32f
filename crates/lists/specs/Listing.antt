-- Listings: rows of k numbers, laid end to end in one lent list, with zeros behind them (document 02, W4, W6, W14). `Lists` is what a reader
-- believes. `rows_where` and `zero_filled` compute such a list, and `rows_listed` of proofs/ListingLaws.antt shows that they do.
use Rattle.std.specs.Prelude.{ℕ, zero, suc, ◌-◌, ◌*◌, ◌<◌, ◌≤◌, ◌≡◌, Bool, cond, List, [], ◌∷◌, ◌++◌, length, get_or}
use Rattle.lists.specs.Tables.{zeros}
use Rattle.lists.specs.Parts.{part}

-- "in order of [..], then [..]": one row stands before another by the first number in which they differ
pub data Precedes : List ℕ → List ℕ → Type 0 where
  here : {a b : ℕ} {r s : List ℕ} → a < b → Precedes (a ∷ r) (b ∷ s)
  later : {a : ℕ} {r s : List ℕ} → Precedes r s → Precedes (a ∷ r) (a ∷ s)

-- a lent list holds, in rows of k numbers, everything that is asked for, "each once and nothing else, in order"; `count` is how many:
-- "The answer counts the rows; the rest of the list is zeros."
pub record Lists (Is : List ℕ → Type 0) (k : ℕ) (list : List ℕ) (count : ℕ) : Type 0 where
  pub room : k * count ≤ length list
  pub only : (i : ℕ) → i < count → Is (part k i list)
  pub every : (row : List ℕ) → Is row → (i : ℕ) × (i < count) × (part k i list ≡ row)
  pub rising : (i j : ℕ) → i < j → j < count → Precedes (part k i list) (part k j list)
  pub rest : (m : ℕ) → k * count ≤ m → get_or list m 0 ≡ 0

-- the rows of the numbers below n that pass a test, in their order
unfoldable pub rows_where : (ℕ → Bool) → (ℕ → List ℕ) → ℕ → List ℕ
rows_where p row zero = []
rows_where p row (suc n) = rows_where p row n ++ cond (p n) (row n) []

-- rows in a list of n numbers
unfoldable pub zero_filled : ℕ → List ℕ → List ℕ
zero_filled n rows = rows ++ zeros (n - length rows)
