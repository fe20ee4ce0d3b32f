-- Lists given by a function of the index.
use Rattle.std.specs.Prelude.{ℕ, zero, suc, ◌≤◌, ◌<◌, ◌≡◌, List, [], ◌∷◌, length, get_or, replicate}

-- f at the n numbers from i on
unfoldable pub tabulate : {A : Type 0} → (ℕ → A) → ℕ → ℕ → List A
tabulate f i zero = []
tabulate f i (suc n) = f i ∷ tabulate f (suc i) n

-- n zeros
abbrev pub zeros : ℕ → List ℕ
zeros n = replicate n 0

-- a list of n elements of which the first i are f's; d stands for what is past the end
pub record Filled {A : Type 0} (f : ℕ → A) (d : A) (n i : ℕ) (xs : List A) : Type 0 where
  pub upto : i ≤ n
  pub long : length xs ≡ n
  pub filled : (k : ℕ) → k < i → get_or xs k d ≡ f k
