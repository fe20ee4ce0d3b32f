-- Equations for the wires of a graph: `value x w` is what the equation of w gives when the wires have the values x.
use Rattle.std.specs.Prelude.{◌≡◌, true, List, [], ◌∷◌, ℕ, ◌<◌, get_or, set}
use Rattle.netlist.specs.Graph.{Graph, Reads}

-- every equation holds
abbrev pub Solves : Graph → ℕ → (List ℕ → ℕ → ℕ) → List ℕ → Type 0
Solves g n value x = (w : ℕ) → w < n → g.wire w ≡ true → get_or x w 0 ≡ value x w

-- what an equation gives depends only on the wires that it reads
abbrev pub Local : Graph → (List ℕ → ℕ → ℕ) → Type 0
Local g value = (w : ℕ) (x y : List ℕ) → ((d : ℕ) → Reads g w d → get_or x d 0 ≡ get_or y d 0) → value x w ≡ value y w

-- the wires of a list are given their values, one after another
abbrev pub run_order : (List ℕ → ℕ → ℕ) → List ℕ → List ℕ → List ℕ
run_order value [] x = x
run_order value (w ∷ ws) x = run_order value ws (set x w (value x w))
