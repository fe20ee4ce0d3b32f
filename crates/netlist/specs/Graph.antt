-- What a list of equations reads: which indices are wires, how many wires the equation of each reads, and which.
-- It leaves out what the equations compute.
use Rattle.std.specs.Prelude.{◌≡◌, Bool, true, ℕ, ◌<◌, ◌≤◌}

pub record Graph : Type 0 where
  pub wire : ℕ → Bool
  pub arity : ℕ → ℕ
  pub operand : ℕ → ℕ → ℕ

-- "A wire depends on those its equation reads, by structure, even where a table ignores an input"
abbrev pub Reads : Graph → ℕ → ℕ → Type 0
Reads g w d = (j : ℕ) × (j < g.arity w) × (g.operand w j ≡ d)

-- "and on itself where a chain of such readings, one or more, leads back to it"
pub data DependsOn (g : Graph) : ℕ → ℕ → Type 0 where
  reads : {w d : ℕ} → Reads g w d → DependsOn g w d
  via : {w m d : ℕ} → Reads g w m → DependsOn g m d → DependsOn g w d

-- every operand is a wire below n
pub record Closed (g : Graph) (n : ℕ) : Type 0 where
  pub below : (w d : ℕ) → Reads g w d → d < n
  pub wires : (w d : ℕ) → Reads g w d → g.wire d ≡ true

-- ground 7's place, "lowest wire depending on itself"; n where there is none
pub record LowestLoop (g : Graph) (n r : ℕ) : Type 0 where
  pub within : r ≤ n
  pub before : (v : ℕ) → v < r → DependsOn g v v → ⊥
  pub here : r < n → DependsOn g r r
