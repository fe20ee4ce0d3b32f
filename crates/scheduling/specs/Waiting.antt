-- Who waits while the order is made. "The next row is always that of the lowest-numbered wire not yet listed whose dependencies all are": a
-- wire that was looked at and is not ready waits for the first wire that it reads and that is not listed, and is looked at again once that
-- one is. The mark of a listed wire is 1. The mark of any other is k + 2, with k the wire that came last to wait for it, or 0 if none
-- waits. `links` continues in the same way: at a wire that waits it has the one that came before it to wait for the same.
use Rattle.std.specs.Prelude.{◌≡◌, Bool, false, ◌⊎◌, ◌≢◌, List, [], ◌∷◌, ℕ, ◌+◌, ◌<◌, length, get_or}
use Rattle.netlist.specs.Graph.{Graph}
use Rattle.netlist.specs.Rows.{operand_of, arity_of}
use Rattle.netlist.specs.declared.row.Row.{Row}

-- k is one of a list
abbrev pub Among : ℕ → List ℕ → Type 0
Among k [] = ⊥
Among k (x ∷ xs) = (k ≡ x) ⊎ Among k xs

-- from a mark on the links lead through these wires, each once, and end
abbrev pub Chain : List ℕ → ℕ → List ℕ → Type 0
Chain links mark [] = mark ≡ 0
Chain links mark (k ∷ ks) = (mark ≡ k + 2) × ((Among k ks → ⊥) × Chain links (get_or links k 0) ks)

-- d is the first that k reads and that is not listed
pub record Stuck (g : Graph) (marks : List ℕ) (k d : ℕ) : Type 0 where
  pub place : ℕ
  pub within : place < g.arity k
  pub here : g.operand k place ≡ d
  pub before : (j : ℕ) → j < place → get_or marks (g.operand k j) 0 ≡ 1
  pub new : get_or marks d 0 ≢ 1

-- the same by k's row, in its own words
pub record StuckRow (row : Row) (marks : List ℕ) (d : ℕ) : Type 0 where
  pub place : ℕ
  pub within : place < arity_of row
  pub here : d ≡ operand_of row place
  pub before : (j : ℕ) → j < place → get_or marks (operand_of row j) 0 ≡ 1
  pub new : get_or marks d 0 ≢ 1

-- why k need not be looked at: it is no wire, or listed, or waits for one that is not listed
pub data Idle (g : Graph) (n : ℕ) (marks links : List ℕ) (k : ℕ) : Type 0 where
  no_wire : g.wire k ≡ false → Idle g n marks links k
  done : get_or marks k 0 ≡ 1 → Idle g n marks links k
  waits : (d : ℕ) (ks : List ℕ) → d < n → get_or marks d 0 ≢ 1 → Chain links (get_or marks d 0) ks → Among k ks → Idle g n marks links k

-- every wire below n is due to be looked at or idle, and those that wait for d are on its chain: they are not due, and d is where they are stuck
pub record Watched (g : Graph) (n : ℕ) (marks links : List ℕ) (due : ℕ → Bool) : Type 0 where
  pub long : length marks ≡ n
  pub linked : length links ≡ n
  pub chains : (d : ℕ) → d < n → get_or marks d 0 ≢ 1
      → (ks : List ℕ) × (Chain links (get_or marks d 0) ks × ((k : ℕ) → Among k ks → (k < n) × ((due k ≡ false) × Stuck g marks k d)))
  pub idle : (k : ℕ) → k < n → due k ≡ false → Idle g n marks links k
