-- The order of the rows (document 01, 'The list and a step'). The marks change by one listed wire at a time, so one turn of the code that
-- lists is one unfolding.
use Rattle.std.specs.Prelude.{◌≡◌, Bool, true, not, cond, ◌&&◌, List, [], ◌∷◌, ℕ, zero, suc, ◌<◌, ltb, set}
use Rattle.lists.specs.Search.{first, all_from}
use Rattle.lists.specs.Tables.{zeros}
use Rattle.netlist.specs.Graph.{Graph, Reads, DependsOn}
use Rattle.netlist.specs.Marks.{listed, marks_after}

-- a "wire not yet listed whose dependencies all are"
unfoldable pub ready : Graph → List ℕ → ℕ → Bool
ready g marks w = g.wire w && (not (listed marks w) && all_from (λ j. listed marks (g.operand w j)) 0 (g.arity w))

-- "the lowest-numbered" such wire; n where there is none
unfoldable pub next : Graph → ℕ → List ℕ → ℕ
next g n marks = first (ready g marks) 0 n

-- "The next row is always that of the lowest-numbered wire not yet listed whose dependencies all are."
-- The next k wires: fewer where none is ready.
unfoldable pub order_from : Graph → ℕ → ℕ → List ℕ → List ℕ
order_from g n zero marks = []
order_from g n (suc k) marks = cond (ltb (next g n marks) n) (next g n marks ∷ order_from g n k (set marks (next g n marks) 1)) []

-- all of them, and the marks at the end
unfoldable pub order : Graph → ℕ → List ℕ
order g n = order_from g n n (zeros n)

unfoldable pub order_marks : Graph → ℕ → List ℕ
order_marks g n = marks_after (zeros n) (order g n)

-- the order has every wire
abbrev pub AllListed : Graph → ℕ → Type 0
AllListed g n = (w : ℕ) → w < n → g.wire w ≡ true → listed (order_marks g n) w ≡ true

-- why the search for a loop need not look at the wires that are marked: they read only marked ones, and none depends on itself
pub record Settled (g : Graph) (marks : List ℕ) : Type 0 where
  pub reads_listed : (w d : ℕ) → listed marks w ≡ true → Reads g w d → listed marks d ≡ true
  pub no_loop : (w : ℕ) → listed marks w ≡ true → DependsOn g w w → ⊥
