-- Ground 7's place, computed. It is slow to compute and never run: the code finds the wire by following readings, and
-- proofs/LoopWireLaws.antt shows that it is this one.
use Rattle.std.specs.Prelude.{Bool, ◌&&◌, ◌||◌, ℕ, zero, suc, eqb}
use Rattle.lists.specs.Search.{first, some_below}
use Rattle.netlist.specs.Graph.{Graph}

-- the equation of w reads d
abbrev pub reads_test : Graph → ℕ → ℕ → Bool
reads_test g w d = some_below (λ j. eqb (g.operand w j) d) (g.arity w)

-- d is read by w, or by a wire that was reached in a round before
unfoldable pub reached : Graph → ℕ → ℕ → ℕ → ℕ → Bool
reached g n zero w d = reads_test g w d
reached g n (suc k) w d = reached g n k w d || some_below (λ m. reached g n k w m && reads_test g m d) n

-- "depending on itself": n rounds and one reach all that can be reached
unfoldable pub loop_at : Graph → ℕ → ℕ → Bool
loop_at g n w = reached g n (suc n) w w

-- "lowest wire depending on itself"; n where there is none
unfoldable pub loop_wire : Graph → ℕ → ℕ
loop_wire g n = first (loop_at g n) 0 n
