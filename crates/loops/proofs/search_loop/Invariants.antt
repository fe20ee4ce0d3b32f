-- `search_loop` meets its contract. Invariant: none below w depends on itself; a listed one does not (`Settled`). Assumes nothing.
use Rattle.netlist.specs.Rows.{graph_of}
use Rattle.netlist.specs.Graph.{DependsOn}
use Prim.Native.Nat.{ℕ, ◌<◌}
use Rattle.loops.proofs.search_loop.Given as goal

abbrev pub invariant-loop-w : goal.invariant-loop-w
invariant-loop-w l = (v : ℕ) → v < l.w → DependsOn (graph_of l.rows) v v → ⊥
