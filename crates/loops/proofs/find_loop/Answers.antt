-- `find_loop` meets its contract: the lowest wire that is not listed and reads one of its own rank, where the ranks are right and it
-- depends on itself; else the one that the search from each wire gives. Assumes nothing.
use Rattle.loops.proofs.RankLaws.{level_loop, level_none}
use Rattle.netlist.specs.Graph.{Closed, LowestLoop}
use Rattle.netlist.specs.Rows.{graph_of}
use lib.ListN.{length}
use native.Mathlib.Omega.{arith}
use mathlib.Core.Path.{◌≡◌, sym, subst}
use Prim.Native.Nat.{ℕ}
use Rattle.loops.proofs.find_loop.Goals.{After-rank_wires}
use Rattle.loops.proofs.find_loop.Goals as goal

-- once the wires are ranked
long : (c : After-rank_wires) → length c.rank_wires.new.marks ≡ length c.args.marks.now
long c = omega arith

closed : (c : After-rank_wires) → Closed (graph_of c.args.rows.now) (length c.rank_wires.new.marks)
closed c = subst (λ (k : ℕ). Closed (graph_of c.args.rows.now) k) (sym (long c)) c.requires.closed

-- no wire reads one of its own rank: none depends on itself
pub returns-in_err-w : goal.returns-in_err-w
returns-in_err-w c =
    let o = (goal.at.returns-in_err-w c).After-rank_wires in
    let n = length c.rank_wires.new.marks in
    rw c.from_residual.ensures
    (subst (λ (k : ℕ). LowestLoop (graph_of c.args.rows.now) k k) (long o)
    (level_none _ c.args.listed.now c.requires.listed_len.1 c.rank_wires.new.marks (closed o)
    (c.is_ranked.ensures c.if-is_ranked.true) n c.in_err-w.ensures (omega arith)))

-- the lowest wire that reads one of its own rank depends on itself
pub returns-then-depends_on_itself : goal.returns-then-depends_on_itself
returns-then-depends_on_itself c =
    let o = (goal.at.returns-then-depends_on_itself c).After-rank_wires in
    let w = c.in_ok-w.w in (
      let l = c.in_ok-w.ensures.0 in omega arith,
      subst (λ (k : ℕ). LowestLoop (graph_of c.args.rows.now) k w) (long o)
          (level_loop _ c.args.listed.now c.requires.listed_len.1 c.rank_wires.new.marks (closed o)
          (c.is_ranked.ensures c.if-is_ranked.true) w c.in_ok-w.ensures.1
          (c.depends_on_itself.ensures.yes c.if-depends_on_itself.true)),
    )
