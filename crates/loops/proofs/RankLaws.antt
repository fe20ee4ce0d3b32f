-- What ranks show: where no wire reads one of a higher rank, among those that are not listed, what a wire depends on is no higher
-- (`ranked_depends`), so that a wire which reads only lower ones does not depend on itself (`lower_no_loop`). A chain of readings that ends at a
-- wire that is not listed passes no listed one (`unlisted_depends`), and a listed wire is on no loop (`Settled`).
use mathlib.Core.Path.{◌≡◌}
use mathlib.Core.Bool.{true}
use mathlib.Core.Logic.{⊎_elim}
use mathlib.Core.List.{List}
use Prim.Native.Nat.{ℕ, ◌<◌, ◌≤◌}
use native.Mathlib.Omega.{arith}
use lib.ListN.{length, get_or}
use Rattle.lists.proofs.CaseLaws.{cases, clash}
use Rattle.netlist.specs.Graph.{Graph, DependsOn, reads, via, Closed, LowestLoop}
use Rattle.netlist.specs.Marks.{listed, Unlisted}
use Rattle.netlist.specs.Order.{Settled}
use Rattle.loops.specs.Ranks.{Ranked, ReadsLower, FirstLevel}
use Rattle.netlist.proofs.MarkLaws.{listed_false, unlisted_zero}

module _ (g : Graph) (old : List ℕ) (settled : Settled g old) where
  settled_depends : {v d : ℕ} → listed old v ≡ true → DependsOn g v d → listed old d ≡ true
  settled_depends h (reads r) = settled.reads_listed _ _ h r
  settled_depends h (via r t) = settled_depends (settled.reads_listed _ _ h r) t

  pub unlisted_depends : {v d : ℕ} → Unlisted old d → DependsOn g v d → Unlisted old v
  unlisted_depends {v} {d} ud dep =
      ⊎_elim (λ t. clash (settled_depends t dep) (listed_false old d ud)) (λ f. unlisted_zero old v f) (cases (listed old v))

  module _ (m : List ℕ) (cl : Closed g (length m)) (ranked : Ranked g old m) where
    ranked_depends : {v d : ℕ} → v < length m → Unlisted old v → Unlisted old d → DependsOn g v d → get_or m d 0 ≤ get_or m v 0
    ranked_depends l uv ud (reads r) = ranked _ _ l uv ud r
    ranked_depends l uv ud (via r h) =
        let um = unlisted_depends ud h in
        let a = ranked _ _ l uv um r in
        let b = ranked_depends (cl.below _ _ r) um ud h in omega arith

    pub lower_no_loop : (v : ℕ) → v < length m → Unlisted old v → ReadsLower g old m v → DependsOn g v v → ⊥
    lower_no_loop v l uv low (reads r) = absurd (let a = low _ uv r in omega arith)
    lower_no_loop v l uv low (via r h) =
        let um = unlisted_depends uv h in
        absurd (let a = low _ um r in let b = ranked_depends (cl.below _ _ r) um uv h in omega arith)

    -- w is the lowest wire that does not read only lower ranks: the place of a loop, if it depends on itself
    module _ (w : ℕ) (at : FirstLevel g old m w) where
      before : (v : ℕ) → v < w → DependsOn g v v → ⊥
      before v l dep =
          ⊎_elim (λ t. settled.no_loop v t dep)
          (λ f. let uv = unlisted_zero old v f in lower_no_loop v (let a = at.within in omega arith) uv (at.before v l uv) dep) (cases (listed old v))

      pub level_loop : DependsOn g w w → LowestLoop g (length m) w
      level_loop dep = record { within = at.within; before = before; here = λ l. dep }

      pub level_none : length m ≤ w → LowestLoop g (length m) w
      level_none le = record { within = at.within; before = before; here = λ l. absurd (omega arith) }
