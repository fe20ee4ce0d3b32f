-- A span along the rows of a block, shown once for every length, offset and crossing f. Main laws: `row_across` (the join in a tile keeps
-- the number), `row_reach` and `near_reach` (each name reaches it).
use Prim.Native.Nat.{ℕ, zero, suc, ◌+◌, ◌-◌, ◌≤◌, ◌<◌}
use mathlib.Core.Path.{◌≡◌, sym, ◌∙◌, ap}
use mathlib.Core.Bool.{true}
use native.Mathlib.Omega.{arith}
use lib.Dec.{leb}
use borrow.Author.Tests.{le-leb, leb-true}
use Rattle.ports.specs.declared.size.Block.{Block}
use Rattle.fabric.specs.declared.span.Span.{Span}
use Rattle.ports.specs.Block.{port}
use Rattle.fabric.specs.Span.{names, Proper}
use Rattle.fabric.specs.Joins.{Join, one, back}
use Rattle.fabric.specs.SpanWire.{ends, row_port, row_wire}
use Rattle.fabric.proofs.WalkLaws.{walk_suc, walk_reach}
use Rattle.fabric.proofs.Reaching.{Reach, reach_refl, reach_trans}

-- a crossing of m names: done twice it gives the name again
pub record Crossing (f : ℕ → ℕ) (m : ℕ) : Type 0 where
  pub twice : (k : ℕ) → k < m → f (f k) ≡ k
  pub keeps : (k : ℕ) → k < m → f k < m

-- the joins of a span along the rows
pub record RowJoins (B : Block) (f : ℕ → ℕ) (s : Span) : Type 0 where
  pub crossing : Crossing f s.through
  pub proper : Proper s
  pub side : (x y k : ℕ) → suc x < B.w → y < B.h → k < names s → Join B (port B x y (s.far + k)) (port B (suc x) y (s.near + k))
  pub across : (x y k : ℕ) → x < B.w → y < B.h → k < s.through → Join B (port B x y (s.near + k)) (port B x y (s.far + (f k + s.shift)))

add_sub : (j s : ℕ) → j + s - s ≡ j
add_sub j s = omega arith

module _ {B : Block} {f : ℕ → ℕ} {s : Span} (J : RowJoins B f s) where
  pub row_across : (x y k : ℕ) → k < s.through → row_wire f s B y x k ≡ row_wire f s B y (suc x) (f k + s.shift)
  row_across x y k h =
      sym (ap (ends (row_port s B y)) (walk_suc _ _ x (f k + s.shift) (le-leb s.shift (f k + s.shift) (omega arith)))
      ∙ ap (λ (j : ℕ). row_wire f s B y x j) (ap f (add_sub (f k) s.shift) ∙ J.crossing.twice k h))

  near_port : (x y k : ℕ) → x < B.w → y < B.h → k < names s → Reach B (port B x y (s.near + k)) (row_port s B y x k)
  near_port zero y k hx hy hk = reach_refl _
  near_port (suc x) y k hx hy hk = record { linked = back (one (J.side x y k hx hy hk)); low = omega (arith, J.proper.in_tile) }

  row_step : (y : ℕ) → y < B.h → (x k : ℕ) → x < B.w → k < names s → leb s.shift k ≡ true
      → (f (k - s.shift) < names s) × Reach B (row_port s B y (suc x) k) (row_port s B y x (f (k - s.shift)))
  row_step y hy x k hx hk t =
      let l : s.shift ≤ k = leb-true s.shift k t in
      let b : k - s.shift < s.through = omega arith in
      let g : f (k - s.shift) < s.through = J.crossing.keeps (k - s.shift) b in
      let e : f (f (k - s.shift)) + s.shift ≡ k = omega (arith, J.crossing.twice (k - s.shift) b) in
      let j : Join B (port B x y (s.near + f (k - s.shift))) (port B x y (s.far + k)) = rw e at (J.across x y (f (k - s.shift)) hx hy g) in
      (omega arith, reach_trans _ _ _ (record { linked = back (one j); low = omega (arith, J.proper.near_first) }) (near_port x y (f (k - s.shift)) hx hy (omega arith)))

  -- the lowest port at an edge, which is the far name where there is a tile to the west
  pub row_reach : (y : ℕ) → y < B.h → (e k : ℕ) → e ≤ B.w → k < names s → Reach B (row_port s B y e k) (row_wire f s B y e k)
  row_reach y hy = walk_reach _ _ (row_port s B y) (Reach B) reach_refl reach_trans (λ k. k < names s) B.w (row_step y hy)

  pub near_reach : (x y k : ℕ) → x < B.w → y < B.h → k < names s → Reach B (port B x y (s.near + k)) (row_wire f s B y x k)
  near_reach x y k hx hy hk = reach_trans _ _ _ (near_port x y k hx hy hk) (row_reach y hy x k (omega arith) hk)
