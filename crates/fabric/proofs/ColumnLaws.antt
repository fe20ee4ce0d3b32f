-- A span along the columns of a block, shown once for every length, offset and crossing f, and for what stands at the south rim.
-- Main laws: `column_across`, `column_reach`, `far_reach`; `edge_reach` for a column outside, of which the block has one name a row.
use Prim.Native.Nat.{ℕ, zero, suc, ◌+◌, ◌-◌, ◌≤◌, ◌<◌}
use mathlib.Core.Path.{◌≡◌, refl, ap}
use mathlib.Core.Bool.{Bool, true, false, cond}
use native.Mathlib.Omega.{arith}
use lib.Dec.{leb, ltb}
use borrow.Author.Tests.{lt-ltb, ltb-true, le-leb, leb-true}
use Rattle.ports.specs.declared.size.Block.{Block}
use Rattle.fabric.specs.declared.span.Span.{Span}
use Rattle.ports.specs.Block.{port}
use Rattle.fabric.specs.Span.{names, Proper, southward}
use Rattle.fabric.specs.Joins.{Join, one, back, on}
use Rattle.fabric.specs.SpanWire.{ends, column_port, column_wire, foot}
use Rattle.fabric.proofs.WalkLaws.{walk_suc, walk_reach}
use Rattle.fabric.proofs.Reaching.{Reach, reach_refl, reach_trans}
use Rattle.fabric.proofs.RowLaws.{Crossing}

-- the joins of a span along the columns
pub record ColumnJoins (B : Block) (f : ℕ → ℕ) (s : Span) : Type 0 where
  pub crossing : Crossing f s.through
  pub proper : Proper s
  pub side : (x y k : ℕ) → x < B.w → suc y < B.h → k < names s → Join B (port B x (suc y) (s.far + k)) (port B x y (s.near + k))
  pub across : (x y k : ℕ) → x < B.w → y < B.h → k < s.through → Join B (port B x y (s.near + k)) (port B x y (s.far + (f k + s.shift)))

-- rim gives the lowest port of the wires at the south rim of column x
pub record Footed (B : Block) (f : ℕ → ℕ) (s : Span) (x : ℕ) (rim : ℕ → ℕ) : Type 0 where
  pub far_rim : 0 < B.h → (k : ℕ) → k < names s → Reach B (port B x 0 (s.far + k)) (rim k)
  pub rim_near : (k : ℕ) → k < s.through → rim (f k + s.shift) ≤ port B x 0 (s.near + k)

module _ {B : Block} {f : ℕ → ℕ} {s : Span} (J : ColumnJoins B f s) (x : ℕ) (hx : x < B.w) where
  foot_far : 0 < B.h → (k : ℕ) → k < names s → Reach B (port B x 0 (s.far + k)) (foot f s B x k)
  foot_far hy k hk = go (leb s.shift k) refl
    where
      go : (t : Bool) → leb s.shift k ≡ t
          → Reach B (port B x 0 (s.far + k)) (cond t (port B x 0 (s.near + f (k - s.shift))) (port B x 0 (s.far + k)))
      go true t =
          let l : s.shift ≤ k = leb-true s.shift k t in
          let b : k - s.shift < s.through = omega arith in
          let g : f (k - s.shift) < s.through = J.crossing.keeps (k - s.shift) b in
          let e : f (f (k - s.shift)) + s.shift ≡ k = omega (arith, J.crossing.twice (k - s.shift) b) in
          record { linked = back (rw e at (one (J.across x 0 (f (k - s.shift)) hx hy g))); low = omega (arith, J.proper.near_first) }
      go false t = reach_refl _

  -- the column's own names at the rim
  pub foot_footed : Footed B f s x (foot f s B x)
  foot_footed = record {
    far_rim = foot_far;
    rim_near = λ k hk.
        let e : f k + s.shift - s.shift ≡ f k = omega arith in
        rw (le-leb s.shift (f k + s.shift) (omega arith), e, J.crossing.twice k hk) (omega arith);
  }

  pub column_across : (rim : ℕ → ℕ) (y k : ℕ) → k < s.through → column_wire f rim s B x (suc y) k ≡ column_wire f rim s B x y (f k + s.shift)
  column_across rim y k h = ap (ends (column_port rim s B x)) (walk_suc _ _ y k (lt-ltb k s.through h))

  module _ {rim : ℕ → ℕ} (F : Footed B f s x rim) where
    far_port : (y k : ℕ) → y < B.h → k < names s → Reach B (port B x y (s.far + k)) (column_port rim s B x y k)
    far_port zero k hy hk = F.far_rim hy k hk
    far_port (suc y) k hy hk = record { linked = one (J.side x y k hx hy hk); low = omega (arith, J.proper.near_first) }

    step_low : (y k : ℕ) → k < s.through → f k < s.through → column_port rim s B x y (f k + s.shift) ≤ port B x y (s.near + k)
    step_low zero k l g = F.rim_near k l
    step_low (suc y) k l g = omega (arith, J.proper.near_first, J.proper.in_tile)

    column_step : (y k : ℕ) → y < B.h → k < names s → ltb k s.through ≡ true
        → (f k + s.shift < names s) × Reach B (column_port rim s B x (suc y) k) (column_port rim s B x y (f k + s.shift))
    column_step y k hy hk t =
        let l : k < s.through = ltb-true k s.through t in
        let g : f k < s.through = J.crossing.keeps k l in
        (omega arith, record { linked = on (one (J.across x y k hx hy l)) (far_port y (f k + s.shift) hy (omega arith)).linked; low = step_low y k l g })

    -- the lowest port at an edge, which is the near name where there is a tile to the south
    pub column_reach : (e k : ℕ) → e ≤ B.h → k < names s → Reach B (column_port rim s B x e k) (column_wire f rim s B x e k)
    column_reach = walk_reach _ _ (column_port rim s B x) (Reach B) reach_refl reach_trans (λ k. k < names s) B.h column_step

    pub far_reach : (y k : ℕ) → y < B.h → k < names s → Reach B (port B x y (s.far + k)) (column_wire f rim s B x y k)
    far_reach y k hy hk = reach_trans _ _ _ (far_port y k hy hk) (column_reach y k (omega arith) hk)

-- ---- a column outside the block, of which each row has one name for each wire: `start y` is the port of name 0 in row y

pub record EdgeJoins (B : Block) (f : ℕ → ℕ) (s : Span) (start : ℕ → ℕ) : Type 0 where
  pub crossing : Crossing f s.through
  pub rises : (y : ℕ) → suc y < B.h → start y + names s ≤ start (suc y)
  pub across : (y k : ℕ) → suc y < B.h → k < s.through → Join B (start (suc y) + k) (start y + (f k + s.shift))

module _ {B : Block} {f : ℕ → ℕ} {s : Span} {start : ℕ → ℕ} (J : EdgeJoins B f s start) (y : ℕ) (hy : y < B.h) where
  edge_step : (e k : ℕ) → e < y → k < names s → ltb k s.through ≡ true
      → (f k + s.shift < names s) × Reach B (start (suc e) + k) (start e + (f k + s.shift))
  edge_step e k he hk t =
      let l : k < s.through = ltb-true k s.through t in
      let g : f k < s.through = J.crossing.keeps k l in
      (omega arith, record { linked = one (J.across e k (omega arith) l); low = omega (arith, J.rises e (omega arith)) })

  pub edge_reach : (k : ℕ) → k < names s → Reach B (start y + k) (ends (λ (e j : ℕ). start e + j) (southward f s y k))
  edge_reach k hk = walk_reach _ _ (λ (e j : ℕ). start e + j) (Reach B) reach_refl reach_trans (λ j. j < names s) y edge_step y k (omega arith) hk
