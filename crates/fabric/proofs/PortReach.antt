-- Every port of a block reaches its computed number. Main law: `reach`; one case for each kind of port in `reach_at`.
use Prim.Native.Nat.{ℕ, zero, suc, ◌/◌, ◌%◌, ◌<◌}
use mathlib.Core.Path.{subst}
use native.Mathlib.Omega.{arith}
use lib.Dec.{ltb, eqb}
use borrow.Author.Tests.{ltb-true, ltb-false, eqb-true}
use Rattle.ports.specs.declared.size.Block.{Block}
use Rattle.ports.specs.declared.Port.{Port}
use Rattle.ports.specs.declared.Port.TheVariants.{Sp4HL, Sp4HR, Sp4VT, Sp4VB, Sp4RVB, Sp12HL, Sp12HR, Sp12VT, Sp12VB, Local, Glb2Local, In, Out, NeighOp, Clk, Cen, SR, GlbNetwk, CarryIn, CarryInMux, Cout, Lout, Ltin}
use Rattle.ports.specs.Block.{port}
use Rattle.ports.specs.Lengths.{ports, ports_per_tile}
use Rattle.ports.specs.PortIndex.{carry_in, cout_port, lout_port, ltin}
use Rattle.ports.specs.Ports.{port_at}
use Rattle.ports.specs.PortNames.{index_of, Within}
use Rattle.fabric.specs.Joins.{one, global, carry_chain_lem, lut_cascade}
use Rattle.fabric.specs.Wire.{wire_of, wire_at, below}
use Rattle.fabric.proofs.Reaching.{Reach, reach_refl, reach_either, reach_if}
use Rattle.ports.proofs.PortLaws.{port_at_back, port_at_within}
use Rattle.ports.proofs.PlaceLaws.{tile_column_lt, tile_row_lt, port_place}
use Rattle.fabric.proofs.RowLaws.{row_reach, near_reach}
use Rattle.fabric.proofs.ColumnLaws.{column_reach, far_reach, foot_footed}
use Rattle.fabric.proofs.SpanLaws.{span4_row_joins, span12_row_joins, span4_column_joins, span12_column_joins, sp4_footed, right_reach, east_reach}
use Rattle.fabric.proofs.OutputLaws.{output_reach}

module _ (B : Block) where
  carry_reach : (x y : ℕ) → x < B.w → y < B.h → Reach B (port B x y carry_in) (below B x y carry_in (cout_port 7))
  carry_reach x zero hx hy = reach_refl _
  carry_reach x (suc y) hx hy = record { linked = one (carry_chain_lem x y hx hy); low = omega arith }

  ltin_reach : (x y : ℕ) → x < B.w → y < B.h → Reach B (port B x y ltin) (below B x y ltin (lout_port 7))
  ltin_reach x zero hx hy = reach_refl _
  ltin_reach x (suc y) hx hy = record { linked = one (lut_cascade x y hx hy); low = omega arith }

  reach_at : (x y : ℕ) → x < B.w → y < B.h → (P : Port) → Within P → Reach B (port B x y (index_of P)) (wire_at B x y P)
  unfolding wire_at
  reach_at x y hx hy (Sp4HL k) h = near_reach (span4_row_joins B) x y k hx hy h
  reach_at x y hx hy (Sp4HR k) h = row_reach (span4_row_joins B) y hy (suc x) k hx h
  reach_at x y hx hy (Sp4VT k) h = column_reach (span4_column_joins B) x hx (sp4_footed B x hx) (suc y) k hy h
  reach_at x y hx hy (Sp4VB k) h = far_reach (span4_column_joins B) x hx (sp4_footed B x hx) y k hy h
  reach_at x y hx hy (Sp4RVB k) h =
      reach_either _ _ _ (ltb (suc x) B.w) (λ t. right_reach B x y k (ltb-true _ _ t) hy h) (λ t.
      reach_if _ _ (eqb B.east 1) (λ u. east_reach B x y k (eqb-true _ _ u) (omega (arith, ltb-false (suc x) B.w t)) hy h))
  reach_at x y hx hy (Sp12HL k) h = near_reach (span12_row_joins B) x y k hx hy h
  reach_at x y hx hy (Sp12HR k) h = row_reach (span12_row_joins B) y hy (suc x) k hx h
  reach_at x y hx hy (Sp12VT k) h = column_reach (span12_column_joins B) x hx (foot_footed (span12_column_joins B) x hx) (suc y) k hy h
  reach_at x y hx hy (Sp12VB k) h = far_reach (span12_column_joins B) x hx (foot_footed (span12_column_joins B) x hx) y k hy h
  reach_at x y hx hy (Local k) h = reach_refl _
  reach_at x y hx hy (Glb2Local k) h = reach_refl _
  reach_at x y hx hy (In i j) h = reach_refl _
  reach_at x y hx hy (Out i) h = output_reach B i h x y 1 1 (omega arith) (omega arith) hx hy
  reach_at x y hx hy (NeighOp dx dy i) h = output_reach B i h.i_lt x y dx dy h.dx_lt h.dy_lt hx hy
  reach_at x y hx hy Clk h = reach_refl _
  reach_at x y hx hy Cen h = reach_refl _
  reach_at x y hx hy SR h = reach_refl _
  reach_at x y hx hy (GlbNetwk n) h = record { linked = one (global x y 0 0 n hx hy (omega arith) (omega arith) h); low = omega arith }
  reach_at x y hx hy CarryIn h = carry_reach x y hx hy
  reach_at x y hx hy CarryInMux h = reach_refl _
  reach_at x y hx hy (Cout i) h = reach_refl _
  reach_at x y hx hy (Lout i) h = reach_refl _
  reach_at x y hx hy Ltin h = ltin_reach x y hx hy

  pub reach : (p : ℕ) → p < ports B → Reach B p (wire_of B p)
  unfolding wire_of
  reach p h =
      let x = p / ports_per_tile % B.w in
      let y = p / ports_per_tile / B.w in
      let q = p % ports_per_tile in
      let hq : p % ports_per_tile < ports_per_tile = omega arith in
      subst (λ (r : ℕ). Reach B r (wire_at B x y (port_at q))) (port_place B p h)
      (rw (port_at_back q hq) at (reach_at x y (tile_column_lt B p h) (tile_row_lt B p h) (port_at q) (port_at_within q hq)))
