-- Each published join keeps the computed number (`join_same`) and stays in the block (`join_within`); so does a chain of them.
use Prim.Native.Nat.{ℕ, suc, ◌+◌, ◌<◌}
use mathlib.Core.Path.{◌≡◌, refl, sym, ◌∙◌, ap, ap₂}
use mathlib.Core.Logic.{◌↔◌}
use native.Mathlib.Omega.{arith}
use native.Mathlib.Numerals.{add-one}
use borrow.Author.Tests.{lt-ltb, le-ltb, eq-eqb}
use Rattle.ports.specs.declared.size.Block.{Block}
use Rattle.ports.specs.declared.Port.TheVariants.{Sp4HL, Sp4HR, Sp4VT, Sp4VB, Sp4RVB, Sp12HL, Sp12HR, Sp12VT, Sp12VB, Out, NeighOp, GlbNetwk, CarryIn, Cout, Lout, Ltin}
use Rattle.ports.specs.Block.{port}
use Rattle.ports.specs.Lengths.{ports}
use Rattle.ports.specs.PortIndex.{out_port, sp4_rvb}
use Rattle.fabric.specs.Span.{flip}
use Rattle.fabric.specs.Joins.{Join, Linked, same, one, back, on, sp4_h_side, sp4_h_in, sp4_v_side, sp4_v_in, sp4_right, sp12_h_side, sp12_h_in, sp12_v_side, sp12_v_in, Sees, neigh, beyond, east_in, global, carry_chain_lem, lut_cascade}
use Rattle.fabric.specs.SpanWire.{ends, sp4_foot, east_port, east_wire}
use Rattle.fabric.specs.OutputWire.{first_output}
use Rattle.fabric.specs.Wire.{wire_of, wire_at}
use Rattle.fabric.proofs.FlipLaws.{flip_lt}
use Rattle.fabric.proofs.WalkLaws.{walk_suc}
use Rattle.ports.proofs.PlaceLaws.{port_lt}
use Rattle.fabric.proofs.PlaceLaws.{wire_name}
use Rattle.fabric.proofs.RowLaws.{row_across}
use Rattle.fabric.proofs.ColumnLaws.{column_across}
use Rattle.fabric.proofs.SpanLaws.{span4_row_joins, span12_row_joins, span4_column_joins, span12_column_joins}
use Rattle.fabric.proofs.NeighbourLaws.{output_at_lt, sees_seen}

-- a crossing's partner is a name again
partner4 : (k : ℕ) → k < 36 → flip k + 12 < 48
partner4 k h = omega (arith, flip_lt 36 refl h)

partner12 : (k : ℕ) → k < 22 → flip k + 2 < 24
partner12 k h = omega (arith, flip_lt 22 refl h)

module _ (B : Block) where
  -- a name for output i of the tile (X - 1, Y - 1)
  sees_wire : {p X Y i : ℕ} → Sees B p X Y i → wire_of B p ≡ first_output B X Y i
  unfolding wire_at
  sees_wire {p} {X} {Y} {i} s =
      let v = sees_seen B s in
      ap (wire_of B) v.is
      ∙ wire_name B v.x v.y (NeighOp v.dx v.dy i) v.x_lt (omega (arith, output_at_lt v.dx v.dy i v.named.i_lt)) v.named
      ∙ ap₂ (λ (X Y : ℕ). first_output B X Y i) v.column v.row

  -- a tile's own out
  out_wire : (x y i : ℕ) → x < B.w → i < 8 → wire_of B (port B x y (out_port i)) ≡ first_output B (suc x) (suc y) i
  unfolding wire_at
  out_wire x y i hx hi = wire_name B x y (Out i) hx (omega arith) hi ∙ ap₂ (λ (X Y : ℕ). first_output B X Y i) (add-one x) (add-one y)

  east_wire_lem : (x y k : ℕ) → B.east ≡ 1 → suc x ≡ B.w → k < 48 → wire_of B (port B x y (sp4_rvb k)) ≡ east_wire B x y k
  unfolding wire_at
  east_wire_lem x y k t e hk =
      wire_name B x y (Sp4RVB k) (omega arith) (omega arith) hk ∙ rw (le-ltb (suc x) B.w (omega arith), eq-eqb B.east 1 t)

  pub join_same : {p q : ℕ} → Join B p q → wire_of B p ≡ wire_of B q
  unfolding wire_at
  join_same (sp4_h_side x y k hx hy hk) =
      wire_name B x y (Sp4HR k) (omega arith) (omega arith) hk ∙ sym (wire_name B (suc x) y (Sp4HL k) hx (omega arith) hk)
  join_same (sp4_h_in x y k hx hy hk) =
      let l = partner4 k hk in
      wire_name B x y (Sp4HL k) hx (omega arith) (omega arith) ∙ row_across (span4_row_joins B) x y k hk
      ∙ sym (wire_name B x y (Sp4HR (flip k + 12)) hx (omega arith) l)
  join_same (sp4_v_side x y k hx hy hk) =
      wire_name B x (suc y) (Sp4VB k) hx (omega arith) hk ∙ sym (wire_name B x y (Sp4VT k) hx (omega arith) hk)
  join_same (sp4_v_in x y k hx hy hk) =
      let l = partner4 k hk in
      wire_name B x y (Sp4VT k) hx (omega arith) (omega arith) ∙ column_across (span4_column_joins B) x hx (sp4_foot B x) y k hk
      ∙ sym (wire_name B x y (Sp4VB (flip k + 12)) hx (omega arith) l)
  join_same (sp4_right x y k hx hy hk) =
      wire_name B x y (Sp4RVB k) (omega arith) (omega arith) hk
      ∙ rw (lt-ltb (suc x) B.w hx) (sym (wire_name B (suc x) y (Sp4VB k) hx (omega arith) hk))
  join_same (sp12_h_side x y k hx hy hk) =
      wire_name B x y (Sp12HR k) (omega arith) (omega arith) hk ∙ sym (wire_name B (suc x) y (Sp12HL k) hx (omega arith) hk)
  join_same (sp12_h_in x y k hx hy hk) =
      let l = partner12 k hk in
      wire_name B x y (Sp12HL k) hx (omega arith) (omega arith) ∙ row_across (span12_row_joins B) x y k hk
      ∙ sym (wire_name B x y (Sp12HR (flip k + 2)) hx (omega arith) l)
  join_same (sp12_v_side x y k hx hy hk) =
      wire_name B x (suc y) (Sp12VB k) hx (omega arith) hk ∙ sym (wire_name B x y (Sp12VT k) hx (omega arith) hk)
  join_same (sp12_v_in x y k hx hy hk) =
      let l = partner12 k hk in
      wire_name B x y (Sp12VT k) hx (omega arith) (omega arith) ∙ column_across (span12_column_joins B) x hx _ y k hk
      ∙ sym (wire_name B x y (Sp12VB (flip k + 2)) hx (omega arith) l)
  join_same (east_in x y k t e hy hk) =
      east_wire_lem x (suc y) k t e (omega arith) ∙ ap (ends (east_port B x)) (walk_suc _ _ y k (lt-ltb k 36 hk))
      ∙ sym (east_wire_lem x y (flip k + 12) t e (partner4 k hk))
  join_same (neigh x y i hx hy s) = sees_wire s ∙ sym (out_wire x y i hx (sees_seen B s).named.i_lt)
  join_same (beyond X Y i out s t) = sees_wire s ∙ sym (sees_wire t)
  join_same (global x y x' y' n hx hy hx' hy' hn) = wire_name B x y (GlbNetwk n) hx (omega arith) hn ∙ sym (wire_name B x' y' (GlbNetwk n) hx' (omega arith) hn)
  join_same (carry_chain_lem x y hx hy) = wire_name B x (suc y) CarryIn hx (omega arith) tt ∙ sym (wire_name B x y (Cout 7) hx (omega arith) (omega arith))
  join_same (lut_cascade x y hx hy) = wire_name B x (suc y) Ltin hx (omega arith) tt ∙ sym (wire_name B x y (Lout 7) hx (omega arith) (omega arith))

  pub linked_same : {p q : ℕ} → Linked B p q → wire_of B p ≡ wire_of B q
  linked_same same = refl
  linked_same (one j) = join_same j
  linked_same (back l) = sym (linked_same l)
  linked_same (on l m) = linked_same l ∙ linked_same m

  -- ---- in the block

  sees_within : {p X Y i : ℕ} → Sees B p X Y i → p < ports B
  sees_within {p} {X} {Y} {i} s =
      let v = sees_seen B s in
      rw v.is (port_lt B v.x v.y _ v.x_lt v.y_lt (omega (arith, output_at_lt v.dx v.dy i v.named.i_lt)))

  pub join_within : {p q : ℕ} → Join B p q → (p < ports B) × (q < ports B)
  join_within (sp4_h_side x y k hx hy hk) = (port_lt B x y _ (omega arith) hy (omega arith), port_lt B (suc x) y _ hx hy (omega arith))
  join_within (sp4_h_in x y k hx hy hk) = (port_lt B x y _ hx hy (omega arith), port_lt B x y _ hx hy (omega (arith, partner4 k hk)))
  join_within (sp4_v_side x y k hx hy hk) = (port_lt B x (suc y) _ hx hy (omega arith), port_lt B x y _ hx (omega arith) (omega arith))
  join_within (sp4_v_in x y k hx hy hk) = (port_lt B x y _ hx hy (omega arith), port_lt B x y _ hx hy (omega (arith, partner4 k hk)))
  join_within (sp4_right x y k hx hy hk) = (port_lt B x y _ (omega arith) hy (omega arith), port_lt B (suc x) y _ hx hy (omega arith))
  join_within (sp12_h_side x y k hx hy hk) = (port_lt B x y _ (omega arith) hy (omega arith), port_lt B (suc x) y _ hx hy (omega arith))
  join_within (sp12_h_in x y k hx hy hk) = (port_lt B x y _ hx hy (omega arith), port_lt B x y _ hx hy (omega (arith, partner12 k hk)))
  join_within (sp12_v_side x y k hx hy hk) = (port_lt B x (suc y) _ hx hy (omega arith), port_lt B x y _ hx (omega arith) (omega arith))
  join_within (sp12_v_in x y k hx hy hk) = (port_lt B x y _ hx hy (omega arith), port_lt B x y _ hx hy (omega (arith, partner12 k hk)))
  join_within (east_in x y k t e hy hk) =
      (port_lt B x (suc y) _ (omega arith) hy (omega arith), port_lt B x y _ (omega arith) (omega arith) (omega (arith, partner4 k hk)))
  join_within (neigh x y i hx hy s) =
      let hi = (sees_seen B s).named.i_lt in
      (sees_within s, port_lt B x y _ hx hy (omega (arith, hi)))
  join_within (beyond X Y i out s t) = (sees_within s, sees_within t)
  join_within (global x y x' y' n hx hy hx' hy' hn) = (port_lt B x y _ hx hy (omega arith), port_lt B x' y' _ hx' hy' (omega arith))
  join_within (carry_chain_lem x y hx hy) = (port_lt B x (suc y) _ hx hy (omega arith), port_lt B x y _ hx (omega arith) (omega arith))
  join_within (lut_cascade x y hx hy) = (port_lt B x (suc y) _ hx (omega arith) (omega arith), port_lt B x y _ hx (omega arith) (omega arith))

  -- a chain that starts in the block stays in it, and so the other way round
  pub linked_within : {p q : ℕ} → Linked B p q → (p < ports B) ↔ (q < ports B)
  linked_within same = (λ h. h, λ h. h)
  linked_within (one j) = (λ h. (join_within j).1, λ h. (join_within j).0)
  linked_within (back l) = ((linked_within l).1, (linked_within l).0)
  linked_within (on l m) = (λ h. (linked_within m).0 ((linked_within l).0 h), λ h. (linked_within l).1 ((linked_within m).1 h))
