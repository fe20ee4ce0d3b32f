-- Each range of a tile's ports as it is filled: what the calls of src/one_tile.rt and src/spans.rt ask for. Spans first, then outputs, then the
-- ports that have no join or one to a lower tile.
use Prim.Native.Nat.{ℕ, zero, suc, ◌+◌, ◌-◌, ◌/◌, ◌%◌, ◌≤◌, ◌<◌, min}
use mathlib.Core.Path.{◌≡◌, refl, sym, ◌∙◌, ap, subst}
use mathlib.Core.Logic.{⊎_elim}
use native.Mathlib.Omega.{arith}
use Rattle.lists.proofs.CaseLaws.{lt_or_le, eq_or_ne}
use Rattle.ports.specs.declared.size.Block.{Block}
use Rattle.ports.specs.declared.Port.{Port}
use Rattle.ports.specs.declared.Port.TheVariants.{Sp4HL, Sp4HR, Sp4VT, Sp4VB, Sp12HL, Sp12HR, Sp12VT, Sp12VB, Local, Glb2Local, In, Out, NeighOp, Clk, Cen, SR, GlbNetwk, CarryIn, CarryInMux, Cout, Lout, Ltin}
use Rattle.ports.specs.Block.{port}
use Rattle.ports.specs.Lengths.{ports_per_tile}
use Rattle.ports.specs.PortIndex.{sp4_vt, sp4_vb, sp4_rvb, sp12_vt, sp12_vb, local_port, clk, glb_netwk, carry_in, carry_in_mux, cout_port, lout_port, ltin, output_at}
use Rattle.ports.specs.PortNames.{index_of, Within}
use Rattle.fabric.specs.Span.{flip, span4_row, span12_row, span4_column, span12_column}
use Rattle.fabric.specs.Joins.{sp4_h_side, sp4_h_in, sp4_v_side, sp4_v_in, sp4_right, sp12_h_side, sp12_h_in, sp12_v_side, sp12_v_in}
use Rattle.fabric.specs.SpanWire.{foot, sp4_foot, sp4_column, sp12_column}
use Rattle.fabric.specs.OutputWire.{output_wire}
use Rattle.fabric.specs.Wire.{wire_of, wire_at, below}
use Rattle.wiring.specs.Fill.{Numbers, Owns, FarSide, FromSouth, RowSpan}
use Rattle.ports.proofs.PortLaws.{neighbour}
use Rattle.fabric.proofs.PlaceLaws.{wire_name}
use Rattle.fabric.proofs.JoinLaws.{join_same}
use Rattle.fabric.proofs.NeighbourLaws.{output_at_lt}
use Rattle.fabric.proofs.SpanLaws.{span4_row_proper, span12_row_proper, span4_column_proper, span12_column_proper}
use Rattle.fabric.proofs.EdgeLaws.{sp4_foot_rim}
use Rattle.wiring.proofs.FillSpans.{range, owns, Sides, row_span, from_south, south, rim_owns, rim_far}

output_at_add : (dx dy k : ℕ) → output_at dx dy 0 + k ≡ output_at dx dy k
output_at_add zero zero k = refl
output_at_add zero (suc zero) k = refl
output_at_add zero (suc (suc dy)) k = refl
output_at_add (suc zero) zero k = refl
output_at_add (suc zero) (suc zero) k = refl
output_at_add (suc zero) (suc (suc dy)) k = refl
output_at_add (suc (suc dx)) zero k = refl
output_at_add (suc (suc dx)) (suc zero) k = refl
output_at_add (suc (suc dx)) (suc (suc dy)) k = refl

module _ (B : Block) where
  -- ---- spans

  sides4_row : Sides B span4_row
  sides4_row = record { proper = span4_row_proper; beside = refl; some = omega arith; across = sp4_h_in }

  sides12_row : Sides B span12_row
  sides12_row = record { proper = span12_row_proper; beside = refl; some = omega arith; across = sp12_h_in }

  sides4_column : Sides B span4_column
  sides4_column = record { proper = span4_column_proper; beside = refl; some = omega arith; across = sp4_v_in }

  sides12_column : Sides B span12_column
  sides12_column = record { proper = span12_column_proper; beside = refl; some = omega arith; across = sp12_v_in }

  pub row4 : RowSpan B span4_row
  unfolding wire_at
  row4 =
      row_span sides4_row sp4_h_side (λ x y k hx hk. wire_name B x y (Sp4HL k) hx (omega arith) hk) (λ x y k hx hk. wire_name B x y (Sp4HR k) hx (omega arith) hk)

  pub row12 : RowSpan B span12_row
  unfolding wire_at
  row12 =
      row_span sides12_row sp12_h_side (λ x y k hx hk. wire_name B x y (Sp12HL k) hx (omega arith) hk)
      (λ x y k hx hk. wire_name B x y (Sp12HR k) hx (omega arith) hk)

  near4 : (x y k : ℕ) → x < B.w → k < 48 → wire_of B (port B x y (sp4_vt k)) ≡ sp4_column B x (suc y) k
  unfolding wire_at
  near4 x y k hx hk = wire_name B x y (Sp4VT k) hx (omega arith) hk

  far4 : (x y k : ℕ) → x < B.w → k < 48 → wire_of B (port B x y (sp4_vb k)) ≡ sp4_column B x y k
  unfolding wire_at
  far4 x y k hx hk = wire_name B x y (Sp4VB k) hx (omega arith) hk

  near12 : (x y k : ℕ) → x < B.w → k < 24 → wire_of B (port B x y (sp12_vt k)) ≡ sp12_column B x (suc y) k
  unfolding wire_at
  near12 x y k hx hk = wire_name B x y (Sp12VT k) hx (omega arith) hk

  far12 : (x y k : ℕ) → x < B.w → k < 24 → wire_of B (port B x y (sp12_vb k)) ≡ sp12_column B x y k
  unfolding wire_at
  far12 x y k hx hk = wire_name B x y (Sp12VB k) hx (omega arith) hk

  module _ (x y : ℕ) (hx : x < B.w) (hy : y < B.h) where
    pub column4_south : 0 < y → FromSouth B span4_column x (y - 1) (sp4_vt 0) x y
    column4_south z = south sides4_column (sp4_foot B) near4 far4 sp4_v_side x y z hx hy

    pub column12_south : 0 < y → FromSouth B span12_column x (y - 1) (sp12_vt 0) x y
    column12_south z = south sides12_column (foot flip span12_column B) near12 far12 sp12_v_side x y z hx hy

    pub column12_owns : y ≤ 0 → Owns B x y (sp12_vt 0) 24
    column12_owns z = rim_owns sides12_column (foot flip span12_column B) near12 far12 x hx (omega arith) (λ k. refl) y z

    pub column12_far : y ≤ 0 → FarSide B span12_column x y
    column12_far z = rim_far sides12_column (foot flip span12_column B) near12 far12 x hx (omega arith) (λ k. refl) y z

  -- on the rim the right-neighbour names of the tile to the west come first
  pub column4_west : (x y : ℕ) → x < B.w → y < B.h → 0 < x → y ≤ 0 → FromSouth B span4_column (x - 1) y (sp4_rvb 0) x y
  column4_west zero y hx hy z w = absurd (omega arith)
  column4_west (suc x) (suc y) hx hy z w = absurd (omega arith)
  column4_west (suc x) zero hx hy z w =
      subst (λ (u : ℕ). FromSouth B span4_column u 0 (sp4_rvb 0) (suc x) 0) (let e : x ≡ suc x - 1 = omega arith in e)
      (from_south sides4_column (sp4_foot B) near4 far4 x 0 (sp4_rvb 0) (suc x) 0 (omega arith) hy (omega arith) hx hy (omega arith)
      (λ k l. sym (join_same B (sp4_right x 0 k hx hy l))))

  sp4_foot_is : (x k : ℕ) → x ≤ 0 → sp4_foot B x k ≡ foot flip span4_column B x k
  sp4_foot_is x k z = sym (sp4_foot_rim B x k z)

  module _ (x y : ℕ) (hx : x < B.w) (hy : y < B.h) (first : x ≤ 0) (low : y ≤ 0) where
    pub column4_owns : Owns B x y (sp4_vt 0) 48
    column4_owns = rim_owns sides4_column (sp4_foot B) near4 far4 x hx (omega arith) (λ k. sp4_foot_is x k first) y low

    pub column4_far : FarSide B span4_column x y
    column4_far = rim_far sides4_column (sp4_foot B) near4 far4 x hx (omega arith) (λ k. sp4_foot_is x k first) y low

  -- ---- outputs

  module _ (x y : ℕ) (hx : x < B.w) (hy : y < B.h) where
    output_name : (dx dy k : ℕ) → dx < 3 → dy < 3 → k < 8 → wire_of B (port B x y (output_at dx dy k)) ≡ output_wire B x y dx dy k
    unfolding wire_at
    output_name dx dy k hdx hdy l =
        ⊎_elim (λ (e : dx ≡ 1). ⊎_elim (λ (g : dy ≡ 1). here e g) (λ n. there (λ a b. n b)) (eq_or_ne dy 1)) (λ n. there (λ a b. n a)) (eq_or_ne dx 1)
      where
        here : dx ≡ 1 → dy ≡ 1 → wire_of B (port B x y (output_at dx dy k)) ≡ output_wire B x y dx dy k
        here e g = rw (e, g) (wire_name B x y (Out k) hx (omega arith) l)

        there : (dx ≡ 1 → dy ≡ 1 → ⊥) → wire_of B (port B x y (output_at dx dy k)) ≡ output_wire B x y dx dy k
        there n = wire_name B x y (NeighOp dx dy k) hx (omega (arith, output_at_lt dx dy k l)) (neighbour dx dy k hdx hdy n l)

    output_from : (dx dy k : ℕ) → output_wire B x y dx dy k ≡ output_wire B x y dx dy 0 + k
    output_from dx dy k = omega (arith, output_at_add (min (x + dx) 2) (min (y + dy) 2) k)

    pub output_numbers : (dx dy q : ℕ) → dx < 3 → dy < 3 → q ≡ output_at dx dy 0 → Numbers B (output_wire B x y dx dy 0) x y q 8
    output_numbers dx dy q hdx hdy e = record {
      to = range hx hy (omega arith) (omega (arith, output_at_lt dx dy 0 (omega arith)));
      same = λ k l.
          let at : q + k ≡ output_at dx dy k = omega (arith, output_at_add dx dy k) in
          ap (λ (m : ℕ). wire_of B (port B x y m)) at ∙ output_name dx dy k hdx hdy l ∙ output_from dx dy k;
    }

    -- ---- ports that start a wire

    lone : (P : Port) (q : ℕ) → Within P → index_of P ≡ q → q < ports_per_tile
        → wire_at B x y P ≡ port B x y (index_of P) → wire_of B (port B x y q) ≡ port B x y q
    lone P q w e l z = subst (λ (m : ℕ). wire_of B (port B x y m) ≡ port B x y m) e (wire_name B x y P hx (omega arith) w ∙ z)

    -- local, glb2local and in
    pub inputs_own : Owns B x y (local_port 0) 68
    unfolding wire_at
    inputs_own =
        owns (range hx hy (omega arith) (omega arith)) (λ k l.
        ⊎_elim (λ (h : k < 32). lone (Local k) (local_port k) h refl (omega arith) refl) (λ (h : 32 ≤ k).
        ⊎_elim (λ (g : k < 36). lone (Glb2Local (k - 32)) (local_port k) (omega arith) (omega arith) (omega arith) refl)
        (λ (g : 36 ≤ k). lone (In ((k - 36) / 4) ((k - 36) % 4)) (local_port k) (omega arith, omega arith) (omega arith) (omega arith) refl)
        (lt_or_le k 36)) (lt_or_le k 32))

    -- clk, cen and s_r
    pub clocks_own : Owns B x y clk 3
    unfolding wire_at
    clocks_own = owns (range hx hy (omega arith) (omega arith)) at
      where
        at : (k : ℕ) → k < 3 → wire_of B (port B x y (clk + k)) ≡ port B x y (clk + k)
        at zero l = lone Clk 476 tt refl (omega arith) refl
        at (suc zero) l = lone Cen 477 tt refl (omega arith) refl
        at (suc (suc zero)) l = lone SR 478 tt refl (omega arith) refl
        at (suc (suc (suc k))) l = absurd (omega arith)

    -- carry_in_mux, cout and lout
    pub carries_own : Owns B x y carry_in_mux 17
    unfolding wire_at
    carries_own =
        owns (range hx hy (omega arith) (omega arith)) (λ k l.
        ⊎_elim (λ (h : k < 1). lone CarryInMux (carry_in_mux + k) tt (omega arith) (omega arith) refl) (λ (h : 1 ≤ k).
        ⊎_elim (λ (g : k < 9). lone (Cout (k - 1)) (carry_in_mux + k) (omega arith) (omega arith) (omega arith) refl)
        (λ (g : 9 ≤ k). lone (Lout (k - 9)) (carry_in_mux + k) (omega arith) (omega arith) (omega arith) refl) (lt_or_le k 9)) (lt_or_le k 1))

    -- ---- ports that are joined to a lower tile

    pub globals : Numbers B (glb_netwk 0) x y (glb_netwk 0) 8
    unfolding wire_at
    globals = record { to = range hx hy (omega arith) (omega arith); same = λ k l. wire_name B x y (GlbNetwk k) hx (omega arith) l ∙ omega arith }

    one_number : (P : Port) (q first : ℕ) → Within P → index_of P ≡ q → q < ports_per_tile → wire_at B x y P ≡ first → Numbers B first x y q 1
    one_number P q first w e l z = record { to = range hx hy (omega arith) (omega arith); same = at }
      where
        at : (k : ℕ) → k < 1 → wire_of B (port B x y (q + k)) ≡ first + k
        at k h =
            let a : q + k ≡ index_of P = omega arith in
            ap (λ (m : ℕ). wire_of B (port B x y m)) a ∙ wire_name B x y P hx (omega arith) w ∙ z ∙ omega arith

    pub carry_in_lem : Numbers B (below B x y carry_in (cout_port 7)) x y carry_in 1
    unfolding wire_at
    carry_in_lem = one_number CarryIn carry_in _ tt refl (omega arith) refl

    pub cascade : Numbers B (below B x y ltin (lout_port 7)) x y ltin 1
    unfolding wire_at
    cascade = one_number Ltin ltin _ tt refl (omega arith) refl
