-- What drives a wire is the same for all its ports. Main law: `drive_wire`. `join_drive` has a clause for each published join; then the drives of
-- the ports that the equations name.
use Prim.Native.Nat.{ℕ, suc, ◌+◌, ◌*◌, ◌/◌, ◌%◌, ◌<◌}
use mathlib.Core.Path.{◌≡◌, refl, sym, ◌∙◌, ap, ap₂}
use native.Mathlib.Omega.{arith}
use native.Mathlib.Nat.{div-add-mod'}
use lib.Arith.{digits_div, digits_mod}
use borrow.Author.Tests.{lt-ltb}
use Rattle.ports.specs.declared.size.Block.{Block}
use Rattle.ports.specs.declared.Port.{Port}
use Rattle.ports.specs.declared.Port.TheVariants.{Sp4HL, Sp4HR, Sp4VT, Sp4VB, Sp4RVB, Sp12HL, Sp12HR, Sp12VT, Sp12VB, Local, Glb2Local, In, Out, NeighOp, Clk, Cen, SR, GlbNetwk, CarryIn, CarryInMux, Cout, Lout, Ltin}
use Rattle.ports.specs.Block.{port, port_of}
use Rattle.ports.specs.Lengths.{ports, ports_per_tile}
use Rattle.ports.specs.PortIndex.{out_port, cout_port, lout_port, carry_in_mux, cen}
use Rattle.ports.specs.PortNames.{index_of, Within}
use Rattle.fabric.specs.Span.{flip}
use Rattle.fabric.specs.Joins.{Join, Linked, same, one, back, on, sp4_h_side, sp4_h_in, sp4_v_side, sp4_v_in, sp4_right, sp12_h_side, sp12_h_in, sp12_v_side, sp12_v_in, Sees, neigh, beyond, east_in, global, carry_chain_lem, lut_cascade}
use Rattle.fabric.specs.Wire.{wire_of}
use Rattle.fabric.proofs.FlipLaws.{flip_lt}
use Rattle.ports.proofs.PortLaws.{index_back}
use Rattle.fabric.proofs.NeighbourLaws.{output_at_lt, sees_seen}
use Rattle.fabric.proofs.WireLaws.{wire_linked}
use Rattle.equations.specs.declared.drives.Drive.TheVariants.{Low, High, CellOut, CellLout, CellCout, CarryMux}
use Rattle.equations.specs.Equations.{ZeroPort, in_port_lem, clk_port, s_r_port, local_port_lem, glb2local_port}
use Rattle.equations.specs.Drives.{output_drive, drive_at, drive_of}

module _ (B : Block) where
  -- ---- the drive of a port by its name

  -- of the tile (x, y)
  pub drive_name : (x y : ℕ) (P : Port) → x < B.w → index_of P < ports_per_tile → Within P → drive_of B (port B x y (index_of P)) ≡ drive_at B x y P
  unfolding drive_of
  drive_name x y P hx hq h =
      let d : port B x y (index_of P) / ports_per_tile ≡ y * B.w + x = omega arith in
      let m : port B x y (index_of P) % ports_per_tile ≡ index_of P = omega arith in
      rw (d, m, digits_mod y {m = B.w} {r = x} hx, digits_div y {m = B.w} {r = x} hx) (ap (drive_at B x y) (index_back P h))

  -- of tile T
  pub drive_tile : (T : ℕ) (P : Port) → index_of P < ports_per_tile → Within P → drive_of B (port_of T (index_of P)) ≡ drive_at B (T % B.w) (T / B.w) P
  unfolding drive_of
  drive_tile T P hq h =
      let d : port_of T (index_of P) / ports_per_tile ≡ T = omega arith in
      let m : port_of T (index_of P) % ports_per_tile ≡ index_of P = omega arith in
      rw (d, m) (ap (drive_at B (T % B.w) (T / B.w)) (index_back P h))

  -- ---- joins keep it

  pub output_drive_lem : (X Y u v i : ℕ) → X ≡ suc u → Y ≡ suc v → u < B.w → v < B.h → output_drive B X Y i ≡ CellOut (v * B.w + u) i
  output_drive_lem X Y u v i a b hu hv = rw (a, b, lt-ltb u B.w hu, lt-ltb v B.h hv)

  -- a name for output i of the tile (X - 1, Y - 1)
  sees_drive : {p X Y i : ℕ} → Sees B p X Y i → drive_of B p ≡ output_drive B X Y i
  unfolding drive_at
  sees_drive {p} {X} {Y} {i} s =
      let v = sees_seen B s in
      ap (drive_of B) v.is
      ∙ drive_name v.x v.y (NeighOp v.dx v.dy i) v.x_lt (omega (arith, output_at_lt v.dx v.dy i v.named.i_lt)) v.named
      ∙ ap₂ (λ (X Y : ℕ). output_drive B X Y i) v.column v.row

  pub join_drive : {p q : ℕ} → Join B p q → drive_of B p ≡ drive_of B q
  unfolding drive_at
  join_drive (sp4_h_side x y k hx hy hk) =
      drive_name x y (Sp4HR k) (omega arith) (omega arith) hk ∙ sym (drive_name (suc x) y (Sp4HL k) hx (omega arith) hk)
  join_drive (sp4_h_in x y k hx hy hk) =
      let l = flip_lt 36 refl hk in
      drive_name x y (Sp4HL k) hx (omega arith) (omega arith) ∙ sym (drive_name x y (Sp4HR (flip k + 12)) hx (omega arith) (omega arith))
  join_drive (sp4_v_side x y k hx hy hk) = drive_name x (suc y) (Sp4VB k) hx (omega arith) hk ∙ sym (drive_name x y (Sp4VT k) hx (omega arith) hk)
  join_drive (sp4_v_in x y k hx hy hk) =
      let l = flip_lt 36 refl hk in
      drive_name x y (Sp4VT k) hx (omega arith) (omega arith) ∙ sym (drive_name x y (Sp4VB (flip k + 12)) hx (omega arith) (omega arith))
  join_drive (sp4_right x y k hx hy hk) =
      drive_name x y (Sp4RVB k) (omega arith) (omega arith) hk ∙ sym (drive_name (suc x) y (Sp4VB k) hx (omega arith) hk)
  join_drive (sp12_h_side x y k hx hy hk) =
      drive_name x y (Sp12HR k) (omega arith) (omega arith) hk ∙ sym (drive_name (suc x) y (Sp12HL k) hx (omega arith) hk)
  join_drive (sp12_h_in x y k hx hy hk) =
      let l = flip_lt 22 refl hk in
      drive_name x y (Sp12HL k) hx (omega arith) (omega arith) ∙ sym (drive_name x y (Sp12HR (flip k + 2)) hx (omega arith) (omega arith))
  join_drive (sp12_v_side x y k hx hy hk) = drive_name x (suc y) (Sp12VB k) hx (omega arith) hk ∙ sym (drive_name x y (Sp12VT k) hx (omega arith) hk)
  join_drive (sp12_v_in x y k hx hy hk) =
      let l = flip_lt 22 refl hk in
      drive_name x y (Sp12VT k) hx (omega arith) (omega arith) ∙ sym (drive_name x y (Sp12VB (flip k + 2)) hx (omega arith) (omega arith))
  join_drive (east_in x y k t e hy hk) =
      let l = flip_lt 36 refl hk in
      drive_name x (suc y) (Sp4RVB k) (omega arith) (omega arith) (omega arith)
      ∙ sym (drive_name x y (Sp4RVB (flip k + 12)) (omega arith) (omega arith) (omega arith))
  join_drive (neigh x y i hx hy s) =
      let hi = (sees_seen B s).named.i_lt in
      sees_drive s ∙ output_drive_lem (suc x) (suc y) x y i refl refl hx hy ∙ sym (drive_name x y (Out i) hx (omega (arith, hi)) hi)
  join_drive (beyond X Y i out s t) = sees_drive s ∙ sym (sees_drive t)
  join_drive (global x y x' y' n hx hy hx' hy' hn) =
      drive_name x y (GlbNetwk n) hx (omega arith) hn ∙ sym (drive_name x' y' (GlbNetwk n) hx' (omega arith) hn)
  join_drive (carry_chain_lem x y hx hy) = drive_name x (suc y) CarryIn hx (omega arith) tt ∙ sym (drive_name x y (Cout 7) hx (omega arith) (omega arith))
  join_drive (lut_cascade x y hx hy) = drive_name x (suc y) Ltin hx (omega arith) tt ∙ sym (drive_name x y (Lout 7) hx (omega arith) (omega arith))

  linked_drive : {p q : ℕ} → Linked B p q → drive_of B p ≡ drive_of B q
  linked_drive same = refl
  linked_drive (one j) = join_drive j
  linked_drive (back l) = sym (linked_drive l)
  linked_drive (on l m) = linked_drive l ∙ linked_drive m

  pub drive_wire : (p : ℕ) → p < ports B → drive_of B (wire_of B p) ≡ drive_of B p
  drive_wire p h = sym (linked_drive (wire_linked B p h))

  -- ---- the ports that the equations name

  module _ (T : ℕ) where
    place : T / B.w * B.w + T % B.w ≡ T
    place = div-add-mod' T B.w

    pub out_drive : (i : ℕ) → i < 8 → drive_of B (port_of T (out_port i)) ≡ CellOut T i
    unfolding drive_at
    out_drive i h = drive_tile T (Out i) (omega arith) h ∙ ap (λ (t : ℕ). CellOut t i) place

    pub lout_drive : (i : ℕ) → i < 8 → drive_of B (port_of T (lout_port i)) ≡ CellLout T i
    unfolding drive_at
    lout_drive i h = drive_tile T (Lout i) (omega arith) h ∙ ap (λ (t : ℕ). CellLout t i) place

    pub cout_drive : (i : ℕ) → i < 8 → drive_of B (port_of T (cout_port i)) ≡ CellCout T i
    unfolding drive_at
    cout_drive i h = drive_tile T (Cout i) (omega arith) h ∙ ap (λ (t : ℕ). CellCout t i) place

    pub mux_drive : drive_of B (port_of T carry_in_mux) ≡ CarryMux T
    unfolding drive_at
    mux_drive = drive_tile T CarryInMux (omega arith) tt ∙ ap CarryMux place

    pub cen_drive : drive_of B (port_of T cen) ≡ High
    unfolding drive_at
    cen_drive = drive_tile T Cen (omega arith) tt

    pub zero_drive : {q : ℕ} → ZeroPort q → drive_of B (port_of T q) ≡ Low
    unfolding drive_at
    zero_drive (in_port_lem i j hi hj) = drive_tile T (In i j) (omega arith) (hi, hj)
    zero_drive clk_port = drive_tile T Clk (omega arith) tt
    zero_drive s_r_port = drive_tile T SR (omega arith) tt
    zero_drive (local_port_lem k h) = drive_tile T (Local k) (omega arith) h
    zero_drive (glb2local_port k h) = drive_tile T (Glb2Local k) (omega arith) h
