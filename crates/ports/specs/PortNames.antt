-- The table of ports read the other way: where a name stands (`index_of`), and which numbers a name may have (`Within`).
use Rattle.std.specs.Prelude.{ℕ, ◌<◌, ◌≡◌}
use Rattle.ports.specs.declared.Port.{Port}
use Rattle.ports.specs.declared.Port.TheVariants.{Sp4HL, Sp4HR, Sp4VT, Sp4VB, Sp4RVB, Sp12HL, Sp12HR, Sp12VT, Sp12VB, Local, Glb2Local, In, Out, NeighOp, Clk, Cen, SR, GlbNetwk, CarryIn, CarryInMux, Cout, Lout, Ltin}
use Rattle.ports.specs.PortIndex.{sp4_hl, sp4_hr, sp4_vt, sp4_vb, sp4_rvb, sp12_hl, sp12_hr, sp12_vt, sp12_vb, local_port, glb2_local, in_port, out_port, output_at, clk, cen, s_r, glb_netwk, carry_in, carry_in_mux, cout_port, lout_port, ltin}

-- the index of a port within its tile, from its name
abbrev pub index_of : Port → ℕ
index_of (Sp4HL k) = sp4_hl k
index_of (Sp4HR k) = sp4_hr k
index_of (Sp4VT k) = sp4_vt k
index_of (Sp4VB k) = sp4_vb k
index_of (Sp4RVB k) = sp4_rvb k
index_of (Sp12HL k) = sp12_hl k
index_of (Sp12HR k) = sp12_hr k
index_of (Sp12VT k) = sp12_vt k
index_of (Sp12VB k) = sp12_vb k
index_of (Local k) = local_port k
index_of (Glb2Local k) = glb2_local k
index_of (In i j) = in_port i j
index_of (Out i) = out_port i
index_of (NeighOp dx dy i) = output_at dx dy i
index_of Clk = clk
index_of Cen = cen
index_of SR = s_r
index_of (GlbNetwk n) = glb_netwk n
index_of CarryIn = carry_in
index_of CarryInMux = carry_in_mux
index_of (Cout i) = cout_port i
index_of (Lout i) = lout_port i
index_of Ltin = ltin

-- dx and dy point to one of the eight neighbours, and i to one of its outputs
pub record Neighbour (dx dy i : ℕ) : Type 0 where
  pub dx_lt : dx < 3
  pub dy_lt : dy < 3
  pub not_own : dx ≡ 1 → dy ≡ 1 → ⊥
  pub i_lt : i < 8

-- "(48 each)", "(24 each)", "(32)", "(4)", "(8)": the numbers in a name are those of its range
abbrev pub Within : Port → Type 0
Within (Sp4HL k) = k < 48
Within (Sp4HR k) = k < 48
Within (Sp4VT k) = k < 48
Within (Sp4VB k) = k < 48
Within (Sp4RVB k) = k < 48
Within (Sp12HL k) = k < 24
Within (Sp12HR k) = k < 24
Within (Sp12VT k) = k < 24
Within (Sp12VB k) = k < 24
Within (Local k) = k < 32
Within (Glb2Local k) = k < 4
Within (In i j) = (i < 8) × (j < 4)
Within (Out i) = i < 8
Within (NeighOp dx dy i) = Neighbour dx dy i
Within Clk = Unit {0}
Within Cen = Unit {0}
Within SR = Unit {0}
Within (GlbNetwk n) = n < 8
Within CarryIn = Unit {0}
Within CarryInMux = Unit {0}
Within (Cout i) = i < 8
Within (Lout i) = i < 8
Within Ltin = Unit {0}
