-- The index of each port within its tile (document 01, 'Ports'): the figures of the table's left column, each under its name.
use Rattle.std.specs.Prelude.{ℕ, zero, suc, ◌+◌, ◌*◌}

-- "0, 48: sp4_h_l, sp4_h_r (48 each)"
abbrev pub sp4_hl : ℕ → ℕ
sp4_hl k = 0 + k

abbrev pub sp4_hr : ℕ → ℕ
sp4_hr k = 48 + k

-- "96, 144, 192: sp4_v_t, sp4_v_b, sp4_r_v_b (48 each)"
abbrev pub sp4_vt : ℕ → ℕ
sp4_vt k = 96 + k

abbrev pub sp4_vb : ℕ → ℕ
sp4_vb k = 144 + k

abbrev pub sp4_rvb : ℕ → ℕ
sp4_rvb k = 192 + k

-- "240, 264, 288, 312: sp12_h_l, sp12_h_r, sp12_v_t, sp12_v_b (24 each)"
abbrev pub sp12_hl : ℕ → ℕ
sp12_hl k = 240 + k

abbrev pub sp12_hr : ℕ → ℕ
sp12_hr k = 264 + k

abbrev pub sp12_vt : ℕ → ℕ
sp12_vt k = 288 + k

abbrev pub sp12_vb : ℕ → ℕ
sp12_vb k = 312 + k

-- "336: local_gA_B at 336 + 8A + B (32)", so local_gA_B is `local_port (8A + B)`; "368: glb2local (4)"
abbrev pub local_port : ℕ → ℕ
local_port k = 336 + k

abbrev pub glb2_local : ℕ → ℕ
glb2_local k = 368 + k

-- "372: lutff_i/in_j at 372 + 4i + j (32)"; "404: lutff_i/out (8)"
abbrev pub in_port : ℕ → ℕ → ℕ
in_port i j = 372 + 4 * i + j

abbrev pub out_port : ℕ → ℕ
out_port i = 404 + i

-- "412: neigh_op (8 each): bnl, bot, bnr, lft, rgt, tnl, top, tnr"
abbrev pub neigh_bnl : ℕ → ℕ
neigh_bnl i = 412 + i

abbrev pub neigh_bot : ℕ → ℕ
neigh_bot i = 420 + i

abbrev pub neigh_bnr : ℕ → ℕ
neigh_bnr i = 428 + i

abbrev pub neigh_lft : ℕ → ℕ
neigh_lft i = 436 + i

abbrev pub neigh_rgt : ℕ → ℕ
neigh_rgt i = 444 + i

abbrev pub neigh_tnl : ℕ → ℕ
neigh_tnl i = 452 + i

abbrev pub neigh_top : ℕ → ℕ
neigh_top i = 460 + i

abbrev pub neigh_tnr : ℕ → ℕ
neigh_tnr i = 468 + i

-- "476, 477, 478: lutff_global clk, cen, s_r"; "479: glb_netwk (8)"
abbrev pub clk : ℕ
clk = 476

abbrev pub cen : ℕ
cen = 477

abbrev pub s_r : ℕ
s_r = 478

abbrev pub glb_netwk : ℕ → ℕ
glb_netwk n = 479 + n

-- "487, 488: carry_in, carry_in_mux"; "489, 497: lutff_i/cout, lutff_i/lout (8 each)"; "505: ltin of cell 0"
abbrev pub carry_in : ℕ
carry_in = 487

abbrev pub carry_in_mux : ℕ
carry_in_mux = 488

abbrev pub cout_port : ℕ → ℕ
cout_port i = 489 + i

abbrev pub lout_port : ℕ → ℕ
lout_port i = 497 + i

abbrev pub ltin : ℕ
ltin = 505

-- the port of the tile (x, y) for output i of the tile (x + dx - 1, y + dy - 1): a neigh_op name, or its own out
abbrev pub output_at : ℕ → ℕ → ℕ → ℕ
output_at zero zero i = neigh_bnl i
output_at (suc zero) zero i = neigh_bot i
output_at (suc (suc dx)) zero i = neigh_bnr i
output_at zero (suc zero) i = neigh_lft i
output_at (suc zero) (suc zero) i = out_port i
output_at (suc (suc dx)) (suc zero) i = neigh_rgt i
output_at zero (suc (suc dy)) i = neigh_tnl i
output_at (suc zero) (suc (suc dy)) i = neigh_top i
output_at (suc (suc dx)) (suc (suc dy)) i = neigh_tnr i
