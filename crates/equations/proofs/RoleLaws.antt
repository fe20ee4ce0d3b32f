-- What a port's drive says of the port. Main law: `role_all`, from a case for each kind of port in `role_at`. Of it follow the drives that are known from the
-- port's place in its tile: `span_drive`, `input_drive`.
use Prim.Native.Nat.{ℕ, zero, suc, ◌+◌, ◌*◌, ◌/◌, ◌%◌, ◌≤◌, ◌<◌}
use mathlib.Core.Path.{◌≡◌, refl, sym, subst}
use mathlib.Core.Bool.{Bool, true, false, cond, ◌&&◌}
use mathlib.Core.Logic.{◌⊎◌, inl, inr}
use native.Mathlib.Omega.{arith}
use native.Mathlib.Nat.{mul-le-mul_right}
use lib.Dec.{ltb}
use borrow.Author.Tests.{ltb-true}
use Rattle.lists.proofs.CaseLaws.{clash}
use Rattle.ports.specs.declared.size.Block.{Block}
use Rattle.ports.specs.declared.Port.{Port}
use Rattle.ports.specs.declared.Port.TheVariants.{Sp4HL, Sp4HR, Sp4VT, Sp4VB, Sp4RVB, Sp12HL, Sp12HR, Sp12VT, Sp12VB, Local, Glb2Local, In, Out, NeighOp, Clk, Cen, SR, GlbNetwk, CarryIn, CarryInMux, Cout, Lout, Ltin}
use Rattle.ports.specs.Block.{port, port_of, tiles}
use Rattle.ports.specs.Lengths.{ports, ports_per_tile}
use Rattle.ports.specs.PortIndex.{local_port, out_port, cout_port, lout_port, carry_in, carry_in_mux, ltin, cen, output_at}
use Rattle.ports.specs.Ports.{port_at}
use Rattle.ports.specs.PortNames.{index_of, Neighbour, Within}
use Rattle.fabric.specs.Joins.{neigh, carry_chain_lem, lut_cascade}
use Rattle.fabric.specs.Wire.{wire_of}
use Rattle.ports.proofs.PortLaws.{port_at_back, port_at_within}
use Rattle.ports.proofs.PlaceLaws.{tile_column_lt, tile_row_lt, port_place}
use Rattle.fabric.proofs.NeighbourLaws.{sees}
use Rattle.fabric.proofs.JoinLaws.{join_same}
use Rattle.routing.specs.LogicTile.{is_destination}
use Rattle.equations.specs.declared.drives.Drive.{Drive}
use Rattle.equations.specs.declared.drives.Drive.TheVariants.{Nothing, Low, High, CellOut, CellLout, CellCout, CarryMux}
use Rattle.equations.specs.Equations.{ZeroPort, in_port_lem, clk_port, s_r_port, local_port_lem, glb2local_port, OpenPort, glb_netwk_port, carry_in_port, ltin_port}
use Rattle.equations.specs.Drives.{output_drive, below_drive, drive_at, drive_of}
use Rattle.equations.proofs.PortKindLaws.{span_open, neigh_open, destination, no_destination, open_low, open_zero, open_cen}

-- ---- what a drive says

-- port p, which is port q of its tile, is on the wire of an output of cell i of tile T, and no switch may end on q
pub record AtCell (B : Block) (p q T i output : ℕ) : Type 0 where
  pub tile_lt : T < tiles B
  pub cell_lt : i < 8
  pub wire_same : wire_of B (port_of T output) ≡ wire_of B p
  pub no_end : is_destination q ≡ false

abbrev pub Role : Block → ℕ → ℕ → Drive → Type 0
Role B p q Nothing = OpenPort q
Role B p q Low = ZeroPort q
Role B p q High = q ≡ cen
Role B p q (CellOut T i) = AtCell B p q T i (out_port i)
Role B p q (CellLout T i) = AtCell B p q T i (lout_port i)
Role B p q (CellCout T i) = AtCell B p q T i (cout_port i)
Role B p q (CarryMux T) = AtCell B p q T 0 carry_in_mux

-- the drives that are outputs of cells
abbrev pub of_cell : Drive → Bool
of_cell Nothing = false
of_cell Low = false
of_cell High = false
of_cell (CellOut T i) = true
of_cell (CellLout T i) = true
of_cell (CellCout T i) = true
of_cell (CarryMux T) = true

pub role_no_end : (B : Block) (p q : ℕ) (d : Drive) → of_cell d ≡ true → Role B p q d → is_destination q ≡ false
role_no_end B p q Nothing e r = clash e refl
role_no_end B p q Low e r = clash e refl
role_no_end B p q High e r = clash e refl
role_no_end B p q (CellOut T i) e r = r.no_end
role_no_end B p q (CellLout T i) e r = r.no_end
role_no_end B p q (CellCout T i) e r = r.no_end
role_no_end B p q (CarryMux T) e r = r.no_end

-- ---- each port's drive says what is so

module _ (B : Block) where
  tile_lt : (x y : ℕ) → x < B.w → y < B.h → y * B.w + x < tiles B
  tile_lt x y hx hy = omega (arith, mul-le-mul_right B.w hy)

  output_role : (p q X Y i : ℕ) → OpenPort q → i < 8 → is_destination q ≡ false
      → ((u v : ℕ) → X ≡ suc u → Y ≡ suc v → u < B.w → v < B.h → wire_of B (port B u v (out_port i)) ≡ wire_of B p) → Role B p q (output_drive B X Y i)
  output_role p q zero Y i o hi n f = o
  output_role p q (suc u) zero i o hi n f = o
  output_role p q (suc u) (suc v) i o hi n f = go (ltb u B.w) (ltb v B.h) refl refl
    where
      go : (a b : Bool) → ltb u B.w ≡ a → ltb v B.h ≡ b → Role B p q (cond (a && b) (CellOut (v * B.w + u) i) Nothing)
      go true true a b = record {
        tile_lt = tile_lt u v (ltb-true _ _ a) (ltb-true _ _ b);
        cell_lt = hi;
        wire_same = f u v refl refl (ltb-true _ _ a) (ltb-true _ _ b);
        no_end = n;
      }
      go true false a b = o
      go false true a b = o
      go false false a b = o

  neigh_range : (dx dy i : ℕ) → Neighbour dx dy i → (412 ≤ output_at dx dy i) × (output_at dx dy i < 476)
  neigh_range zero zero i h = let l = h.i_lt in omega arith
  neigh_range (suc zero) zero i h = let l = h.i_lt in omega arith
  neigh_range (suc (suc dx)) zero i h = let l = h.i_lt in omega arith
  neigh_range zero (suc zero) i h = let l = h.i_lt in omega arith
  neigh_range (suc zero) (suc zero) i h = absurd (h.not_own refl refl)
  neigh_range (suc (suc dx)) (suc zero) i h = let l = h.i_lt in omega arith
  neigh_range zero (suc (suc dy)) i h = let l = h.i_lt in omega arith
  neigh_range (suc zero) (suc (suc dy)) i h = let l = h.i_lt in omega arith
  neigh_range (suc (suc dx)) (suc (suc dy)) i h = let l = h.i_lt in omega arith

  module _ (x : ℕ) (hx : x < B.w) where
    neigh_role : (y dx dy i : ℕ) → y < B.h → Neighbour dx dy i → Role B (port B x y (output_at dx dy i)) (output_at dx dy i) (output_drive B (x + dx) (y + dy) i)
    neigh_role y dx dy i hy h =
        let hi = h.i_lt in
        let r = neigh_range dx dy i h in
        output_role _ _ (x + dx) (y + dy) i (neigh_open _ r.0 r.1) hi (no_destination _ (omega arith) (inl r.1))
        (λ u v a b hu hv. sym (join_same B (neigh u v i hu hv (sees B dx dy i x y (suc u) (suc v) h hx hy a b))))

    own_role : (y i q : ℕ) → y < B.h → i < 8 → 404 ≤ q → (q < 476) ⊎ (478 < q) → AtCell B (port B x y q) q (y * B.w + x) i q
    own_role y i q hy hi h r = record { tile_lt = tile_lt x y hx hy; cell_lt = hi; wire_same = refl; no_end = no_destination q h r }

    carry_role : (y : ℕ) → y < B.h → Role B (port B x y carry_in) carry_in (below_drive (λ T. CellCout T 7) B x y)
    carry_role zero hy = carry_in_port
    carry_role (suc y) hy = record {
      tile_lt = tile_lt x y hx (omega arith);
      cell_lt = omega arith;
      wire_same = sym (join_same B (carry_chain_lem x y hx hy));
      no_end = no_destination carry_in (omega arith) (inr (omega arith));
    }

    ltin_role : (y : ℕ) → y < B.h → Role B (port B x y ltin) ltin (below_drive (λ T. CellLout T 7) B x y)
    ltin_role zero hy = ltin_port
    ltin_role (suc y) hy = record {
      tile_lt = tile_lt x y hx (omega arith);
      cell_lt = omega arith;
      wire_same = sym (join_same B (lut_cascade x y hx hy));
      no_end = no_destination ltin (omega arith) (inr (omega arith));
    }

    role_at : (y : ℕ) → y < B.h → (P : Port) → Within P → Role B (port B x y (index_of P)) (index_of P) (drive_at B x y P)
    unfolding drive_at
    role_at y hy (Sp4HL k) h = span_open _ (omega arith)
    role_at y hy (Sp4HR k) h = span_open _ (omega arith)
    role_at y hy (Sp4VT k) h = span_open _ (omega arith)
    role_at y hy (Sp4VB k) h = span_open _ (omega arith)
    role_at y hy (Sp4RVB k) h = span_open _ (omega arith)
    role_at y hy (Sp12HL k) h = span_open _ (omega arith)
    role_at y hy (Sp12HR k) h = span_open _ (omega arith)
    role_at y hy (Sp12VT k) h = span_open _ (omega arith)
    role_at y hy (Sp12VB k) h = span_open _ (omega arith)
    role_at y hy (Local k) h = local_port_lem k h
    role_at y hy (Glb2Local k) h = glb2local_port k h
    role_at y hy (In i j) h = in_port_lem i j h.0 h.1
    role_at y hy (Out i) h = own_role y i (out_port i) hy h (omega arith) (inl (omega arith))
    role_at y hy (NeighOp dx dy i) h = neigh_role y dx dy i hy h
    role_at y hy Clk h = clk_port
    role_at y hy Cen h = refl
    role_at y hy SR h = s_r_port
    role_at y hy (GlbNetwk n) h = glb_netwk_port n h
    role_at y hy CarryIn h = carry_role y hy
    role_at y hy CarryInMux h = own_role y 0 carry_in_mux hy (omega arith) (omega arith) (inr (omega arith))
    role_at y hy (Cout i) h = own_role y i (cout_port i) hy h (omega arith) (inr (omega arith))
    role_at y hy (Lout i) h = own_role y i (lout_port i) hy h (omega arith) (inr (omega arith))
    role_at y hy Ltin h = ltin_role y hy

  pub role_all : (p : ℕ) → p < ports B → Role B p (p % ports_per_tile) (drive_of B p)
  unfolding drive_of
  role_all p h =
      let x = p / ports_per_tile % B.w in
      let y = p / ports_per_tile / B.w in
      let q = p % ports_per_tile in
      let hq : p % ports_per_tile < ports_per_tile = omega arith in
      subst (λ (r : ℕ). Role B r q (drive_at B x y (port_at q))) (port_place B p h)
      (rw (port_at_back q hq) at (role_at x (tile_column_lt B p h) y (tile_row_lt B p h) (port_at q) (port_at_within q hq)))

  -- ---- the drives that are known from the port's place in its tile

  module _ (p : ℕ) (h : p < ports B) where
    pub span_drive : p % ports_per_tile < local_port 0 → Nothing ≡ drive_of B p
    span_drive l = go (drive_of B p) (role_all p h)
      where
        go : (d : Drive) → Role B p (p % ports_per_tile) d → Nothing ≡ d
        go Nothing r = refl
        go Low r = absurd (open_zero (span_open _ l) r)
        go High r = absurd (open_cen (span_open _ l) r)
        go (CellOut T i) r = clash (destination _ (omega arith)) r.no_end
        go (CellLout T i) r = clash (destination _ (omega arith)) r.no_end
        go (CellCout T i) r = clash (destination _ (omega arith)) r.no_end
        go (CarryMux T) r = clash (destination _ (omega arith)) r.no_end

    -- local, glb2local and in
    pub input_drive : local_port 0 ≤ p % ports_per_tile → p % ports_per_tile < out_port 0 → Low ≡ drive_of B p
    input_drive g l = go (drive_of B p) (role_all p h)
      where
        go : (d : Drive) → Role B p (p % ports_per_tile) d → Low ≡ d
        go Nothing r = absurd (open_low r g l)
        go Low r = refl
        go High r = absurd (omega arith)
        go (CellOut T i) r = clash (destination _ l) r.no_end
        go (CellLout T i) r = clash (destination _ l) r.no_end
        go (CellCout T i) r = clash (destination _ l) r.no_end
        go (CarryMux T) r = clash (destination _ l) r.no_end
