-- "A leaving wire is a span wire with an enabled switch and a port any of whose joins to another tile fails because that tile is outside the block."
-- (document 02, W14)
use Rattle.std.specs.Prelude.{ℕ, ◌+◌, ◌<◌, ◌≡◌, List}
use Rattle.ports.specs.declared.size.Block.{Block}
use Rattle.ports.specs.Block.{port}
use Rattle.ports.specs.PortIndex.{sp4_hl, sp4_hr, sp4_vt, sp4_vb, sp4_rvb, sp12_hl, sp12_hr, sp12_vt, sp12_vb}
use Rattle.fabric.specs.Joins.{Outside}
use Rattle.fabric.specs.Wire.{wire_of}
use Rattle.equations.specs.Switches.{Ends}

-- port q of the tile (x, y) has a join to another tile, and that tile is outside the block. A join is one of both of its ports: for each sentence of
-- document 01, 'Joins', that joins spans of two tiles, there is a constructor for either end. `Outside B X Y` is of the tile (X - 1, Y - 1).
pub data Fails (B : Block) (x y : ℕ) : ℕ → Type 0 where
  -- "sp4_h_r_k at (x, y) with sp4_h_l_k at (x+1, y), every k"
  sp4_h_east : (k : ℕ) → k < 48 → Outside B (x + 2) (y + 1) → Fails B x y (sp4_hr k)
  sp4_h_west : (k : ℕ) → k < 48 → Outside B x (y + 1) → Fails B x y (sp4_hl k)
  -- "sp4_v_b_k at (x, y) with sp4_v_t_k at (x, y−1)"
  sp4_v_south : (k : ℕ) → k < 48 → Outside B (x + 1) y → Fails B x y (sp4_vb k)
  sp4_v_north : (k : ℕ) → k < 48 → Outside B (x + 1) (y + 2) → Fails B x y (sp4_vt k)
  -- "sp4_r_v_b_k at (x, y) with sp4_v_b_k at (x+1, y)"
  sp4_right_east : (k : ℕ) → k < 48 → Outside B (x + 2) (y + 1) → Fails B x y (sp4_rvb k)
  sp4_right_west : (k : ℕ) → k < 48 → Outside B x (y + 1) → Fails B x y (sp4_vb k)
  -- "span-12 likewise, [..] and no right-neighbour names"
  sp12_h_east : (k : ℕ) → k < 24 → Outside B (x + 2) (y + 1) → Fails B x y (sp12_hr k)
  sp12_h_west : (k : ℕ) → k < 24 → Outside B x (y + 1) → Fails B x y (sp12_hl k)
  sp12_v_south : (k : ℕ) → k < 24 → Outside B (x + 1) y → Fails B x y (sp12_vb k)
  sp12_v_north : (k : ℕ) → k < 24 → Outside B (x + 1) (y + 2) → Fails B x y (sp12_vt k)

-- wire w has such a port, anywhere in the block; it is a span's, so the wire is a span wire
pub record GoesOut (B : Block) (w : ℕ) : Type 0 where
  pub x : ℕ
  pub y : ℕ
  pub q : ℕ
  pub x_within : x < B.w
  pub y_within : y < B.h
  pub fails : Fails B x y q
  pub at : wire_of B (port B x y q) ≡ w

-- "a span wire with an enabled switch and a port [..]": a switch that ends on it
pub record LeavingWire (B : Block) (t st : List ℕ) (w : ℕ) : Type 0 where
  pub goes_out : GoesOut B w
  pub switch : ℕ
  pub ends : Ends B t st switch w
