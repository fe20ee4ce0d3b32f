-- The published joins between ports of a block, and the ports that a chain of them links (document 01, 'Joins'; document 02, W2). "A way
-- through a tile outside the block is not followed", but for W2's two names of what stands outside: `east_in` and `beyond`.
use Rattle.std.specs.Prelude.{ℕ, suc, ◌+◌, ◌≤◌, ◌<◌, ◌≡◌}
use Rattle.ports.specs.declared.size.Block.{Block}
use Rattle.ports.specs.Block.{port}
use Rattle.fabric.specs.Span.{flip}
use Rattle.ports.specs.PortIndex.{sp4_hl, sp4_hr, sp4_vt, sp4_vb, sp4_rvb, sp12_hl, sp12_hr, sp12_vt, sp12_vb, out_port, neigh_bnl, neigh_bot, neigh_bnr, neigh_lft, neigh_rgt, neigh_tnl, neigh_top, neigh_tnr, glb_netwk, carry_in, cout_port, lout_port, ltin}

-- the port is a neigh_op name, of a tile of the block, for output i of the tile (X - 1, Y - 1), which is inside the block or outside it
pub data Sees (B : Block) : ℕ → ℕ → ℕ → ℕ → Type 0 where
  -- bnl, the neighbour to the south-west
  bnl : (x y i : ℕ) → x < B.w → y < B.h → i < 8 → Sees B (port B x y (neigh_bnl i)) x y i
  -- bot, to the south
  bot : (x y i : ℕ) → x < B.w → y < B.h → i < 8 → Sees B (port B x y (neigh_bot i)) (x + 1) y i
  -- "bnr is (x+1, y−1)"
  bnr : (x y i : ℕ) → x < B.w → y < B.h → i < 8 → Sees B (port B x y (neigh_bnr i)) (x + 2) y i
  -- lft, to the west
  lft : (x y i : ℕ) → x < B.w → y < B.h → i < 8 → Sees B (port B x y (neigh_lft i)) x (y + 1) i
  -- rgt, to the east
  rgt : (x y i : ℕ) → x < B.w → y < B.h → i < 8 → Sees B (port B x y (neigh_rgt i)) (x + 2) (y + 1) i
  -- tnl, to the north-west
  tnl : (x y i : ℕ) → x < B.w → y < B.h → i < 8 → Sees B (port B x y (neigh_tnl i)) x (y + 2) i
  -- top, to the north
  top : (x y i : ℕ) → x < B.w → y < B.h → i < 8 → Sees B (port B x y (neigh_top i)) (x + 1) (y + 2) i
  -- tnr, to the north-east
  tnr : (x y i : ℕ) → x < B.w → y < B.h → i < 8 → Sees B (port B x y (neigh_tnr i)) (x + 2) (y + 2) i

-- the tile (X - 1, Y - 1) is outside the block
abbrev pub Outside : Block → ℕ → ℕ → Type 0
Outside B X Y = 1 ≤ X → X ≤ B.w → 1 ≤ Y → Y ≤ B.h → ⊥

-- the published joins: the two ports are joined
pub data Join (B : Block) : ℕ → ℕ → Type 0 where
  -- "sp4_h_r_k at (x, y) with sp4_h_l_k at (x+1, y), every k"
  sp4_h_side : (x y k : ℕ) → suc x < B.w → y < B.h → k < 48 → Join B (port B x y (sp4_hr k)) (port B (suc x) y (sp4_hl k))
  -- "in one tile sp4_h_l_k with sp4_h_r_m, m = (k with its lowest bit flipped) + 12, for k 0 to 35"
  sp4_h_in : (x y k : ℕ) → x < B.w → y < B.h → k < 36 → Join B (port B x y (sp4_hl k)) (port B x y (sp4_hr (flip k + 12)))
  -- "sp4_v_b_k at (x, y) with sp4_v_t_k at (x, y−1)"
  sp4_v_side : (x y k : ℕ) → x < B.w → suc y < B.h → k < 48 → Join B (port B x (suc y) (sp4_vb k)) (port B x y (sp4_vt k))
  -- "in one tile sp4_v_t_k with sp4_v_b_m, m as above"
  sp4_v_in : (x y k : ℕ) → x < B.w → y < B.h → k < 36 → Join B (port B x y (sp4_vt k)) (port B x y (sp4_vb (flip k + 12)))
  -- "sp4_r_v_b_k at (x, y) with sp4_v_b_k at (x+1, y)"
  sp4_right : (x y k : ℕ) → suc x < B.w → y < B.h → k < 48 → Join B (port B x y (sp4_rvb k)) (port B (suc x) y (sp4_vb k))
  -- "span-12 likewise, in one tile k 0 to 21 with + 2 for + 12, and no right-neighbour names": along a row between tiles ..
  sp12_h_side : (x y k : ℕ) → suc x < B.w → y < B.h → k < 24 → Join B (port B x y (sp12_hr k)) (port B (suc x) y (sp12_hl k))
  -- .. in one tile ..
  sp12_h_in : (x y k : ℕ) → x < B.w → y < B.h → k < 22 → Join B (port B x y (sp12_hl k)) (port B x y (sp12_hr (flip k + 2)))
  -- .. along a column between tiles ..
  sp12_v_side : (x y k : ℕ) → x < B.w → suc y < B.h → k < 24 → Join B (port B x (suc y) (sp12_vb k)) (port B x y (sp12_vt k))
  -- .. and in one tile
  sp12_v_in : (x y k : ℕ) → x < B.w → y < B.h → k < 22 → Join B (port B x y (sp12_vt k)) (port B x y (sp12_vb (flip k + 2)))
  -- W2: "where the owner says that the column to the east is logic or RAM, sp4_r_v_b_k at the east column of row y is joined to
  -- sp4_r_v_b_m of row y−1, m as in 01, k 0 to 35, both rows in the block"
  east_in : (x y k : ℕ) → B.east ≡ 1 → suc x ≡ B.w → suc y < B.h → k < 36
      → Join B (port B x (suc y) (sp4_rvb k)) (port B x y (sp4_rvb (flip k + 12)))
  -- "neigh_op names with the same-numbered lutff out of that neighbour"
  neigh : {p : ℕ} (x y i : ℕ) → x < B.w → y < B.h → Sees B p (suc x) (suc y) i → Join B p (port B x y (out_port i))
  -- W2: "On all sides, neigh_op names that mean one outside tile and the same number are one wire."
  beyond : {p q : ℕ} (X Y i : ℕ) → Outside B X Y → Sees B p X Y i → Sees B q X Y i → Join B p q
  -- "glb_netwk_n of all tiles"
  global : (x y x' y' n : ℕ) → x < B.w → y < B.h → x' < B.w → y' < B.h → n < 8 → Join B (port B x y (glb_netwk n)) (port B x' y' (glb_netwk n))
  -- "carry_in at (x, y) with cout 7 [..] of (x, y−1)"
  carry_chain_lem : (x y : ℕ) → x < B.w → suc y < B.h → Join B (port B x (suc y) carry_in) (port B x y (cout_port 7))
  -- "and ltin with lout 7, of (x, y−1)"
  lut_cascade : (x y : ℕ) → x < B.w → suc y < B.h → Join B (port B x (suc y) ltin) (port B x y (lout_port 7))

-- "Ports are one wire if a chain of these links them", forth or back
pub data Linked (B : Block) : ℕ → ℕ → Type 0 where
  same : {p : ℕ} → Linked B p p
  one : {p q : ℕ} → Join B p q → Linked B p q
  back : {p q : ℕ} → Linked B p q → Linked B q p
  on : {p q r : ℕ} → Linked B p q → Linked B q r → Linked B p r

-- "A wire's number is its lowest port number": w is that of the wire that port p is on
pub record Lowest (B : Block) (p w : ℕ) : Type 0 where
  pub linked : Linked B p w
  pub least : (q : ℕ) → Linked B p q → w ≤ q
