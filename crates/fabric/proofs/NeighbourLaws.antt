-- The ports of an output by where its tile stands, and the neigh_op names by their directions. Main laws: `output_at_lt`, `sees`, `sees_seen`.
use Prim.Native.Nat.{ℕ, zero, suc, ◌+◌, ◌*◌, ◌≤◌, ◌<◌}
use mathlib.Core.Path.{◌≡◌, refl}
use mathlib.Core.Logic.{◌⊎◌, inl, inr}
use native.Mathlib.Omega.{arith}
use Rattle.lists.proofs.CaseLaws.{lt_or_le}
use Rattle.ports.specs.declared.size.Block.{Block}
use Rattle.ports.specs.PortIndex.{output_at, out_port, neigh_bnl, neigh_lft, neigh_rgt, neigh_tnl, clk}
use Rattle.ports.specs.PortNames.{Neighbour}
use Rattle.ports.specs.Block.{port}
use Rattle.fabric.specs.Joins.{Sees, bnl, bot, bnr, lft, rgt, tnl, top, tnr, Outside}
use Rattle.ports.proofs.PortLaws.{neighbour}

pub output_at_lt : (dx dy i : ℕ) → i < 8 → output_at dx dy i < clk
output_at_lt zero zero i h = omega arith
output_at_lt zero (suc zero) i h = omega arith
output_at_lt zero (suc (suc b)) i h = omega arith
output_at_lt (suc zero) zero i h = omega arith
output_at_lt (suc zero) (suc zero) i h = omega arith
output_at_lt (suc zero) (suc (suc b)) i h = omega arith
output_at_lt (suc (suc a)) zero i h = omega arith
output_at_lt (suc (suc a)) (suc zero) i h = omega arith
output_at_lt (suc (suc a)) (suc (suc b)) i h = omega arith

-- ---- the ports of an output, as the code adds them up

pub output_at_south : (dx dy i : ℕ) → dx < 3 → dy ≡ 0 → neigh_bnl (8 * dx) + i ≡ output_at dx dy i
output_at_south dx (suc dy) i h e = absurd (omega arith)
output_at_south zero zero i h e = refl
output_at_south (suc zero) zero i h e = refl
output_at_south (suc (suc dx)) zero i h e = omega arith

pub output_at_north : (dx dy i : ℕ) → dx < 3 → dy ≡ 2 → neigh_tnl (8 * dx) + i ≡ output_at dx dy i
output_at_north dx zero i h e = absurd (omega arith)
output_at_north dx (suc zero) i h e = absurd (omega arith)
output_at_north zero (suc (suc dy)) i h e = refl
output_at_north (suc zero) (suc (suc dy)) i h e = refl
output_at_north (suc (suc dx)) (suc (suc dy)) i h e = omega arith

pub output_at_west : (dx dy i : ℕ) → dx ≡ 0 → dy ≡ 1 → neigh_lft i ≡ output_at dx dy i
output_at_west dx dy i a b = rw (a, b)

pub output_at_own : (dx dy i : ℕ) → dx ≡ 1 → dy ≡ 1 → out_port i ≡ output_at dx dy i
output_at_own dx dy i a b = rw (a, b)

pub output_at_east : (dx dy i : ℕ) → dx ≡ 2 → dy ≡ 1 → neigh_rgt i ≡ output_at dx dy i
output_at_east dx dy i a b = rw (a, b)

-- ---- neigh_op names

-- the tile and the direction of a name for output i of the tile (X - 1, Y - 1)
pub record Seen (B : Block) (p X Y i : ℕ) : Type 0 where
  pub x : ℕ
  pub y : ℕ
  pub dx : ℕ
  pub dy : ℕ
  pub is : p ≡ port B x y (output_at dx dy i)
  pub named : Neighbour dx dy i
  pub x_lt : x < B.w
  pub y_lt : y < B.h
  pub column : x + dx ≡ X
  pub row : y + dy ≡ Y

module _ (B : Block) where
  seen : (dx dy i x y : ℕ) {X Y : ℕ} → Neighbour dx dy i → x < B.w → y < B.h → x + dx ≡ X → y + dy ≡ Y → Seen B (port B x y (output_at dx dy i)) X Y i
  seen dx dy i x y n hx hy a b = record { x = x; y = y; dx = dx; dy = dy; is = refl; named = n; x_lt = hx; y_lt = hy; column = a; row = b }

  pub sees_seen : {p X Y i : ℕ} → Sees B p X Y i → Seen B p X Y i
  sees_seen (bnl x y i hx hy hi) = seen 0 0 i x y (neighbour 0 0 i (omega arith) (omega arith) (λ a b. omega arith) hi) hx hy (omega arith) (omega arith)
  sees_seen (bot x y i hx hy hi) = seen 1 0 i x y (neighbour 1 0 i (omega arith) (omega arith) (λ a b. omega arith) hi) hx hy (omega arith) (omega arith)
  sees_seen (bnr x y i hx hy hi) = seen 2 0 i x y (neighbour 2 0 i (omega arith) (omega arith) (λ a b. omega arith) hi) hx hy (omega arith) (omega arith)
  sees_seen (lft x y i hx hy hi) = seen 0 1 i x y (neighbour 0 1 i (omega arith) (omega arith) (λ a b. omega arith) hi) hx hy (omega arith) (omega arith)
  sees_seen (rgt x y i hx hy hi) = seen 2 1 i x y (neighbour 2 1 i (omega arith) (omega arith) (λ a b. omega arith) hi) hx hy (omega arith) (omega arith)
  sees_seen (tnl x y i hx hy hi) = seen 0 2 i x y (neighbour 0 2 i (omega arith) (omega arith) (λ a b. omega arith) hi) hx hy (omega arith) (omega arith)
  sees_seen (top x y i hx hy hi) = seen 1 2 i x y (neighbour 1 2 i (omega arith) (omega arith) (λ a b. omega arith) hi) hx hy (omega arith) (omega arith)
  sees_seen (tnr x y i hx hy hi) = seen 2 2 i x y (neighbour 2 2 i (omega arith) (omega arith) (λ a b. omega arith) hi) hx hy (omega arith) (omega arith)

  pub sees : (dx dy i x y X Y : ℕ) → Neighbour dx dy i → x < B.w → y < B.h → x + dx ≡ X → y + dy ≡ Y → Sees B (port B x y (output_at dx dy i)) X Y i
  sees zero zero i x y X Y n hx hy a b =
      let e : X ≡ x = omega arith in
      let g : Y ≡ y = omega arith in
      rw (e, g) (bnl x y i hx hy n.i_lt)
  sees zero (suc zero) i x y X Y n hx hy a b =
      let e : X ≡ x = omega arith in
      let g : Y ≡ y + 1 = omega arith in
      rw (e, g) (lft x y i hx hy n.i_lt)
  sees zero (suc (suc dy)) i x y X Y n hx hy a b =
      let e : X ≡ x = omega arith in
      let g : Y ≡ y + 2 = omega (arith, n.dy_lt) in
      rw (e, g) (tnl x y i hx hy n.i_lt)
  sees (suc zero) zero i x y X Y n hx hy a b =
      let e : X ≡ x + 1 = omega arith in
      let g : Y ≡ y = omega arith in
      rw (e, g) (bot x y i hx hy n.i_lt)
  sees (suc zero) (suc zero) i x y X Y n hx hy a b = absurd (n.not_own refl refl)
  sees (suc zero) (suc (suc dy)) i x y X Y n hx hy a b =
      let e : X ≡ x + 1 = omega arith in
      let g : Y ≡ y + 2 = omega (arith, n.dy_lt) in
      rw (e, g) (top x y i hx hy n.i_lt)
  sees (suc (suc dx)) zero i x y X Y n hx hy a b =
      let e : X ≡ x + 2 = omega (arith, n.dx_lt) in
      let g : Y ≡ y = omega arith in
      rw (e, g) (bnr x y i hx hy n.i_lt)
  sees (suc (suc dx)) (suc zero) i x y X Y n hx hy a b =
      let e : X ≡ x + 2 = omega (arith, n.dx_lt) in
      let g : Y ≡ y + 1 = omega arith in
      rw (e, g) (rgt x y i hx hy n.i_lt)
  sees (suc (suc dx)) (suc (suc dy)) i x y X Y n hx hy a b =
      let e : X ≡ x + 2 = omega (arith, n.dx_lt) in
      let g : Y ≡ y + 2 = omega (arith, n.dy_lt) in
      rw (e, g) (tnr x y i hx hy n.i_lt)

  -- whether the tile (X - 1, Y - 1) is in the block
  pub in_or_out : (X Y : ℕ) → ((1 ≤ X) × (X ≤ B.w) × (1 ≤ Y) × (Y ≤ B.h)) ⊎ Outside B X Y
  in_or_out X Y = go (lt_or_le 0 X) (lt_or_le B.w X) (lt_or_le 0 Y) (lt_or_le B.h Y)
    where
      go : (0 < X) ⊎ (X ≤ 0) → (B.w < X) ⊎ (X ≤ B.w) → (0 < Y) ⊎ (Y ≤ 0) → (B.h < Y) ⊎ (Y ≤ B.h)
          → ((1 ≤ X) × (X ≤ B.w) × (1 ≤ Y) × (Y ≤ B.h)) ⊎ Outside B X Y
      go (inl a) (inr b) (inl c) (inr d) = inl (a, b, c, d)
      go (inr a) b c d = inr (λ p q r s. omega arith)
      go (inl a) (inl b) c d = inr (λ p q r s. omega arith)
      go (inl a) (inr b) (inr c) d = inr (λ p q r s. omega arith)
      go (inl a) (inr b) (inl c) (inl d) = inr (λ p q r s. omega arith)
