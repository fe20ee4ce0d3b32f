-- The ports that show one output: the tile's own out, where it is in the block, and the names of its neighbours. Main law: `output_reach`.
use Prim.Native.Nat.{ℕ, suc, ◌+◌, ◌-◌, ◌≤◌, ◌<◌, min}
use mathlib.Core.Path.{◌≡◌}
use mathlib.Core.Logic.{◌⊎◌, inl, inr}
use native.Mathlib.Omega.{arith}
use native.Mathlib.Nat.{mul-le-mul_right, eq-or-lt_of_le}
use Rattle.lists.proofs.CaseLaws.{eq_or_ne}
use Rattle.ports.specs.declared.size.Block.{Block}
use Rattle.ports.specs.Block.{port}
use Rattle.ports.specs.PortIndex.{output_at, out_port}
use Rattle.fabric.specs.Joins.{Linked, same, one, back, on, neigh, beyond, Outside}
use Rattle.fabric.specs.OutputWire.{first_output, output_wire}
use Rattle.ports.proofs.PortLaws.{neighbour}
use Rattle.fabric.proofs.NeighbourLaws.{output_at_lt, sees, in_or_out}
use Rattle.fabric.proofs.Reaching.{Reach}

module _ (B : Block) (i : ℕ) (hi : i < 8) where
  -- the tile (x, y) shows output i of the tile (u, v), which may be itself
  shown : (dx dy x y u v : ℕ) → dx < 3 → dy < 3 → x + dx ≡ suc u → y + dy ≡ suc v → x < B.w → y < B.h → u < B.w → v < B.h
      → Linked B (port B x y (output_at dx dy i)) (port B u v (out_port i))
  shown dx dy x y u v hdx hdy p q hx hy hu hv = go (eq_or_ne dx 1) (eq_or_ne dy 1)
    where
      other : (dx ≡ 1 → dy ≡ 1 → ⊥) → Linked B (port B x y (output_at dx dy i)) (port B u v (out_port i))
      other apart = one (neigh u v i hu hv (sees B dx dy i x y (suc u) (suc v) (neighbour dx dy i hdx hdy apart hi) hx hy p q))

      go : (dx ≡ 1) ⊎ (dx ≡ 1 → ⊥) → (dy ≡ 1) ⊎ (dy ≡ 1 → ⊥) → Linked B (port B x y (output_at dx dy i)) (port B u v (out_port i))
      go (inl a) (inl b) =
          let e : x ≡ u = omega arith in
          let g : y ≡ v = omega arith in
          rw (a, b, e, g) same
      go (inr a) d = other (λ e g. a e)
      go (inl a) (inr b) = other (λ e g. b g)

  first_low : (dx dy x y : ℕ) → dx < 3 → dy < 3 → x < B.w → first_output B (x + dx) (y + dy) i ≤ port B x y (output_at dx dy i)
  first_low dx dy x y hdx hdy hx = by_row (eq-or-lt_of_le (omega arith))
    where
      by_column : y + dy - 2 ≡ y → (x + dx - 2 ≡ x) ⊎ (x + dx - 2 < x) → first_output B (x + dx) (y + dy) i ≤ port B x y (output_at dx dy i)
      by_column e (inl d) =
          let a : min (x + dx) 2 ≡ dx = omega arith in
          let b : min (y + dy) 2 ≡ dy = omega arith in
          rw (e, d, a, b) (omega arith)
      by_column e (inr d) = rw e (omega (arith, output_at_lt (min (x + dx) 2) (min (y + dy) 2) i hi))

      by_row : (y + dy - 2 ≡ y) ⊎ (y + dy - 2 < y) → first_output B (x + dx) (y + dy) i ≤ port B x y (output_at dx dy i)
      by_row (inl e) = by_column e (eq-or-lt_of_le (omega arith))
      by_row (inr e) = omega (arith, output_at_lt (min (x + dx) 2) (min (y + dy) 2) i hi, mul-le-mul_right B.w e)

  pub output_reach : (x y dx dy : ℕ) → dx < 3 → dy < 3 → x < B.w → y < B.h → Reach B (port B x y (output_at dx dy i)) (output_wire B x y dx dy i)
  output_reach x y dx dy hdx hdy hx hy = record { linked = go (in_or_out B (x + dx) (y + dy)); low = first_low dx dy x y hdx hdy hx }
    where
      go : ((1 ≤ x + dx) × (x + dx ≤ B.w) × (1 ≤ y + dy) × (y + dy ≤ B.h)) ⊎ Outside B (x + dx) (y + dy)
          → Linked B (port B x y (output_at dx dy i)) (output_wire B x y dx dy i)
      -- inside, both are joined to the out
      go (inl (a, b, c, d)) =
          on (shown dx dy x y (x + dx - 1) (y + dy - 1) hdx hdy (omega arith) (omega arith) hx hy (omega arith) (omega arith))
          (back (shown (min (x + dx) 2) (min (y + dy) 2) (x + dx - 2) (y + dy - 2) (x + dx - 1) (y + dy - 1)
          (omega arith) (omega arith) (omega arith) (omega arith) (omega arith) (omega arith) (omega arith) (omega arith)))
      -- outside, they are joined to each other
      go (inr out) =
          one (beyond (x + dx) (y + dy) i out
          (sees B dx dy i x y (x + dx) (y + dy)
          (neighbour dx dy i hdx hdy (λ e g. out (omega arith) (omega arith) (omega arith) (omega arith)) hi) hx hy (omega arith) (omega arith))
          (sees B (min (x + dx) 2) (min (y + dy) 2) i (x + dx - 2) (y + dy - 2) (x + dx) (y + dy)
          (neighbour (min (x + dx) 2) (min (y + dy) 2) i (omega arith) (omega arith) (λ e g. out (omega arith) (omega arith) (omega arith) (omega arith)) hi)
          (omega arith) (omega arith) (omega arith) (omega arith)))

-- ---- for the code that finds it, from the parts that it finds

module _ (B : Block) (x y dx dy i : ℕ) where
  pub output_wire_is : {u v m n q r : ℕ} → u ≡ x + dx - 2 → v ≡ y + dy - 2 → m ≡ min (x + dx) 2 → n ≡ min (y + dy) 2 → q ≡ output_at m n i
      → r ≡ port B u v q → r ≡ output_wire B x y dx dy i
  output_wire_is eu ev em en eq er = cc
