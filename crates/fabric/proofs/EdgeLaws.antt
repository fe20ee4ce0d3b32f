-- The lowest port at an edge in the code's terms: `e - 1` is the tile before edge e, and a test that was taken picks the clause.
use Prim.Native.Nat.{ℕ, zero, suc, ◌+◌, ◌-◌, ◌≤◌, ◌<◌}
use mathlib.Core.Path.{◌≡◌, refl}
use native.Mathlib.Omega.{arith}
use native.Mathlib.Numerals.{add-one}
use borrow.Author.Tests.{lt-ltb, le-ltb, eq-eqb, ne_eqb}
use Rattle.ports.specs.declared.size.Block.{Block}
use Rattle.fabric.specs.declared.span.Span.{Span}
use Rattle.ports.specs.Block.{port}
use Rattle.ports.specs.PortIndex.{sp4_rvb}
use Rattle.fabric.specs.Span.{flip, span4_column}
use Rattle.fabric.specs.SpanWire.{row_port, column_port, foot, sp4_foot, sp4_column, east_wire, right_wire}
use Rattle.fabric.specs.Wire.{below}

back_one : (e : ℕ) → suc e - 1 ≡ e
back_one e = omega arith

-- ---- the lowest port at an edge

module _ (B : Block) (s : Span) where
  pub row_port_off : (y e k : ℕ) → 0 < e → port B (e - 1) y (s.far + k) ≡ row_port s B y e k
  row_port_off y zero k h = absurd (omega arith)
  row_port_off y (suc e) k h = rw (back_one e)

  pub row_port_rim : (y e k : ℕ) → e ≤ 0 → port B 0 y (s.near + k) ≡ row_port s B y e k
  row_port_rim y zero k h = refl
  row_port_rim y (suc e) k h = absurd (omega arith)

  pub column_port_off : (rim : ℕ → ℕ) (x e k : ℕ) → 0 < e → port B x (e - 1) (s.near + k) ≡ column_port rim s B x e k
  column_port_off rim x zero k h = absurd (omega arith)
  column_port_off rim x (suc e) k h = rw (back_one e)

  pub column_port_rim : (rim : ℕ → ℕ) (x e k : ℕ) → e ≤ 0 → rim k ≡ column_port rim s B x e k
  column_port_rim rim x zero k h = refl
  column_port_rim rim x (suc e) k h = absurd (omega arith)

module _ (B : Block) (x k : ℕ) where
  pub sp4_foot_off : 0 < x → port B (x - 1) 0 (sp4_rvb k) ≡ sp4_foot B x k
  sp4_foot_off h = go x h
    where
      go : (x : ℕ) → 0 < x → port B (x - 1) 0 (sp4_rvb k) ≡ sp4_foot B x k
      go zero h = absurd (omega arith)
      go (suc x) h = rw (back_one x)

  pub sp4_foot_rim : x ≤ 0 → foot flip span4_column B x k ≡ sp4_foot B x k
  sp4_foot_rim h = go x h
    where
      go : (x : ℕ) → x ≤ 0 → foot flip span4_column B x k ≡ sp4_foot B x k
      go zero h = refl
      go (suc x) h = absurd (omega arith)

  module _ (y : ℕ) where
    pub right_wire_in : x + 1 < B.w → sp4_column B (x + 1) y k ≡ right_wire B x y k
    right_wire_in h = rw (add-one, lt-ltb (suc x) B.w (omega arith))

    pub right_wire_east : B.w ≤ x + 1 → B.east ≡ 1 → east_wire B x y k ≡ right_wire B x y k
    right_wire_east h e = rw (le-ltb (suc x) B.w (omega arith), eq-eqb B.east 1 e)

    pub right_wire_out : B.w ≤ x + 1 → (B.east ≡ 1 → ⊥) → port B x y (sp4_rvb k) ≡ right_wire B x y k
    right_wire_out h e = rw (le-ltb (suc x) B.w (omega arith), ne_eqb B.east 1 e)

-- ---- the tile to the south

module _ (B : Block) (x own q : ℕ) where
  pub below_in : (y : ℕ) → 0 < y → port B x (y - 1) q ≡ below B x y own q
  below_in zero h = absurd (omega arith)
  below_in (suc y) h = rw (back_one y)

  pub below_rim : (y : ℕ) → y ≤ 0 → port B x 0 own ≡ below B x y own q
  below_rim zero h = refl
  below_rim (suc y) h = absurd (omega arith)
