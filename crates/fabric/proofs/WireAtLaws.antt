-- What an arm of a match on a port's name shows of its wire. Main laws: `wire_by_name`, `lone_wire`.
use Prim.Native.Nat.{ℕ, ◌<◌}
use mathlib.Core.Path.{◌≡◌, refl, sym, ◌∙◌, ap, subst}
use mathlib.Core.List.{List, [], ◌∷◌}
use types.Run.{OneOf, hit, miss}
use denote.Enum.Declared.{tag_of}
use Rattle.ports.specs.declared.size.Block.{Block}
use Rattle.ports.specs.declared.Port.{Port}
use Rattle.ports.specs.declared.Port.TheVariants.{Sp4HL, Sp4HR, Sp4VT, Sp4VB, Sp4RVB, Sp12HL, Sp12HR, Sp12VT, Sp12VB, Local, Glb2Local, In, Out, NeighOp, Clk, Cen, SR, GlbNetwk, CarryIn, CarryInMux, Cout, Lout, Ltin}
use Rattle.ports.specs.Block.{port}
use Rattle.ports.specs.Lengths.{ports_per_tile}
use Rattle.ports.specs.Ports.{port_at}
use Rattle.ports.specs.PortNames.{index_of, Within}
use Rattle.fabric.specs.Wire.{wire_of, wire_at}
use Rattle.ports.proofs.PortLaws.{port_at_back, port_at_within}
use Rattle.fabric.proofs.PlaceLaws.{wire_port}
use Rattle.ports.specs.contracts.Port.{the_type}

-- the name of port q has its numbers in their ranges
pub name_within : (P : Port) (q : ℕ) → q < ports_per_tile → P ≡ port_at q → Within P
name_within P q h e = subst Within (sym e) (port_at_within q h)

module _ (B : Block) (x y q : ℕ) (hx : x < B.w) (hq : q < ports_per_tile) where
  pub wire_by_name : (P : Port) (r : ℕ) → P ≡ port_at q → r ≡ wire_at B x y P → r ≡ wire_of B (port B x y q)
  wire_by_name P r e d = d ∙ ap (wire_at B x y) e ∙ sym (wire_port B x y q hx hq)

-- the names that no join has on its lower side, by their places in the enum: Local, Glb2Local, In, Clk, Cen, SR, CarryInMux, Cout, Lout
abbrev pub lone_names : List ℕ
lone_names = 9 ∷ 10 ∷ 11 ∷ 14 ∷ 15 ∷ 16 ∷ 19 ∷ 20 ∷ 21 ∷ []

pub lone_wire : (B : Block) (x y : ℕ) (P : Port) → OneOf lone_names (tag_of the_type P) → port B x y (index_of P) ≡ wire_at B x y P
unfolding wire_at
lone_wire B x y (Sp4HL k) h = absurd (miss lone_names 0 tt h)
lone_wire B x y (Sp4HR k) h = absurd (miss lone_names 1 tt h)
lone_wire B x y (Sp4VT k) h = absurd (miss lone_names 2 tt h)
lone_wire B x y (Sp4VB k) h = absurd (miss lone_names 3 tt h)
lone_wire B x y (Sp4RVB k) h = absurd (miss lone_names 4 tt h)
lone_wire B x y (Sp12HL k) h = absurd (miss lone_names 5 tt h)
lone_wire B x y (Sp12HR k) h = absurd (miss lone_names 6 tt h)
lone_wire B x y (Sp12VT k) h = absurd (miss lone_names 7 tt h)
lone_wire B x y (Sp12VB k) h = absurd (miss lone_names 8 tt h)
lone_wire B x y (Local k) h = refl
lone_wire B x y (Glb2Local k) h = refl
lone_wire B x y (In i j) h = refl
lone_wire B x y (Out i) h = absurd (miss lone_names 12 tt h)
lone_wire B x y (NeighOp dx dy i) h = absurd (miss lone_names 13 tt h)
lone_wire B x y Clk h = refl
lone_wire B x y Cen h = refl
lone_wire B x y SR h = refl
lone_wire B x y (GlbNetwk n) h = absurd (miss lone_names 17 tt h)
lone_wire B x y CarryIn h = absurd (miss lone_names 18 tt h)
lone_wire B x y CarryInMux h = refl
lone_wire B x y (Cout i) h = refl
lone_wire B x y (Lout i) h = refl
lone_wire B x y Ltin h = absurd (miss lone_names 22 tt h)

-- the port's name is none of those that an arm of its own takes
pub record NoJoined (P : Port) : Type 0 where
  pub not_sp4hl : (k : ℕ) → P ≡ Sp4HL k → ⊥
  pub not_sp4hr : (k : ℕ) → P ≡ Sp4HR k → ⊥
  pub not_sp4vt : (k : ℕ) → P ≡ Sp4VT k → ⊥
  pub not_sp4vb : (k : ℕ) → P ≡ Sp4VB k → ⊥
  pub not_sp4rvb : (k : ℕ) → P ≡ Sp4RVB k → ⊥
  pub not_sp12hl : (k : ℕ) → P ≡ Sp12HL k → ⊥
  pub not_sp12hr : (k : ℕ) → P ≡ Sp12HR k → ⊥
  pub not_sp12vt : (k : ℕ) → P ≡ Sp12VT k → ⊥
  pub not_sp12vb : (k : ℕ) → P ≡ Sp12VB k → ⊥
  pub not_out : (i : ℕ) → P ≡ Out i → ⊥
  pub not_neigh_op : (dx dy i : ℕ) → P ≡ NeighOp dx dy i → ⊥
  pub not_glb_netwk : (n : ℕ) → P ≡ GlbNetwk n → ⊥
  pub not_carry_in : P ≡ CarryIn → ⊥
  pub not_ltin : P ≡ Ltin → ⊥

-- then it is one of the names that no join has on its lower side
pub lone_name : (P : Port) → NoJoined P → OneOf lone_names (tag_of the_type P)
lone_name (Sp4HL k) h = absurd (h.not_sp4hl k refl)
lone_name (Sp4HR k) h = absurd (h.not_sp4hr k refl)
lone_name (Sp4VT k) h = absurd (h.not_sp4vt k refl)
lone_name (Sp4VB k) h = absurd (h.not_sp4vb k refl)
lone_name (Sp4RVB k) h = absurd (h.not_sp4rvb k refl)
lone_name (Sp12HL k) h = absurd (h.not_sp12hl k refl)
lone_name (Sp12HR k) h = absurd (h.not_sp12hr k refl)
lone_name (Sp12VT k) h = absurd (h.not_sp12vt k refl)
lone_name (Sp12VB k) h = absurd (h.not_sp12vb k refl)
lone_name (Local k) h = hit lone_names 9 tt
lone_name (Glb2Local k) h = hit lone_names 10 tt
lone_name (In i j) h = hit lone_names 11 tt
lone_name (Out i) h = absurd (h.not_out i refl)
lone_name (NeighOp dx dy i) h = absurd (h.not_neigh_op dx dy i refl)
lone_name Clk h = hit lone_names 14 tt
lone_name Cen h = hit lone_names 15 tt
lone_name SR h = hit lone_names 16 tt
lone_name (GlbNetwk n) h = absurd (h.not_glb_netwk n refl)
lone_name CarryIn h = absurd (h.not_carry_in refl)
lone_name CarryInMux h = hit lone_names 19 tt
lone_name (Cout i) h = hit lone_names 20 tt
lone_name (Lout i) h = hit lone_names 21 tt
lone_name Ltin h = absurd (h.not_ltin refl)

-- the same for the code, which has the port's index at hand
pub lone_port : (B : Block) (x y q r : ℕ) (P : Port) → q < ports_per_tile → P ≡ port_at q → OneOf lone_names (tag_of the_type P) → r ≡ port B x y q → r ≡ wire_at B x y P
lone_port B x y q r P hq e h d =
    let i : q ≡ index_of P = sym (port_at_back q hq) ∙ ap index_of (sym e) in
    d ∙ ap (port B x y) i ∙ lone_wire B x y P h
