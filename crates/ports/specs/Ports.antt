-- The ports of a tile (document 01, 'Ports'): the table's ranges in index order, and what each port is.
use Rattle.std.specs.Prelude.{ℕ, ◌-◌, ◌/◌, ◌%◌, List, [], ◌∷◌, cond, ltb}
use Rattle.ports.specs.declared.Port.{Port}
use Rattle.ports.specs.declared.Port.TheVariants.{Sp4HL, Sp4HR, Sp4VT, Sp4VB, Sp4RVB, Sp12HL, Sp12HR, Sp12VT, Sp12VB, Local, Glb2Local, In, Out, NeighOp, Clk, Cen, SR, GlbNetwk, CarryIn, CarryInMux, Cout, Lout, Ltin}

-- a range of ports: how many there are, and what each is
pub record PortRange : Type 0 where
  pub count : ℕ
  pub make : ℕ → Port

abbrev pub port_range : ℕ → (ℕ → Port) → PortRange
port_range n f = record { count = n; make = f }

-- "Ranges, in index order"
abbrev pub port_table : List PortRange
port_table =
    port_range 48 Sp4HL ∷ port_range 48 Sp4HR ∷ port_range 48 Sp4VT ∷ port_range 48 Sp4VB ∷ port_range 48 Sp4RVB
    ∷ port_range 24 Sp12HL ∷ port_range 24 Sp12HR ∷ port_range 24 Sp12VT ∷ port_range 24 Sp12VB
    ∷ port_range 32 Local ∷ port_range 4 Glb2Local
    ∷ port_range 32 (λ k. In (k / 4) (k % 4)) ∷ port_range 8 Out
    ∷ port_range 8 (NeighOp 0 0)  -- bnl
    ∷ port_range 8 (NeighOp 1 0)  -- bot
    ∷ port_range 8 (NeighOp 2 0)  -- bnr
    ∷ port_range 8 (NeighOp 0 1)  -- lft
    ∷ port_range 8 (NeighOp 2 1)  -- rgt
    ∷ port_range 8 (NeighOp 0 2)  -- tnl
    ∷ port_range 8 (NeighOp 1 2)  -- top
    ∷ port_range 8 (NeighOp 2 2)  -- tnr
    ∷ port_range 1 (λ k. Clk) ∷ port_range 1 (λ k. Cen) ∷ port_range 1 (λ k. SR) ∷ port_range 8 GlbNetwk
    ∷ port_range 1 (λ k. CarryIn) ∷ port_range 1 (λ k. CarryInMux) ∷ port_range 8 Cout ∷ port_range 8 Lout ∷ port_range 1 (λ k. Ltin)
    ∷ []

-- what stands at place q of a table of ranges. Past the last range there is no port, and nobody asks what is said there.
abbrev pub find : List PortRange → ℕ → Port
find [] q = Ltin
find (r ∷ rs) q = cond (ltb q r.count) (r.make q) (find rs (q - r.count))

-- "Each tile has 506 ports [..] Ranges, in index order": what port q of a tile is
unfoldable pub port_at : ℕ → Port
port_at q = find port_table q
