-- The table of ports read forth and back: `index_back` (each name stands where the paper puts it), `port_at_back` (each port has its
-- own name), `port_at_within` (with numbers in their ranges).
use Prim.Native.Nat.{ℕ, zero, suc, ◌+◌, ◌-◌, ◌*◌, ◌/◌, ◌%◌, ◌≤◌, ◌<◌}
use mathlib.Core.Path.{◌≡◌, refl, sym, ◌∙◌, ap, ap₂}
use native.Mathlib.Omega.{arith}
use Rattle.ports.specs.Lengths.{ports_per_tile}
use Rattle.ports.specs.Ports.{port_table, find, port_at}
use Rattle.ports.specs.PortNames.{index_of, Neighbour, Within}
use Rattle.ports.specs.declared.Port.{Port}
use Rattle.ports.specs.declared.Port.TheVariants.{Sp4HL, Sp4HR, Sp4VT, Sp4VB, Sp4RVB, Sp12HL, Sp12HR, Sp12VT, Sp12VB, Local, Glb2Local, In, Out, NeighOp, Clk, Cen, SR, GlbNetwk, CarryIn, CarryInMux, Cout, Lout, Ltin}
use Rattle.ports.proofs.FindLaws.{base, nth, find_range, find_all, find_past, ◌▸◌, none}

-- P is the name of port q
pub record Named (q : ℕ) (P : Port) : Type 0 where
  pub index : index_of P ≡ q
  pub within : Within P

pub neighbour : (dx dy i : ℕ) → dx < 3 → dy < 3 → (dx ≡ 1 → dy ≡ 1 → ⊥) → i < 8 → Neighbour dx dy i
neighbour dx dy i a b apart h = record { dx_lt = a; dy_lt = b; not_own = apart; i_lt = h }

port_named : (q : ℕ) → q < ports_per_tile → Named q (port_at q)
unfolding port_at
port_named =
    find_all Named port_table (
    (λ k h. record { index = refl; within = h })
    ▸ (λ k h. record { index = refl; within = h })
    ▸ (λ k h. record { index = refl; within = h })
    ▸ (λ k h. record { index = refl; within = h })
    ▸ (λ k h. record { index = refl; within = h })
    ▸ (λ k h. record { index = refl; within = h })
    ▸ (λ k h. record { index = refl; within = h })
    ▸ (λ k h. record { index = refl; within = h })
    ▸ (λ k h. record { index = refl; within = h })
    ▸ (λ k h. record { index = refl; within = h })
    ▸ (λ k h. record { index = refl; within = h })
    ▸ (λ k h. record { index = omega arith; within = (omega arith, omega arith) })
    ▸ (λ k h. record { index = refl; within = h })
    ▸ (λ k h. record { index = refl; within = neighbour 0 0 k (omega arith) (omega arith) (λ a b. omega arith) h })
    ▸ (λ k h. record { index = refl; within = neighbour 1 0 k (omega arith) (omega arith) (λ a b. omega arith) h })
    ▸ (λ k h. record { index = refl; within = neighbour 2 0 k (omega arith) (omega arith) (λ a b. omega arith) h })
    ▸ (λ k h. record { index = refl; within = neighbour 0 1 k (omega arith) (omega arith) (λ a b. omega arith) h })
    ▸ (λ k h. record { index = refl; within = neighbour 2 1 k (omega arith) (omega arith) (λ a b. omega arith) h })
    ▸ (λ k h. record { index = refl; within = neighbour 0 2 k (omega arith) (omega arith) (λ a b. omega arith) h })
    ▸ (λ k h. record { index = refl; within = neighbour 1 2 k (omega arith) (omega arith) (λ a b. omega arith) h })
    ▸ (λ k h. record { index = refl; within = neighbour 2 2 k (omega arith) (omega arith) (λ a b. omega arith) h })
    ▸ (λ k h. record { index = omega arith; within = tt })
    ▸ (λ k h. record { index = omega arith; within = tt })
    ▸ (λ k h. record { index = omega arith; within = tt })
    ▸ (λ k h. record { index = refl; within = h })
    ▸ (λ k h. record { index = omega arith; within = tt })
    ▸ (λ k h. record { index = omega arith; within = tt })
    ▸ (λ k h. record { index = refl; within = h })
    ▸ (λ k h. record { index = refl; within = h })
    ▸ (λ k h. record { index = omega arith; within = tt })
    ▸ none
    )

-- each port has its own name
pub port_at_back : (q : ℕ) → q < ports_per_tile → index_of (port_at q) ≡ q
port_at_back q h = (port_named q h).index

pub port_at_within : (q : ℕ) → q < ports_per_tile → Within (port_at q)
port_at_within q h = (port_named q h).within

cell_input : (i j : ℕ) → i < 8 → j < 4 → port_at (index_of (In i j)) ≡ In i j
unfolding port_at
cell_input i j hi hj =
    let e : 372 + 4 * i + j ≡ base port_table 11 + (4 * i + j) = omega arith in
    let d : (4 * i + j) / 4 ≡ i = omega arith in
    let m : (4 * i + j) % 4 ≡ j = omega arith in
    ap (find port_table) e ∙ find_range port_table 11 (4 * i + j) (omega arith) ∙ ap₂ In d m

-- each name stands where the paper puts it
pub index_back : (P : Port) → Within P → port_at (index_of P) ≡ P
unfolding port_at
index_back (Sp4HL k) h = find_range port_table 0 k h
index_back (Sp4HR k) h = find_range port_table 1 k h
index_back (Sp4VT k) h = find_range port_table 2 k h
index_back (Sp4VB k) h = find_range port_table 3 k h
index_back (Sp4RVB k) h = find_range port_table 4 k h
index_back (Sp12HL k) h = find_range port_table 5 k h
index_back (Sp12HR k) h = find_range port_table 6 k h
index_back (Sp12VT k) h = find_range port_table 7 k h
index_back (Sp12VB k) h = find_range port_table 8 k h
index_back (Local k) h = find_range port_table 9 k h
index_back (Glb2Local k) h = find_range port_table 10 k h
index_back (In i j) h = cell_input i j h.0 h.1
index_back (Out i) h = find_range port_table 12 i h
index_back (NeighOp dx dy i) h = neighbours dx dy h.dx_lt h.dy_lt h.not_own h.i_lt
  where
    neighbours : (dx dy : ℕ) → dx < 3 → dy < 3 → (dx ≡ 1 → dy ≡ 1 → ⊥) → i < 8 → find port_table (index_of (NeighOp dx dy i)) ≡ NeighOp dx dy i
    neighbours zero zero a b n l = find_range port_table 13 i l
    neighbours (suc zero) zero a b n l = find_range port_table 14 i l
    neighbours (suc (suc dx)) zero a b n l = let e : dx ≡ 0 = omega arith in rw e (find_range port_table 15 i l)
    neighbours zero (suc zero) a b n l = find_range port_table 16 i l
    neighbours (suc zero) (suc zero) a b n l = absurd (n refl refl)
    neighbours (suc (suc dx)) (suc zero) a b n l = let e : dx ≡ 0 = omega arith in rw e (find_range port_table 17 i l)
    neighbours zero (suc (suc dy)) a b n l = let d : dy ≡ 0 = omega arith in rw d (find_range port_table 18 i l)
    neighbours (suc zero) (suc (suc dy)) a b n l = let d : dy ≡ 0 = omega arith in rw d (find_range port_table 19 i l)
    neighbours (suc (suc dx)) (suc (suc dy)) a b n l =
        let e : dx ≡ 0 = omega arith in
        let d : dy ≡ 0 = omega arith in
        rw (e, d) (find_range port_table 20 i l)
index_back Clk h = find_range port_table 21 0 (omega arith)
index_back Cen h = find_range port_table 22 0 (omega arith)
index_back SR h = find_range port_table 23 0 (omega arith)
index_back (GlbNetwk n) h = find_range port_table 24 n h
index_back CarryIn h = find_range port_table 25 0 (omega arith)
index_back CarryInMux h = find_range port_table 26 0 (omega arith)
index_back (Cout i) h = find_range port_table 27 i h
index_back (Lout i) h = find_range port_table 28 i h
index_back Ltin h = find_range port_table 29 0 (omega arith)

-- ---- for the code that decodes

-- what port q is, in the port_range j that holds it
pub port_at_range : (j q : ℕ) → base port_table j ≤ q → q < base port_table j + (nth port_table j).count
    → (nth port_table j).make (q - base port_table j) ≡ port_at q
unfolding port_at
port_at_range j q l g =
    let e : base port_table j + (q - base port_table j) ≡ q = omega arith in
    sym (find_range port_table j (q - base port_table j) (omega arith)) ∙ ap (find port_table) e

pub port_at_past : (q : ℕ) → ports_per_tile ≤ q → Ltin ≡ port_at q
unfolding port_at
port_at_past q h = sym (find_past port_table q h)
