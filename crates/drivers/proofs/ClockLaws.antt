-- Ground 8: the computed tile is the lowest whose clock or reset comes from a cell, or there is none. Main laws: `clocked_exact`, `clocked_none_exact`.
use Prim.Native.Nat.{ℕ, ◌<◌}
use mathlib.Core.Path.{◌≡◌, refl, ap}
use mathlib.Core.Bool.{true, false, not, ◌&&◌}
use mathlib.Core.Logic.{⊎_elim, ◌↔◌}
use mathlib.Core.List.{List}
use native.Mathlib.Omega.{arith}
use borrow.Author.Tests.{not-true}
use Rattle.lists.proofs.CaseLaws.{clash, and_left, and_right, and_true, or_is, or_right}
use Rattle.ports.specs.declared.size.Block.{Block}
use Rattle.ports.specs.Block.{tiles}
use Rattle.ports.specs.Lengths.{ports_per_tile}
use Rattle.ports.specs.PortIndex.{clk, s_r}
use Rattle.ports.proofs.BlockLaws.{port_of_lt}
use Rattle.fabric.proofs.WireLaws.{wire_within, wire_idempotent}
use Rattle.equations.specs.Tiles.{flop_on}
use Rattle.equations.specs.Switches.{NoContention}
use Rattle.equations.specs.Equations.{wire, NoLoop}
use Rattle.equations.specs.Sources.{sources_of}
use Rattle.equations.specs.Routed.{Routed}
use Rattle.drivers.specs.declared.follow.Driver.{Driver}
use Rattle.drivers.specs.declared.follow.Driver.TheVariants.{Open, Constant, Cell, Ring}
use Rattle.drivers.specs.Following.{DrivenBy, driver_of}
use Rattle.drivers.specs.Clocks.{async_flop_on, ComesFromCell, FromCell, clock, reset, LowestFromCell, is_outside, any_cell, driven_outside, clocked_at, clocked_tile}
use Rattle.lists.proofs.LowestLaws.{lowest_exact, lowest_none_exact}
use Rattle.drivers.proofs.FollowingLaws.{driven_exact, driven_unique, no_ring}
use Rattle.lists.proofs.SomeLaws.{some_is, some_true}

-- ---- tests

module _ (B : Block) (t st : List ℕ) (ok : Routed B t st) (free : NoContention B t st) (straight : NoLoop B t st) where
  abbrev sources : List ℕ
  sources = sources_of B t st

  -- a wire of a tile is driven from outside exactly if it does not come from a cell
  module _ (T q : ℕ) (lT : T < tiles B) (lq : q < ports_per_tile) where
    driven : DrivenBy B t st (wire B T q) (driver_of B sources (wire B T q))
    driven =
        let l = port_of_lt B T q lT lq in
        driven_exact B t st ok free (wire B T q) (wire_within B _ l) (wire_idempotent B _ l)

    inside_cell : not (driven_outside B st sources T q) ≡ true → ComesFromCell B t st (wire B T q)
    inside_cell e = go (driver_of B sources (wire B T q)) driven (not-true _ e)
      where
        go : (d : Driver) → DrivenBy B t st (wire B T q) d → is_outside d ≡ false → ComesFromCell B t st (wire B T q)
        go (Open u) h o = clash refl o
        go (Constant u b) h o = clash refl o
        go (Cell u) h o = (u, h)
        go (Ring u) h o = absurd (no_ring B t st ok free straight h u refl)

    cell_inside : ComesFromCell B t st (wire B T q) → not (driven_outside B st sources T q) ≡ true
    cell_inside h = ap (λ (d : Driver). not (is_outside d)) (driven_unique B t st ok free driven h.1)

  from_cell : (T : ℕ) → T < tiles B → (clocked_at B st sources T ≡ true) ↔ FromCell B t st T
  unfolding clocked_at
  from_cell T l = (there, back)
    where
      there : clocked_at B st sources T ≡ true → FromCell B t st T
      there e =
          ⊎_elim
          (λ h. let f = some_is (flop_on st T) 8 (and_left _ _ h) in clock f.0 f.1 f.2 (inside_cell T clk l (omega arith) (and_right (any_cell (flop_on st T)) _ h)))
          (λ h. let f = some_is (async_flop_on st T) 8 (and_left _ _ h) in reset f.0 f.1 f.2 (inside_cell T s_r l (omega arith) (and_right (any_cell (async_flop_on st T)) _ h)))
          (or_is (any_cell (flop_on st T) && not (driven_outside B st sources T clk)) _ e)

      back : FromCell B t st T → clocked_at B st sources T ≡ true
      back (clock i li on h) = rw (some_true (flop_on st T) 8 i li on, cell_inside T clk l (omega arith) h)
      back (reset i li on h) =
          or_right (any_cell (flop_on st T) && not (driven_outside B st sources T clk)) _ (and_true (some_true (async_flop_on st T) 8 i li on) (cell_inside T s_r l (omega arith) h))

  -- ground 8: the computed tile is the lowest with a clock or reset from a cell ..
  pub clocked_exact : (T : ℕ) → LowestFromCell B t st T ↔ ((T < tiles B) × (clocked_tile B st sources ≡ T))
  unfolding clocked_tile
  clocked_exact T =
      let x = lowest_exact (clocked_at B st sources) (FromCell B t st) (tiles B) from_cell T in
      ((λ h. x.0 (h.within, h.here, h.least)), λ e. let h = x.1 e in record { within = h.0; here = h.1; least = h.2 })

  -- .. and the number of tiles exactly if there is none
  pub clocked_none_exact : ((T : ℕ) → T < tiles B → FromCell B t st T → ⊥) ↔ (clocked_tile B st sources ≡ tiles B)
  unfolding clocked_tile
  clocked_none_exact = lowest_none_exact (clocked_at B st sources) (FromCell B t st) (tiles B) from_cell
