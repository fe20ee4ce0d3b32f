-- Ports by their place. Main laws: `port_lt` (a port's number is one of the block's), `port_place` (its place, from its number).
use Prim.Native.Nat.{ℕ, zero, suc, ◌+◌, ◌*◌, ◌/◌, ◌%◌, ◌<◌}
use mathlib.Core.Path.{◌≡◌}
use native.Mathlib.Omega.{arith}
use native.Mathlib.Nat.{mul-le-mul_right, div-add-mod', mod-lt, div-lt_iff_lt-mul}
use Rattle.ports.specs.declared.size.Block.{Block}
use Rattle.ports.specs.Block.{port, tiles}
use Rattle.ports.specs.Lengths.{ports, ports_per_tile}

-- a block that has a port has a column
some_width : (W H p : ℕ) → p < ports_per_tile * (H * W) → 0 < W
some_width zero H p h = absurd (omega arith)
some_width (suc W) H p h = omega arith

module _ (B : Block) where
  pub port_lt : (x y q : ℕ) → x < B.w → y < B.h → q < ports_per_tile → port B x y q < ports B
  port_lt x y q hx hy hq = omega (arith, mul-le-mul_right B.w hy)

  -- ---- a port's place, from its number
  module _ (p : ℕ) (h : p < ports B) where
    pub tile_column_lt : p / ports_per_tile % B.w < B.w
    tile_column_lt = mod-lt (p / ports_per_tile) (some_width B.w B.h p h)

    pub tile_row_lt : p / ports_per_tile / B.w < B.h
    tile_row_lt =
        let t : p / ports_per_tile < tiles B = omega arith in
        (div-lt_iff_lt-mul (some_width B.w B.h p h)).1 t

    pub port_place : port B (p / ports_per_tile % B.w) (p / ports_per_tile / B.w) (p % ports_per_tile) ≡ p
    port_place =
        let a : p / ports_per_tile / B.w * B.w + p / ports_per_tile % B.w ≡ p / ports_per_tile = div-add-mod' (p / ports_per_tile) B.w in
        omega arith
