-- The wire of a port from its place: `wire_port`, and by its name `wire_name`.
use Prim.Native.Nat.{ℕ, ◌+◌, ◌*◌, ◌/◌, ◌%◌, ◌<◌}
use mathlib.Core.Path.{◌≡◌, ◌∙◌, ap}
use native.Mathlib.Omega.{arith}
use lib.Arith.{digits_div, digits_mod}
use Rattle.ports.specs.declared.size.Block.{Block}
use Rattle.ports.specs.declared.Port.{Port}
use Rattle.ports.specs.Block.{port}
use Rattle.ports.specs.Lengths.{ports_per_tile}
use Rattle.ports.specs.Ports.{port_at}
use Rattle.ports.specs.PortNames.{index_of, Within}
use Rattle.fabric.specs.Wire.{wire_of, wire_at}
use Rattle.ports.proofs.PortLaws.{index_back}

module _ (B : Block) where
  pub wire_port : (x y q : ℕ) → x < B.w → q < ports_per_tile → wire_of B (port B x y q) ≡ wire_at B x y (port_at q)
  unfolding wire_of
  wire_port x y q hx hq =
      let d : port B x y q / ports_per_tile ≡ y * B.w + x = omega arith in
      let m : port B x y q % ports_per_tile ≡ q = omega arith in
      rw (d, m, digits_mod y {m = B.w} {r = x} hx, digits_div y {m = B.w} {r = x} hx)

  -- the same for a port by its name
  pub wire_name : (x y : ℕ) (P : Port) → x < B.w → index_of P < ports_per_tile → Within P → wire_of B (port B x y (index_of P)) ≡ wire_at B x y P
  wire_name x y P hx hq h = wire_port x y (index_of P) hx hq ∙ ap (wire_at B x y) (index_back P h)
