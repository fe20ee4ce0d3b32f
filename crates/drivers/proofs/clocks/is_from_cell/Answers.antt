-- `clocks::is_from_cell` meets its contract: the driver of the port's wire, taken apart. Assumes nothing.
use Rattle.fabric.proofs.WireLaws.{wire_within}
use Rattle.ports.proofs.BlockLaws.{port_of_lt}
use Rattle.fabric.specs.Wire.{wire_of}
use Rattle.ports.specs.Lengths.{ports}
use Rattle.ports.specs.Block.{port_of}
use mathlib.Core.Path.{◌≡◌, sym, subst, ◌∙◌}
use Prim.Native.Nat.{ℕ, ◌<◌}
use Rattle.drivers.proofs.clocks.is_from_cell.Goals as goal

pub clear_driver-requires : goal.clear_driver-requires
clear_driver-requires c =
    let a = c.args in
    let B = a.b in
    let p = c.requires in
    let l : port_of a.tile a.q < ports B = port_of_lt B a.tile a.q p.3 p.4 in
    let is : c.from.result ≡ wire_of B (port_of a.tile a.q) = c.from.ensures ∙ c.tile_wire.ensures in
    (p.0.size, p.1, p.2, subst (λ (w : ℕ). w < ports B) (sym is) (wire_within B _ l), p.5)
