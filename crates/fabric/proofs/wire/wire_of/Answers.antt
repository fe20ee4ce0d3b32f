-- `wire::wire_of` meets its contract: the port's place, taken from its number. Assumes nothing.
use mathlib.Core.Path.{◌≡◌, ◌∙◌, ap}
use native.Mathlib.Omega.{arith}
use Rattle.fabric.specs.Wire.{wire_of}
use Rattle.ports.proofs.PlaceLaws.{port_place}
use Rattle.fabric.proofs.WireLaws.{wire_low}
use Rattle.fabric.proofs.wire.wire_of.Goals as goal

pub returns : goal.returns
returns c =
    let a = c.args in
    let pre = c.requires in
    let e : c.wire_at.result ≡ wire_of a.b a.p = c.wire_at.ensures ∙ ap (wire_of a.b) (port_place a.b a.p pre.1) in
    (e, omega (arith, wire_low a.b a.p pre.1))
