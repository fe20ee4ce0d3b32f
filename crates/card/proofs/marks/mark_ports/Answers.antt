-- `marks::mark_ports` meets its contract. Invariant: the first k ports are marked. Assumes nothing.
use native.Mathlib.Omega.{arith}
use mathlib.Core.Path.{refl, ◌∙◌}
use Prim.Native.Nat.{◌+◌, ◌<◌}
use Rattle.fabric.proofs.WireLaws.{wire_within}
use Rattle.fabric.specs.Wire.{wire_of}
use Rattle.ports.proofs.BlockLaws.{port_of_lt}
use Rattle.ports.specs.Block.{port_of}
use Rattle.ports.specs.Lengths.{ports}
use Rattle.card.proofs.TurnLaws.{ports_start, ports_next}
use Rattle.card.proofs.marks.mark_ports.Goals as goal

pub loop-k-init : goal.loop-k-init
loop-k-init c = ports_start c.args.b c.args.tile c.args.from c.args.marks.now

pub bounds-marks-w : goal.bounds-marks-w
bounds-marks-w c =
    let q = c.args.from + c.loop-k.k in
    let l : wire_of c.args.b (port_of c.args.tile q) < ports c.args.b =
    wire_within c.args.b _ (port_of_lt c.args.b c.args.tile q c.requires.1 (omega (arith, c.requires.2))) in
    omega (arith, c.from-w.ensures, c.tile_wire.ensures, c.requires.3)

pub loop-k-preserved : goal.loop-k-preserved
loop-k-preserved c = ports_next c.args.b c.args.tile c.args.from c.args.marks.now c.loop-k.k _ _ _ c.loop-k.invariant (c.from-w.ensures ∙ c.tile_wire.ensures) refl
