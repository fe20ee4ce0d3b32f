-- `spread::spread_values` meets its contract. Invariant: the first p ports have their wires' values, the others what the run left (`Spread`). Assumes
-- nothing.
use Rattle.moments.proofs.SpreadLaws.{Spread, spread_step, wire_of_wire, spread_end}
use Rattle.fabric.proofs.WireLaws.{wire_within, wires_length, wires_at}
use mathlib.Core.Path.{subst, ap}
use Prim.Native.Nat.{ℕ, ◌<◌}
use Rattle.ports.specs.Lengths.{ports}
use lib.ListN.{get_or}
use native.Mathlib.Omega.{arith}
use Rattle.moments.proofs.spread.spread_values.Goals as goal

pub bounds-values-from : goal.bounds-values-from
bounds-values-from c =
    let a = c.args in
    let p = c.loop-p.p in
    let l : p < ports a.b = omega (arith, wires_length a.b a.wires.now c.requires.0) in
    omega (arith, c.from.ensures, wires_at a.b a.wires.now c.requires.0 p l, wire_within a.b p l)

pub bounds-values-p : goal.bounds-values-p
bounds-values-p c = omega (arith, wires_length c.args.b c.args.wires.now c.requires.0)

pub loop-p-preserved : goal.loop-p-preserved
loop-p-preserved c =
    let a = c.args in
    let p = c.loop-p.p in
    let l : p < ports a.b = omega (arith, wires_length a.b a.wires.now c.requires.0) in
    spread_step _ _ _ _ _ c.loop-p.invariant (omega arith) (wire_of_wire a.b a.wires.now c.requires.0 p l) _
    (ap (λ (w : ℕ). get_or c.loop-p.values w 0) c.from.ensures)

pub returns : goal.returns
returns c =
    let a = c.args in
    spread_end a.b a.wires.now c.requires.0 a.values.now _ c.loop-p.p
    (subst (λ (n : ℕ). Spread a.wires.now a.values.now n c.loop-p.p c.loop-p.values) c.requires.1 c.loop-p.invariant)
    (omega (arith, wires_length a.b a.wires.now c.requires.0))
