-- `span_wire::foot_port` meets its contract: the two ways of the test are those of `foot`. Assumes nothing.
use Prim.Native.Nat.{◌-◌}
use native.Mathlib.Omega.{arith}
use Rattle.fabric.proofs.FlipLaws.{flip_le}
use Rattle.fabric.proofs.span_wire.foot_port.Goals as goal

pub overflow_add-s : goal.overflow_add-s
overflow_add-s c =
    let a = c.args in
    omega (arith, c.crossing.ensures, flip_le (a.k - a.s.shift))

pub port_number-requires : goal.port_number-requires
port_number-requires c =
    let a = c.args in
    let pre = c.requires in
    (pre.1, pre.2, pre.1.h_some, omega (arith, c.crossing.ensures, flip_le (a.k - a.s.shift)))
