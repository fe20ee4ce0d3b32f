-- `carry::lower_carries` meets its contract. Invariant: the operands before j are taken (`lower_carries`). Assumes nothing.
use Rattle.netlist.proofs.ValueLaws.{arity_le}
use Rattle.drivers.proofs.CarryPass.{lower_carries_step}
use Rattle.drivers.specs.CarryReads.{lower_carry, lower_carries}
use native.Mathlib.Omega.{arith}
use mathlib.Core.Path.{refl, ap₂, ◌∙◌}
use Rattle.drivers.proofs.carry.lower_carries.Goals as goal

pub loop-j-init : goal.loop-j-init
unfolding lower_carries
loop-j-init c = refl

pub operand-requires : goal.operand-requires
operand-requires c = omega (arith, arity_le c.args.row, c.arity-j-end.ensures)

pub loop-j-preserved : goal.loop-j-preserved
loop-j-preserved c =
    let a = c.args in
    c.lower_carry-lowest.ensures ∙ ap₂ (lower_carry a.b a.st.now) c.loop-j.invariant c.operand.ensures ∙ lower_carries_step a.b a.st.now a.row a.low c.loop-j.j
