-- `write_step` meets its contract: the wires are counted once, both runs have the old state, and clock and values take them as they are. Assumes nothing.
use Prim.Native.Nat.{ℕ}
use mathlib.Core.List.{List}
use mathlib.Core.Path.{sym, ◌∙◌, ap, subst}
use native.Mathlib.Omega.{arith}
use borrow.Author.Rules.{rules}
use lib.ListN.{length}
use Rattle.ports.proofs.BlockLaws.{ports_le}
use Rattle.netlist.specs.Checking.{wire_count}
use Rattle.stepper.proofs.SettledLaws.{marks_length, marks_count, settled_bits}
use Rattle.stepper.specs.Settling.{PortBits}
use Rattle.stepper.proofs.write_step.Goals as goal

pub count_wires-count-requires : goal.count_wires-count-requires
count_wires-count-requires c =
    let B = c.args.b in
    omega (arith, ap length c.requires.1, marks_length B, ports_le B c.requires.0.size)

pub settle-requires : goal.settle-requires
settle-requires c =
    let p = c.requires in
    (p.2, c.count_wires-count.ensures ∙ ap wire_count p.1 ∙ marks_count c.args.b, p.6)

pub settle-requires-2 : goal.settle-requires-2
settle-requires-2 c =
    let p = c.requires in
    (search rules, c.count_wires-count.ensures ∙ ap wire_count p.1 ∙ marks_count c.args.b, p.7)

pub clock-requires : goal.clock-requires
clock-requires c =
    let a = c.args in (
      c.requires.0,
      c.settle.auto.values ∙ c.requires.6,
      subst (λ (v : List ℕ). PortBits a.b v) (sym c.settle.ensures) (settled_bits a.b a.list.now a.state.now a.before.now c.requires.2),
      c.settle-2.auto.values ∙ c.requires.7,
      c.requires.2.state_long,
      c.requires.5,
    )
