-- `spread::settle_ports` meets its contract: as many rows are run as there are wires, and their values spread. Assumes nothing.
use Rattle.stepper.proofs.SettledLaws.{marks_length, marks_count}
use Rattle.netlist.specs.Checking.{wire_count}
use Rattle.ports.proofs.BlockLaws.{ports_le}
use lib.ListN.{length}
use native.Mathlib.Omega.{arith}
use mathlib.Core.Path.{◌∙◌, ap}
use Rattle.moments.proofs.spread.settle_ports.Goals as goal

pub count_wires-count-requires : goal.count_wires-count-requires
count_wires-count-requires c =
    let B = c.args.b in
    omega (arith, ap length c.requires.2, marks_length B, ports_le B c.requires.0)

pub settle-requires : goal.settle-requires
settle-requires c = (c.requires.3, c.count_wires-count.ensures ∙ ap wire_count c.requires.2 ∙ marks_count c.args.b, c.requires.4)
