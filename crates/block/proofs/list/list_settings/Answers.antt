-- `list::list_settings` meets its contract: contention is the lowest, and the maps written are the block's. Assumes nothing.
use Rattle.block.proofs.BuildingLaws.{list_contended}
use native.Mathlib.Omega.{arith}
use mathlib.Core.Path.{refl, sym}
use Rattle.lists.proofs.BelowLaws.{below_some}
use Rattle.ports.specs.Lengths.{ports}
use Rattle.equations.specs.Sources.{contended_wire}
use Rattle.block.proofs.list.list_settings.Goals as goal

-- contention
pub returns-in-Some : goal.returns-in-Some
returns-in-Some c =
    let B = c.args.b in
    let room = c.requires.room_long in
    let found = below_some (ports B) (contended_wire B c.args.table.now c.args.st.now) c.in-Some.wire (sym c.in-Some.ensures.answer) in
    record { answer = list_contended B c.args.table.now c.args.st.now _ found.0 (omega (arith, found.0, found.1)); list = refl }
