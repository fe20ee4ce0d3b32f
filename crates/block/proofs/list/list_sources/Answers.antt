-- `list::list_sources` meets its contract: the rows written are the block's, and a disabled carry that is read is the lowest. Assumes nothing.
use Rattle.block.proofs.ScheduleLaws.{rows_written}
use Rattle.block.proofs.BuildingLaws.{list_carry}
use native.Mathlib.Omega.{arith}
use mathlib.Core.Path.{refl, sym}
use Rattle.lists.proofs.BelowLaws.{below_some, below_none}
use Rattle.ports.specs.Lengths.{ports}
use Rattle.drivers.specs.CarryReads.{carry_read_wire}
use Rattle.block.proofs.list.list_sources.Goals as goal

pub carry_read_wire-requires : goal.carry_read_wire-requires
carry_read_wire-requires c =
    let B = c.args.b in
    let table = c.args.table.now in
    let st = c.args.st.now in
    let sources = c.args.sources.now in
    let written = rows_written B table st sources _ c.requires.wires_value.1 c.write_rows.ensures in
    let room = c.requires.room_long in
    (c.requires.routed.0, written)

-- a disabled carry is read
pub returns-in-Some : goal.returns-in-Some
returns-in-Some c =
    let B = c.args.b in
    let table = c.args.table.now in
    let room = c.requires.room_long in
    let found = below_some (ports B) (carry_read_wire B table c.args.st.now) c.in-Some.wire (sym c.in-Some.ensures) in
    record { answer = list_carry B table c.args.st.now c.requires.routed.1 _ found.0 (omega (arith, found.0, found.1)); list = refl }

pub list_rows-requires : goal.list_rows-requires
list_rows-requires c =
    let B = c.args.b in
    let table = c.args.table.now in
    let st = c.args.st.now in
    let sources = c.args.sources.now in
    let written = rows_written B table st sources _ c.requires.wires_value.1 c.write_rows.ensures in
    let room = c.requires.room_long in
    record { routed = (c.requires.routed.0, c.requires.routed.1, below_none (ports B) (carry_read_wire B table st) (sym c.in_default.ensures)); wires_value = (c.requires.wires_value.0, c.requires.wires_value.1, written); room_long = record { list_long = room.list_long; wires_long = room.wires_long; sources_long = room.sources_long; rows_long = omega (arith, room.rows_long); marks_long = room.marks_long; queue_long = room.queue_long } }
