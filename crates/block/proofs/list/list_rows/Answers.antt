-- `list::list_rows` meets its contract: a loop is the computed one, a tile whose clock comes from a cell the lowest, and the rows written from
-- the queue are the block's list. Assumes nothing.
use Rattle.block.proofs.ScheduleLaws.{rows_ready, scheduled_loop, listed_rows}
use Rattle.block.proofs.BuildingLaws.{list_loop, list_clocked, list_listed}
use Rattle.drivers.proofs.LeadLaws.{sources_bounded}
use Rattle.drivers.specs.Clocks.{clocked_tile}
use Rattle.lists.proofs.BelowLaws.{below_some, below_none}
use Rattle.std.specs.Prelude.{Ok, Err}
use Rattle.refusal.specs.declared.Refusal.TheVariants.{Loop}
use Rattle.ports.specs.Block.{tiles}
use borrow.Author.Rules.{rules}
use Rattle.drivers.specs.Following.{Bounded}
use Rattle.equations.specs.Routed.{Mapped}
use Rattle.ports.proofs.BlockLaws.{tiles_le}
use Rattle.ports.specs.Lengths.{ports}
use lib.ListN.{length}
use native.Mathlib.Omega.{arith}
use mathlib.Core.Path.{◌≡◌, sym, ap, ◌∙◌, subst}
use Prim.Native.Nat.{ℕ}
use Rattle.block.proofs.list.list_rows.Goals as goal

pub clocked_tile-clocked-requires : goal.clocked_tile-clocked-requires
clocked_tile-clocked-requires c =
    let B = c.args.b in
    let st = c.args.st.now in
    let wires = c.args.wires.now in
    let table = c.args.table.now in
    let ok = c.requires.routed.0 in
    let room = c.requires.room_long in
    let few = tiles_le B ok.size in
    let mapped : Mapped B st wires = record { size = ok.size; settings_long = ok.settings_long; wired = c.requires.wires_value.0 } in
    (mapped, room.sources_long, subst Bounded (sym c.requires.wires_value.1) (sources_bounded B table st ok), omega arith)

pub schedule-requires-clause-closed : goal.schedule-requires-clause-closed
schedule-requires-clause-closed c =
    let B = c.args.b in
    let table = c.args.table.now in
    let st = c.args.st.now in
    let rows = c.args.rows.now in
    let marks = c.clocked_tile-clocked.new.marks in
    let ok = c.requires.routed.0 in
    let room = c.requires.room_long in
    let few = tiles_le B ok.size in
    let long : length marks ≡ ports B = omega (arith, room.marks_long, c.clocked_tile-clocked.auto.marks) in
    rows_ready B table st ok rows (length marks) c.requires.wires_value.2 long

-- a loop
pub returns-in_err-count-clause-answer : goal.returns-in_err-count-clause-answer
returns-in_err-count-clause-answer c =
    let B = c.args.b in
    let table = c.args.table.now in
    let st = c.args.st.now in
    let rows = c.args.rows.now in
    let marks = c.clocked_tile-clocked.new.marks in
    let ok = c.requires.routed.0 in
    let room = c.requires.room_long in
    let few = tiles_le B ok.size in
    let long : length marks ≡ ports B = omega (arith, room.marks_long, c.clocked_tile-clocked.auto.marks) in
    let found : (w : ℕ) × (c.schedule.result ≡ Err w) × (c.from_residual.result ≡ Err (Loop w)) = search rules in
    let loop = scheduled_loop B table st ok rows (length marks) c.requires.wires_value.2 long c.schedule.result c.schedule.ensures.answer found.0 found.1 in
    found.2 ∙ list_loop B table st c.requires.routed.1 c.requires.routed.2 _ loop.1 loop.0

-- a clock from a cell
pub returns-in-Some-clause-answer : goal.returns-in-Some-clause-answer
returns-in-Some-clause-answer c =
    let B = c.args.b in
    let table = c.args.table.now in
    let st = c.args.st.now in
    let rows = c.args.rows.now in
    let marks = c.clocked_tile-clocked.new.marks in
    let ok = c.requires.routed.0 in
    let room = c.requires.room_long in
    let few = tiles_le B ok.size in
    let long : length marks ≡ ports B = omega (arith, room.marks_long, c.clocked_tile-clocked.auto.marks) in
    let done : c.schedule.result ≡ Ok c.in_ok-count.count = search rules in
    let listed = listed_rows B table st ok rows (length marks) c.requires.wires_value.2 long c.schedule.result c.schedule.ensures.answer c.in_ok-count.count done c.args.queue.now c.schedule.new.queue c.schedule.ensures.queue in
    let found = below_some (tiles B) (clocked_tile B st c.args.sources.now) c.in-Some.tile (sym c.in-Some.ensures.answer) in
    list_clocked B table st c.requires.routed.1 c.requires.routed.2 listed.straight c.in-Some.tile (found.0 ∙ ap (clocked_tile B st) c.requires.wires_value.1) (omega (arith, found.0, found.1))

pub write_list-requires-clause-by_index : goal.write_list-requires-clause-by_index
write_list-requires-clause-by_index c =
    let B = c.args.b in
    let table = c.args.table.now in
    let st = c.args.st.now in
    let rows = c.args.rows.now in
    let marks = c.clocked_tile-clocked.new.marks in
    let ok = c.requires.routed.0 in
    let room = c.requires.room_long in
    let few = tiles_le B ok.size in
    let long : length marks ≡ ports B = omega (arith, room.marks_long, c.clocked_tile-clocked.auto.marks) in
    let done : c.schedule.result ≡ Ok c.in_ok-count.count = search rules in
    let listed = listed_rows B table st ok rows (length marks) c.requires.wires_value.2 long c.schedule.result c.schedule.ensures.answer c.in_ok-count.count done c.args.queue.now c.schedule.new.queue c.schedule.ensures.queue in
    listed.inside

pub overflow_cast-result-2 : goal.overflow_cast-result-2
overflow_cast-result-2 c =
    let B = c.args.b in
    let table = c.args.table.now in
    let st = c.args.st.now in
    let rows = c.args.rows.now in
    let marks = c.clocked_tile-clocked.new.marks in
    let ok = c.requires.routed.0 in
    let room = c.requires.room_long in
    let few = tiles_le B ok.size in
    let long : length marks ≡ ports B = omega (arith, room.marks_long, c.clocked_tile-clocked.auto.marks) in
    let done : c.schedule.result ≡ Ok c.in_ok-count.count = search rules in
    let listed = listed_rows B table st ok rows (length marks) c.requires.wires_value.2 long c.schedule.result c.schedule.ensures.answer c.in_ok-count.count done c.args.queue.now c.schedule.new.queue c.schedule.ensures.queue in
    omega (arith, listed.fits, room.queue_long)

-- the list is written
pub returns : goal.returns
returns c =
    let B = c.args.b in
    let table = c.args.table.now in
    let st = c.args.st.now in
    let rows = c.args.rows.now in
    let marks = c.clocked_tile-clocked.new.marks in
    let ok = c.requires.routed.0 in
    let room = c.requires.room_long in
    let few = tiles_le B ok.size in
    let long : length marks ≡ ports B = omega (arith, room.marks_long, c.clocked_tile-clocked.auto.marks) in
    let done : c.schedule.result ≡ Ok c.in_ok-count.count = search rules in
    let listed = listed_rows B table st ok rows (length marks) c.requires.wires_value.2 long c.schedule.result c.schedule.ensures.answer c.in_ok-count.count done c.args.queue.now c.schedule.new.queue c.schedule.ensures.queue in
    let none = below_none (tiles B) (clocked_tile B st c.args.sources.now) (sym c.in_default.ensures.answer) in
    record { answer = list_listed B table st c.requires.routed.1 c.requires.routed.2 listed.straight _ (ap (clocked_tile B st) c.requires.wires_value.1) none _ listed.count; list = c.write_list.ensures ∙ listed.writes (length c.args.wires.now) (omega (arith, room.wires_long)) }
