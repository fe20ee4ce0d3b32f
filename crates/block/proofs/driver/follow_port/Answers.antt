-- `driver::follow_port` meets its contract: the maps written are the block's, and the wire asked for is the port's. Assumes nothing.
use Rattle.std.specs.Prelude.{Ok}
use Rattle.lists.proofs.BelowLaws.{below_some, below_none}
use Rattle.block.proofs.DriverLaws.{port_contended, port_no_tile, port_no_port, port_driven}
use Rattle.drivers.proofs.LeadLaws.{sources_bounded}
use Rattle.drivers.specs.Following.{Bounded, driver_of}
use Rattle.equations.specs.Sources.{contended_wire, sources_of}
use Rattle.fabric.proofs.WireLaws.{wire_within, wires_at}
use Rattle.ports.proofs.BlockLaws.{tiles_le, port_of_lt}
use Rattle.ports.specs.Block.{tiles, port_of}
use Rattle.ports.specs.Lengths.{ports, ports_per_tile}
use lib.ListN.{get_or}
use native.Mathlib.Omega.{arith}
use mathlib.Core.List.{List}
use mathlib.Core.Path.{sym, ap, ◌∙◌, subst}
use Prim.Native.Nat.{ℕ, ◌<◌, ◌≤◌}
use Rattle.block.proofs.driver.follow_port.Goals as goal

-- contention
pub returns-in-Some : goal.returns-in-Some
returns-in-Some c =
    let B = c.args.b in
    let found = below_some (ports B) (contended_wire B c.args.table.now c.args.st.now) c.in-Some.wire (sym c.in-Some.ensures.answer) in
    port_contended B c.args.table.now c.args.st.now c.args.tile c.args.port _ found.0 (omega (arith, found.0, found.1))

-- no such tile
pub returns-then-b-tile : goal.returns-then-b-tile
returns-then-b-tile c =
    let B = c.args.b in
    let table = c.args.table.now in
    let st = c.args.st.now in
    let tile = c.args.tile in
    let port = c.args.port in
    let free : ports B ≤ contended_wire B table st = below_none (ports B) (contended_wire B table st) (sym c.in_default.ensures.answer) in
    port_no_tile B table st tile port free c.if-b-tile.true

-- no such port
pub returns-then-port-ge-PORTS_PER_TILE : goal.returns-then-port-ge-PORTS_PER_TILE
returns-then-port-ge-PORTS_PER_TILE c =
    let B = c.args.b in
    let table = c.args.table.now in
    let st = c.args.st.now in
    let tile = c.args.tile in
    let port = c.args.port in
    let free : ports B ≤ contended_wire B table st = below_none (ports B) (contended_wire B table st) (sym c.in_default.ensures.answer) in
    let in_tile : tile < tiles B = omega (arith, c.if-b-tile.false) in
    port_no_port B table st tile port free in_tile c.if-port-ge-PORTS_PER_TILE.true

pub driver_of-requires : goal.driver_of-requires
driver_of-requires c =
    let B = c.args.b in
    let tile = c.args.tile in
    let port = c.args.port in
    let table = c.args.table.now in
    let st = c.args.st.now in
    let ok = c.requires.0 in
    let few = tiles_le B ok.size in
    let in_tile : tile < tiles B = omega (arith, c.if-b-tile.false) in
    let in_port_lem : port < ports_per_tile = omega (arith, c.if-port-ge-PORTS_PER_TILE.false) in
    let lt = port_of_lt B tile port in_tile in_port_lem in
    let wire = wires_at B c.fill_wires.new.wires c.fill_wires.ensures (port_of tile port) lt in
    let within = wire_within B (port_of tile port) lt in
    (ok.size, omega (arith, c.requires.2), subst Bounded (sym c.find_sources.ensures.sources) (sources_bounded B table st ok), subst (λ (x : ℕ). x < ports B) (sym wire) within, c.requires.3)

-- where following ends
pub returns : goal.returns
returns c =
    let B = c.args.b in
    let table = c.args.table.now in
    let st = c.args.st.now in
    let tile = c.args.tile in
    let port = c.args.port in
    let free : ports B ≤ contended_wire B table st = below_none (ports B) (contended_wire B table st) (sym c.in_default.ensures.answer) in
    let in_tile : tile < tiles B = omega (arith, c.if-b-tile.false) in
    let in_port_lem : port < ports_per_tile = omega (arith, c.if-port-ge-PORTS_PER_TILE.false) in
    let lt = port_of_lt B tile port in_tile in_port_lem in
    let wire = wires_at B c.fill_wires.new.wires c.fill_wires.ensures (port_of tile port) lt in
    let within = wire_within B (port_of tile port) lt in
    let same = ap (λ (s : List ℕ). driver_of B s (get_or c.fill_wires.new.wires (port_of tile port) 0)) c.find_sources.ensures.sources in
    ap Ok (c.driver_of.ensures.answer ∙ same ∙ ap (driver_of B (sources_of B table st)) wire) ∙ port_driven B table st tile port free in_tile in_port_lem
