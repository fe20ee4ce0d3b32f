-- `wire_number` meets its contract: each return is a case of `wire_number`. Assumes nothing.
use Rattle.std.specs.Prelude.{Ok}
use mathlib.Core.Path.{sym, ◌∙◌, ap}
use native.Mathlib.Omega.{arith}
use Rattle.ports.proofs.BlockLaws.{sized_exact, port_of_lt}
use Rattle.fabric.proofs.WireNumberLaws.{wire_number_size, wire_number_tile, wire_number_port, wire_number_wire, wire_number_joins}
use Rattle.fabric.proofs.wire_number.Goals as goal

-- a block of no size
pub returns-then-not-is_sized : goal.returns-then-not-is_sized
returns-then-not-is_sized c = record { answer = wire_number_size _ _ _ (sym c.is_sized.ensures ∙ c.if-not-is_sized.true); joins = λ z. absurd (omega arith) }

-- a tile out of range
pub returns-then-b-tile : goal.returns-then-b-tile
returns-then-b-tile c =
    let args = c.args in
    let s = (sized_exact args.b).0 (sym c.is_sized.ensures ∙ c.if-not-is_sized.false) in
    record { answer = wire_number_tile args.b args.tile args.port s c.if-b-tile.true; joins = λ z. absurd (omega arith) }

-- a port out of range
pub returns-then-port-ge-PORTS_PER_TILE : goal.returns-then-port-ge-PORTS_PER_TILE
returns-then-port-ge-PORTS_PER_TILE c =
    let args = c.args in
    let s = (sized_exact args.b).0 (sym c.is_sized.ensures ∙ c.if-not-is_sized.false) in
    record { answer = wire_number_port args.b args.tile args.port s c.if-b-tile.false c.if-port-ge-PORTS_PER_TILE.true; joins = λ z. absurd (omega arith) }

-- the wire
pub returns : goal.returns
returns c =
    let args = c.args in
    let s = (sized_exact args.b).0 (sym c.is_sized.ensures ∙ c.if-not-is_sized.false) in
    let p = port_of_lt args.b args.tile args.port c.if-b-tile.false c.if-port-ge-PORTS_PER_TILE.false in
    record { answer = ap Ok c.wire_of.ensures.0 ∙ wire_number_wire args.b args.tile args.port s c.if-b-tile.false c.if-port-ge-PORTS_PER_TILE.false; joins = wire_number_joins args.b args.tile args.port s _ p c.wire_of.ensures.0 }
