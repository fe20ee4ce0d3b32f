-- `clocks::clocked_tile` meets its contract. Invariant: the search from `tile` on is the whole search. Assumes nothing.
use Rattle.drivers.specs.Clocks.{clocked_at, clocked_tile}
use Rattle.ports.proofs.BlockLaws.{tiles_le}
use Rattle.lists.proofs.SearchLaws.{first_turn_hit, first_turn_skip, first_turn_end}
use Rattle.lists.proofs.BelowLaws.{below_is, below_past}
use Rattle.std.specs.Prelude.{Some}
use native.Mathlib.Omega.{arith}
use mathlib.Core.Path.{sym, ap, ◌∙◌}
use Prim.Native.Nat.{◌*◌}
use Rattle.drivers.proofs.clocks.clocked_tile.Goals as goal

pub returns-then-is_clocked : goal.returns-then-is_clocked
unfolding clocked_tile
returns-then-is_clocked c =
    let a = c.args in
    let B = a.b in
    let p = c.requires in
    let few = tiles_le B p.0.size in
    let test = clocked_at B a.st.now a.sources.now in
    let found = first_turn_hit test c.loop-tile.tile (B.h * B.w) _ c.loop-tile.invariant.0 (omega arith) (sym c.is_clocked.ensures.answer ∙ c.if-is_clocked.true) in
    record { answer = ap Some found ∙ sym (below_is (B.h * B.w) (clocked_tile B a.st.now a.sources.now) (omega (arith, found))); marks = c.is_clocked.ensures.marks }

pub loop-tile-preserved : goal.loop-tile-preserved
loop-tile-preserved c =
    let a = c.args in
    let B = a.b in
    let p = c.requires in
    let few = tiles_le B p.0.size in
    let test = clocked_at B a.st.now a.sources.now in
    (first_turn_skip test c.loop-tile.tile (B.h * B.w) _ c.loop-tile.invariant.0 (omega arith) (sym c.is_clocked.ensures.answer ∙ c.if-is_clocked.false), c.is_clocked.ensures.marks)

pub returns : goal.returns
unfolding clocked_tile
returns c =
    let a = c.args in
    let B = a.b in
    let p = c.requires in
    let few = tiles_le B p.0.size in
    let test = clocked_at B a.st.now a.sources.now in
    let none = first_turn_end test c.loop-tile.tile (B.h * B.w) _ c.loop-tile.invariant.0 (omega arith) in
    record { answer = sym (below_past (B.h * B.w) (clocked_tile B a.st.now a.sources.now) (omega (arith, none))); marks = c.loop-tile.invariant.1 }
