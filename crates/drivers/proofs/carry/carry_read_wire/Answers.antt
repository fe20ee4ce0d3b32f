-- `carry::carry_read_wire` meets its contract. Invariant: the lowest of those that the rows before w read. Assumes nothing.
use Rattle.drivers.proofs.CarryPass.{carry_pass_start, carry_pass_step, carry_pass_end, operand_lt}
use Rattle.drivers.specs.CarryReads.{OperandsWithin, carry_read_in, lower_carries, carry_read_wire}
use Rattle.lists.proofs.BelowLaws.{below_is, below_past}
use Rattle.std.specs.Prelude.{Some}
use Rattle.equations.proofs.WireRowLaws.{wire_rows_length, row_is}
use Rattle.equations.specs.WireRows.{row_of}
use Rattle.netlist.specs.Rows.{row_at, arity_of}
use Rattle.netlist.specs.declared.row.Row.{Row}
use Rattle.ports.proofs.BlockLaws.{tiles_le}
use Rattle.ports.specs.Lengths.{ports}
use Rattle.lists.specs.Search.{first}
use lib.ListN.{length}
use native.Mathlib.Omega.{arith}
use mathlib.Core.List.{List}
use mathlib.Core.Path.{◌≡◌, sym, ap, subst, ◌∙◌}
use Prim.Native.Nat.{ℕ, suc, ◌+◌, ◌<◌}
use Rattle.drivers.proofs.carry.carry_read_wire.Goals as goal

pub loop-w-init : goal.loop-w-init
loop-w-init c =
    let a = c.args in
    let B = a.b in
    let t = a.table.now in
    let st = a.st.now in
    let ok = c.requires.0 in
    let few = tiles_le B ok.size in
    carry_pass_start B t st

pub row_at-requires : goal.row_at-requires
row_at-requires c =
    let a = c.args in
    let B = a.b in
    let t = a.table.now in
    let st = a.st.now in
    let ok = c.requires.0 in
    let few = tiles_le B ok.size in
    let long = ap length c.requires.1 ∙ wire_rows_length B t st in
    omega arith

pub lower_carries-lowest-requires : goal.lower_carries-lowest-requires
lower_carries-lowest-requires c =
    let a = c.args in
    let B = a.b in
    let t = a.table.now in
    let st = a.st.now in
    let ok = c.requires.0 in
    let few = tiles_le B ok.size in
    let w = c.loop-w.w in
    let lw : w < ports B = (let l = c.loop-w-test.true in omega arith) in
    let is : c.row_at.result ≡ row_of B t st w = c.row_at.ensures ∙ ap (λ (x : List ℕ). row_at x w) c.requires.1 ∙ row_is B t st w lw in
    (ok.size, ok.settings_long, subst (OperandsWithin B) (sym is) (operand_lt B t st ok w lw))

pub loop-w-preserved : goal.loop-w-preserved
loop-w-preserved c =
    let a = c.args in
    let B = a.b in
    let t = a.table.now in
    let st = a.st.now in
    let ok = c.requires.0 in
    let few = tiles_le B ok.size in
    let w = c.loop-w.w in
    let lw : w < ports B = (let l = c.loop-w-test.true in omega arith) in
    let is : c.row_at.result ≡ row_of B t st w = c.row_at.ensures ∙ ap (λ (x : List ℕ). row_at x w) c.requires.1 ∙ row_is B t st w lw in
    c.lower_carries-lowest.ensures ∙ ap (λ (r : Row). lower_carries B st r c.loop-w.lowest (arity_of r)) is ∙ carry_pass_step B t st ok w lw c.loop-w.lowest c.loop-w.invariant ∙ ap (λ (m : ℕ). first (carry_read_in B t st m) 0 (ports B)) (let e : suc w ≡ w + 1 = omega arith in e)

-- one is read
pub returns-then-lowest-n : goal.returns-then-lowest-n
returns-then-lowest-n c =
    let a = c.args in
    let few = tiles_le a.b c.requires.0.size in
    let found = carry_pass_end a.b a.table.now a.st.now c.loop-w.w c.loop-w.lowest (omega arith) c.loop-w.invariant in
    ap Some found ∙ sym (below_is (ports a.b) (carry_read_wire a.b a.table.now a.st.now) (omega (arith, found)))

-- none is
pub returns-else-lowest-n : goal.returns-else-lowest-n
returns-else-lowest-n c =
    let a = c.args in
    let few = tiles_le a.b c.requires.0.size in
    let found = carry_pass_end a.b a.table.now a.st.now c.loop-w.w c.loop-w.lowest (omega arith) c.loop-w.invariant in
    sym (below_past (ports a.b) (carry_read_wire a.b a.table.now a.st.now) (omega (arith, found)))
