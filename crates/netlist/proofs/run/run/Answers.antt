-- `run::run` meets its contract. Invariant: the wires of the first i rows have bits, and the rest of the run is the whole (`Settling`).
-- Assumes nothing.
use Rattle.netlist.proofs.Settling.{settling_reads, settling_step, settling_end}
use Rattle.netlist.specs.declared.row.Row.{Row}
use Rattle.netlist.specs.Running.{row_value, RowReads}
use mathlib.Core.Path.{sym, ap, subst, ◌∙◌}
use Rattle.netlist.proofs.run.run.Goals as goal

pub value-requires : goal.value-requires
value-requires c =
    subst (λ (r : Row). RowReads r c.args.state.now c.args.lent.now c.loop-i.values) (sym c.row_at-row.ensures)
    (settling_reads _ _ _ _ _ c.requires.bits.0 c.requires.bits.1 c.requires.by_index _ _ c.loop-i.invariant c.loop-i-test.true)

pub loop-i-preserved : goal.loop-i-preserved
loop-i-preserved c =
    settling_step _ _ _ _ _ c.requires.bits.0 c.requires.bits.1 c.requires.by_index _ _ c.loop-i.invariant c.loop-i-test.true _ _
    (c.value.ensures ∙ ap (λ (r : Row). row_value r c.args.state.now c.args.lent.now c.loop-i.values)
    c.row_at-row.ensures) (c.from.ensures ∙ ap (λ (r : Row). r.wire) c.row_at-row.ensures)

pub returns : goal.returns
returns c = settling_end _ _ _ _ _ _ _ c.loop-i.invariant c.loop-i-test.false
