-- `blocks::put_lines` meets its contract: three parts, one behind the other, and all of them fit. Assumes nothing.
use mathlib.Core.List.{◌++◌}
use Rattle.lines.proofs.LineLaws.{switch_long, cell_long}
use Rattle.texts.proofs.PutsLaws.{Puts, puts_line, puts_three, joined_long}
use Rattle.lines.specs.Listing.{switch_part, switch_lines, cell_part, cell_lines}
use Rattle.lines.specs.Lines.{answer_line}
use lib.ListN.{length}
use native.Mathlib.Omega.{arith}
use mathlib.Core.Path.{◌≡◌, ap, subst}
use Prim.Native.Nat.{◌*◌}
use Rattle.reporting.proofs.blocks.put_lines.Goals as goal

pub put_cells-last-requires : goal.put_cells-last-requires
put_cells-last-requires c =
    let long = joined_long (switch_part c.args.sources.now) 11 (length c.args.sources.now) (switch_long c.args.sources.now) in
    let next = c.put_switches-cells.ensures.next in
    let kept = c.put_switches-cells.auto.out in
    (omega arith, c.requires.2, omega arith)

pub put-requires : goal.put-requires
put-requires c =
    let long = joined_long (switch_part c.args.sources.now) 11 (length c.args.sources.now) (switch_long c.args.sources.now) in
    let next = c.put_switches-cells.ensures.next in
    let long2 = joined_long (cell_part c.args.st.now) 13 (8 * c.args.n) (cell_long c.args.st.now) in
    let next2 = c.put_cells-last.ensures.next in
    let kept = c.put_switches-cells.auto.out in
    let kept2 = c.put_cells-last.auto.out in
    let nine : length c.answer_line-line.result ≡ 9 = ap length c.answer_line-line.ensures in
    omega arith

pub returns : goal.returns
returns c =
    let long = joined_long (switch_part c.args.sources.now) 11 (length c.args.sources.now) (switch_long c.args.sources.now) in
    let next = c.put_switches-cells.ensures.next in
    let long2 = joined_long (cell_part c.args.st.now) 13 (8 * c.args.n) (cell_long c.args.st.now) in
    let next2 = c.put_cells-last.ensures.next in
    let kept = c.put_switches-cells.auto.out in let all_clauses = subst (λ k. Puts 0 (switch_lines c.args.sources.now k ++ (cell_lines c.args.st.now c.args.n ++ answer_line 0 0)) c.args.out.now c.put.result c.put.new.out) c.requires.1 (puts_three (switch_lines c.args.sources.now (length c.args.sources.now)) (cell_lines c.args.st.now c.args.n) (answer_line 0 0) _ _ _ _ _ _ _ (c.put_switches-cells.ensures.next, c.put_switches-cells.ensures.out) (c.put_cells-last.ensures.next, c.put_cells-last.ensures.out) (puts_line _ _ c.answer_line-line.result _ _ _ c.answer_line-line.ensures (c.put.ensures.next, c.put.ensures.out)) kept (omega arith)) in record { next = all_clauses.0; out = all_clauses.1 }
