-- `writing::put_row` meets its contract: the digits and a line feed. Assumes nothing.
use mathlib.Core.List.{[], ◌∷◌}
use native.Mathlib.Omega.{arith}
use Rattle.texts.proofs.PutsLaws.{puts_line, puts_two}
use Rattle.asc.specs.Content.{row_digits}
use Rattle.asc.proofs.LengthLaws.{row_text_length}
use Rattle.asc.proofs.writing.put_row.Goals as goal

pub returns : goal.returns
returns c = let all_clauses = puts_two c.args.at (row_digits c.args.word) (10 ∷ []) c.args.out.now c.put-next.result c.put.result c.put-next.new.out c.put.new.out (puts_line c.args.at (row_digits c.args.word) c.row_digits.result c.args.out.now c.put-next.result c.put-next.new.out c.row_digits.ensures (c.put-next.ensures.next, c.put-next.ensures.out)) (c.put.ensures.next, c.put.ensures.out) (omega (arith, row_text_length c.args.word)) in record { next = all_clauses.0; out = all_clauses.1 }
