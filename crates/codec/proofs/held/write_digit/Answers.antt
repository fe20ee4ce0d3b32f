-- `write_digit` meets its contract: what is added to a clear digit of the row of p is the digit (`held_added`). Assumes nothing.
use Rattle.codec.proofs.HeldLaws.{held_added, held_added_lt}
use native.Mathlib.Omega.{arith}
use borrow.Author.Rules.{rules}
use Rattle.codec.proofs.held.write_digit.Goals as goal

pub overflow_add-next : goal.overflow_add-next
overflow_add-next c =
    let held = c.hold_row-next.ensures in
    record {
      fits = rw c.from.ensures (held_added_lt c.hold_row-next.new.bits _ c.hold_row-next.result held.bits c.args.p c.args.pattern
          c.args.k _ held.row c.column_of.ensures
          (omega (arith, held.row, c.requires.0, c.requires.1, c.hold_row-next.auto.bits)) c.requires.4
          (search rules));
    }

pub returns : goal.returns
returns c =
    let held = c.hold_row-next.ensures in
    record {
      row = omega (arith, held.row, c.requires.0);
      bits = rw c.from.ensures (held_added c.hold_row-next.new.bits _ c.hold_row-next.result held.bits c.args.p c.args.pattern
          c.args.k _ held.row c.column_of.ensures
          (omega (arith, held.row, c.requires.0, c.requires.1, c.hold_row-next.auto.bits)) c.requires.4);
    }
