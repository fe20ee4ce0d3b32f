-- The laws of `netlist`. Callers cite OrderLaws, ListLaws and PassedLaws; RowLaws and MarkLaws where they write rows or marks.
pub mod OrderLaws  -- order_exact, order_member, order_length; run_solves, others_break; lowest_loop_unique
pub mod ListLaws  -- list_solves, list_others_break, list_fits, list_bits: the same of the list that building writes
pub mod PassedLaws  -- passed_every, passed_once, passed_fits, passed_bits: of a list that passes ground 12
pub mod CheckingLaws  -- first_bad_exact: the test of ground 12 is its sentence
pub mod RowLaws  -- row_set_same, row_set_other, row_rows; RowsWritten with its start, step and end: a list filled row by row
pub mod MarkLaws  -- listed_set_same, -other, -kept; unmarked_mark: a mark is one less; only_listed_..: marks that say more
pub mod ValueLaws  -- value_local, value_lt: what a row gives
pub mod ReadyLaws  -- ready, next; order_induction
pub mod LoopLaws  -- stuck_loop: where none is ready one depends on itself; Safe, settled_end: no listed wire does
pub mod PlacedLaws  -- Placed: the order's wires, each once, none before what it reads
pub mod GraphLaws  -- what a row that was read says of its wire
pub mod EquationLaws  -- solved_step, agree_step: one step of running the order
pub mod AgreeLaws  -- by_order: induction over the order by what is read; agree: values that agree on a part that is closed under reading
pub mod Settling  -- the loop that runs a list; run_bits
pub mod OperandLaws  -- an operand by its use
pub mod GoodLaws  -- a good row by its parts, a zero row by its numbers
pub mod FirstBadLaws  -- the loops of ground 12
pub mod OrLaws  -- AtMost: no number is higher than all or-ed; rows_none: rows of zeros
pub mod Example  -- closed_test_lem; three wires
