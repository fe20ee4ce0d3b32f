-- Rows, their order, running them, and the check of a list (document 01, 'The list and a step').
pub mod Graph  -- computed: reads_exact. Graph, Reads, DependsOn, Closed, LowestLoop: what is read, with no word on what it computes
pub mod Marks  -- believed: listed; the rest is inner. Which wires are listed, how many are not; only_listed; max_wires
pub mod Order  -- computed: order_lowest, listing. ready, next, order: the lowest wire that is not listed and waits for none; Settled: listed wires lead to no loop
pub mod Equations  -- computed: meets_solves, solves_meets. Solves, Local, run_order: what the wires' values have to meet
pub mod Kinds  -- believed. The seven kinds of rows
pub mod Rows  -- believed. row_at, operand_of, arity_of: a row as a record, and a list as its rows; graph_of, rows_of, set_row serve the code
pub mod OrderedRows  -- computed: listing. list_of: the list of the rows in order
pub mod Running  -- believed. row_value, run_from: what rows give; RowFits: a row that can be run
pub mod Checking  -- believed, but for first_bad_row (computed: first_bad_exact). RowGood, RowStands, FirstBad: ground 12
