-- The list: the rows of the wires in their order, then zeros.
use Rattle.std.specs.Prelude.{cond, List, ℕ, ltb, length, get_or}
use Rattle.netlist.specs.Order.{order}
use Rattle.netlist.specs.Rows.{row_at, rows_of, zero_row, graph_of}
use Rattle.netlist.specs.declared.row.Row.{Row}

-- row k of the list: that of the k-th wire, and "unused rows are zeros"
unfoldable pub row_in_order : List ℕ → List ℕ → ℕ → ℕ → Row
row_in_order rows wires count k = cond (ltb k count) (row_at rows (get_or wires k 0)) zero_row

-- the n rows of the list
abbrev pub list_of : List ℕ → ℕ → List ℕ
list_of rows n = rows_of (row_in_order rows (order (graph_of rows) n) (length (order (graph_of rows) n))) n
