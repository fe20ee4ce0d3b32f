-- What rows give (document 01, 'The list and a step').
use Rattle.std.specs.Prelude.{◌≡◌, cond, List, ℕ, zero, suc, ◌<◌, eqb, length, get_or, set}
use Rattle.cell.specs.Lookup.{lookup_bit, majority}
use Rattle.netlist.specs.Kinds.{lent_kind, zero_kind, one_kind, flip_flop_kind, copy_kind, lookup_kind, majority_kind}
use Rattle.netlist.specs.Rows.{row_at, operand_of, arity_of, Inside}
use Rattle.netlist.specs.declared.row.Row.{Row}

-- the value of the wire that operand j names
abbrev pub input_of : Row → List ℕ → ℕ → ℕ
input_of row values j = get_or values (operand_of row j) 0

-- "kind 1 the lent value at the wire's number, 2 a 0, 3 a 1, 4 the state's byte at operand 1, and 5 to 7 the copy, the lookup in
-- the row's table or the majority of the values that earlier rows gave to its operands"
unfoldable pub row_value : Row → List ℕ → List ℕ → List ℕ → ℕ
row_value row state lent values =
    cond (eqb row.kind lent_kind) (get_or lent row.wire 0)
    (cond (eqb row.kind zero_kind) 0
    (cond (eqb row.kind one_kind) 1
    (cond (eqb row.kind flip_flop_kind) (get_or state row.a 0)
    (cond (eqb row.kind copy_kind) (input_of row values 0)
    (cond (eqb row.kind lookup_kind)
    (lookup_bit row.table (input_of row values 0) (input_of row values 1) (input_of row values 2) (input_of row values 3))
    (cond (eqb row.kind majority_kind) (majority (input_of row values 0) (input_of row values 1) (input_of row values 2)) 0))))))

-- "Running a list takes its rows in order [..]. Each gives its wire a value". The k rows from i on.
unfoldable pub run_from : List ℕ → List ℕ → List ℕ → ℕ → ℕ → List ℕ → List ℕ
run_from list state lent i zero values = values
run_from list state lent i (suc k) values =
    run_from list state lent (suc i) k (set values (row_at list i).wire (row_value (row_at list i) state lent values))

-- "Every wire has a value of 0 or 1"
abbrev pub Bits : List ℕ → Type 0
Bits xs = (i : ℕ) → get_or xs i 0 < 2

-- w is the "wire of an earlier row" than row i
abbrev pub Earlier : List ℕ → ℕ → ℕ → Type 0
Earlier list i w = (k : ℕ) × (k < i) × ((row_at list k).wire ≡ w)

-- what a row reads is there, and its inputs are bits
pub record RowReads (row : Row) (state lent values : List ℕ) : Type 0 where
  pub lent_there : row.kind ≡ lent_kind → row.wire < length lent
  pub cell_there : row.kind ≡ flip_flop_kind → row.a < length state
  pub wires_there : (j : ℕ) → j < arity_of row → operand_of row j < length values
  pub wires_bits : (j : ℕ) → j < arity_of row → input_of row values j < 2

-- row i can be run: what it names is there, and it reads wires of earlier rows
pub record RowFits (list : List ℕ) (cells lents wires i : ℕ) : Type 0 where
  pub inside : Inside list i
  pub wire_lt : (row_at list i).wire < wires
  pub lent_lt : (row_at list i).kind ≡ lent_kind → (row_at list i).wire < lents
  pub cell_lt : (row_at list i).kind ≡ flip_flop_kind → (row_at list i).a < cells
  pub earlier : (j : ℕ) → j < arity_of (row_at list i) → Earlier list i (operand_of (row_at list i) j)
