-- Rows as records, and lists of numbers as their rows.
--   row_at == row i of a list             operand_of == operand j of a row      graph_of == what the rows by wire read
--   set_row == a list with row i put in   arity_of == how many it reads         rows_of == n rows, one after another
use Rattle.std.specs.Prelude.{not, cond, List, [], ◌∷◌, ℕ, ◌+◌, ◌*◌, ◌≤◌, eqb, length, get_or}
use Rattle.std.proofs.lemmas.List.Edits.{sets}
use Rattle.lists.specs.Parts.{joined}
use Rattle.netlist.specs.Graph.{Graph}
use Rattle.netlist.specs.Kinds.{copy_kind, lookup_kind, majority_kind}
use Rattle.netlist.specs.declared.row.Row.{Row}

-- "A row is seven 16-bit numbers: kind, wire, four operands, table."
abbrev pub row_length : ℕ
row_length = 7

-- row i of a list
unfoldable pub row_at : List ℕ → ℕ → Row
row_at list i = record {
  kind = get_or list (row_length * i) 0;
  wire = get_or list (row_length * i + 1) 0;
  a = get_or list (row_length * i + 2) 0;
  b = get_or list (row_length * i + 3) 0;
  c = get_or list (row_length * i + 4) 0;
  d = get_or list (row_length * i + 5) 0;
  table = get_or list (row_length * i + 6) 0;
}

-- the list is long enough for row i
abbrev pub Inside : List ℕ → ℕ → Type 0
Inside list i = row_length * i + row_length ≤ length list

abbrev pub numbers_of : Row → List ℕ
numbers_of row = row.kind ∷ row.wire ∷ row.a ∷ row.b ∷ row.c ∷ row.d ∷ row.table ∷ []

-- the list with row i put in
unfoldable pub set_row : List ℕ → ℕ → Row → List ℕ
set_row list i row = sets list (row_length * i) (numbers_of row)

-- n rows, one after another
abbrev pub rows_of : (ℕ → Row) → ℕ → List ℕ
rows_of f n = joined (λ i. numbers_of (f i)) n

-- "Unused rows are zeros."
abbrev pub zero_row : Row
zero_row = record { kind = 0; wire = 0; a = 0; b = 0; c = 0; d = 0; table = 0 }

-- operand j of the four, from 0
unfoldable pub operand_of : Row → ℕ → ℕ
operand_of row j = cond (eqb j 0) row.a (cond (eqb j 1) row.b (cond (eqb j 2) row.c row.d))

-- how many of its operands are wires that it reads: one of a copy, "in_0 first" four of a lookup, "in_1, in_2, carry-in" of a majority
unfoldable pub arity_of : Row → ℕ
arity_of row = cond (eqb row.kind copy_kind) 1 (cond (eqb row.kind lookup_kind) 4 (cond (eqb row.kind majority_kind) 3 0))

-- the rows of a block by wire: row w is that of wire w, and has kind 0 where w is no wire
abbrev pub graph_of : List ℕ → Graph
graph_of rows = record {
  wire = λ w. not (eqb (row_at rows w).kind 0);
  arity = λ w. arity_of (row_at rows w);
  operand = λ w j. operand_of (row_at rows w) j;
}
