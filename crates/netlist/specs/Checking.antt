-- Ground 12: the rows of a lent list that may not stand where they do.
use Rattle.std.specs.Prelude.{◌≡◌, ◌≢◌, Bool, true, false, not, ◌&&◌, ◌||◌, cond, List, ℕ, ◌<◌, ◌≤◌, eqb, leb, ltb, length}
use Rattle.lists.specs.Search.{first, all_from, count_below}
use Rattle.netlist.specs.Kinds.{flip_flop_kind, lookup_kind, majority_kind}
use Rattle.netlist.specs.Marks.{listed}
use Rattle.netlist.specs.Rows.{row_at, operand_of, arity_of, zero_row}
use Rattle.netlist.specs.Running.{Earlier}
use Rattle.netlist.specs.declared.row.Row.{Row}

-- its kind uses operand j: a wire, or the cell of a flip-flop
abbrev pub uses : Row → ℕ → Bool
uses row j = ltb j (arity_of row) || (eqb row.kind flip_flop_kind && eqb j 0)

-- ground 12 has nothing against row i; `wires` marks the block's wires
pub record RowGood (list : List ℕ) (cells : ℕ) (wires : List ℕ) (i : ℕ) : Type 0 where
  -- "a row's kind is not 1 to 7"
  pub kind_low : 1 ≤ (row_at list i).kind
  pub kind_high : (row_at list i).kind ≤ majority_kind
  -- "its wire is none of the block's or came before"
  pub wire : listed wires (row_at list i).wire ≡ true
  pub fresh : Earlier list i (row_at list i).wire → ⊥
  -- "an operand its kind uses is no wire of an earlier row (kind 4: no such cell)"
  pub operands : (j : ℕ) → j < arity_of (row_at list i) → Earlier list i (operand_of (row_at list i) j)
  pub cell : (row_at list i).kind ≡ flip_flop_kind → (row_at list i).a < cells
  -- "an unused number [..] is not 0"
  pub unused : (j : ℕ) → j < 4 → uses (row_at list i) j ≡ false → operand_of (row_at list i) j ≡ 0
  pub no_table : (row_at list i).kind ≢ lookup_kind → (row_at list i).table ≡ 0

-- "the number of wires"
abbrev pub wire_count : List ℕ → ℕ
wire_count wires = count_below (listed wires) (length wires)

-- row i of the list may stand where it does; "or a row past the number of wires, is not 0": none of its seven numbers may be
pub record RowStands (list : List ℕ) (cells : ℕ) (wires : List ℕ) (i : ℕ) : Type 0 where
  pub good : i < wire_count wires → RowGood list cells wires i
  pub zero_past : wire_count wires ≤ i → row_at list i ≡ zero_row

-- "first such row, from 0"; n, the number of rows, where there is none
pub record FirstBad (list : List ℕ) (cells : ℕ) (wires : List ℕ) (n r : ℕ) : Type 0 where
  pub within : r ≤ n
  pub before : (i : ℕ) → i < r → RowStands list cells wires i
  pub here : r < n → RowStands list cells wires r → ⊥

-- ---- the same, computed

-- `came` says which wires came before
unfoldable pub operand_good : Row → ℕ → (ℕ → Bool) → ℕ → Bool
operand_good row cells came j =
    cond (ltb j (arity_of row)) (came (operand_of row j))
    (cond (eqb row.kind flip_flop_kind && eqb j 0) (ltb (operand_of row j) cells) (eqb (operand_of row j) 0))

unfoldable pub row_good : Row → ℕ → (ℕ → Bool) → (ℕ → Bool) → Bool
row_good row cells block came =
    not (eqb row.kind 0)
    && (leb row.kind majority_kind
    && (block row.wire
    && (not (came row.wire)
    && (all_from (operand_good row cells came) 0 4 && (eqb row.kind lookup_kind || eqb row.table 0)))))

unfoldable pub earlier : List ℕ → ℕ → ℕ → Bool
earlier list i w = ltb (first (λ k. eqb (row_at list k).wire w) 0 i) i

unfoldable pub zero_test : Row → Bool
zero_test row =
    eqb row.kind 0
    && (eqb row.wire 0
    && (eqb row.a 0 && (eqb row.b 0 && (eqb row.c 0 && (eqb row.d 0 && eqb row.table 0)))))

abbrev pub good_at : List ℕ → ℕ → List ℕ → ℕ → Bool
good_at list cells wires i = row_good (row_at list i) cells (listed wires) (earlier list i)

unfoldable pub stands : List ℕ → ℕ → List ℕ → ℕ → Bool
stands list cells wires i = cond (ltb i (wire_count wires)) (good_at list cells wires i) (zero_test (row_at list i))

unfoldable pub first_bad_row : List ℕ → ℕ → List ℕ → ℕ
first_bad_row list cells wires = first (λ i. not (stands list cells wires i)) 0 (length wires)
