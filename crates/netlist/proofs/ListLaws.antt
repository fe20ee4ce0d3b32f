-- The list that building writes: the main laws. Its rows are those of the order (`list_row`, `list_row_past`), running it is running the order
-- (`list_runs`), so it solves every equation (`list_solves`), any other values break one (`list_others_break`), it can be run (`list_fits`), and
-- its values are bits (`list_bits`).
use mathlib.Core.Path.{◌≡◌, refl, sym, ap, ap₂, subst, ◌∙◌}
use mathlib.Core.Bool.{true}
use mathlib.Core.Logic.{⊎_elim, ◌≢◌}
use mathlib.Core.List.{List, [], ◌∷◌}
use Prim.Native.Nat.{ℕ, suc, ◌+◌, ◌<◌, ◌≤◌}
use native.Mathlib.Nat.{add-zero}
use native.Mathlib.Omega.{arith}
use borrow.Author.Tests.{lt-ltb, le-ltb}
use lib.ListN.{length, get_or, set}
use Rattle.lists.proofs.CaseLaws.{clash}
use Rattle.lists.proofs.CountLaws.{count_le}
use Rattle.netlist.specs.Kinds.{flip_flop_kind}
use Rattle.netlist.specs.Order.{order, AllListed}
use Rattle.netlist.specs.Equations.{Solves, run_order}
use Rattle.netlist.specs.Rows.{row_at, operand_of, zero_row, graph_of}
use Rattle.netlist.specs.Running.{row_value, run_from, Bits, RowFits}
use Rattle.netlist.specs.OrderedRows.{row_in_order, list_of}
use Rattle.netlist.specs.declared.row.Row.{Row}
use Rattle.netlist.proofs.MarkLaws.{zeros_unlisted}
use Rattle.netlist.proofs.RowLaws.{row_rows, rows_length_lem}
use Rattle.netlist.proofs.ValueLaws.{value_local}
use Rattle.netlist.proofs.Settling.{run_bits}
use Rattle.netlist.proofs.OrderLaws.{order_placed, order_member, order_length, run_solves, others_break}

-- what row w of the rows by wire gives
abbrev pub value_by : List ℕ → List ℕ → List ℕ → List ℕ → ℕ → ℕ
value_by rows state lent x w = row_value (row_at rows w) state lent x

-- rows that are those of the wires of ws, one after another
run_same : (list rows state lent ws : List ℕ) (i : ℕ) (x : List ℕ) → ((k : ℕ) → k < length ws → row_at list (i + k) ≡ row_at rows (get_or ws k 0))
    → ((k : ℕ) → k < length ws → (row_at rows (get_or ws k 0)).wire ≡ get_or ws k 0)
    → run_from list state lent i (length ws) x ≡ run_order (value_by rows state lent) ws x
unfolding run_from
run_same list rows state lent [] i x is named = refl
run_same list rows state lent (w ∷ ws) i x is named =
    let here : row_at list i ≡ row_at rows w = ap (row_at list) (sym (add-zero i)) ∙ is 0 (omega arith) in
    ap₂ (λ (p v : ℕ). run_from list state lent (suc i) (length ws) (set x p v)) (ap (λ (r : Row). r.wire) here ∙ named 0 (omega arith))
    (ap (λ (r : Row). row_value r state lent x) here)
    ∙ run_same list rows state lent ws (suc i) (set x w (value_by rows state lent x w))
    (λ k lk. ap (row_at list) (let e : suc i + k ≡ i + suc k = omega arith in e) ∙ is (suc k) (omega arith))
    (λ k lk. named (suc k) (omega arith))

-- rows by wire, of which each names its wire, and whose order lists all
module _ (rows : List ℕ) (n : ℕ) (named : (w : ℕ) → (graph_of rows).wire w ≡ true → (row_at rows w).wire ≡ w) (all : AllListed (graph_of rows) n) where
  abbrev wires : List ℕ
  wires = order (graph_of rows) n

  abbrev list : List ℕ
  list = list_of rows n

  length_le : length wires ≤ n
  length_le = let e = order_length (graph_of rows) n all in let l = count_le (graph_of rows).wire n in omega arith

  pub list_row : (k : ℕ) → k < length wires → row_at list k ≡ row_at rows (get_or wires k 0)
  unfolding row_in_order
  list_row k l = row_rows (row_in_order rows wires (length wires)) n k (let b = length_le in omega arith) ∙ rw (lt-ltb _ _ l)

  pub list_row_past : (k : ℕ) → length wires ≤ k → k < n → row_at list k ≡ zero_row
  unfolding row_in_order
  list_row_past k l b = row_rows (row_in_order rows wires (length wires)) n k b ∙ rw (le-ltb _ _ l)

  pub list_wire : (k : ℕ) → k < length wires → (row_at list k).wire ≡ get_or wires k 0
  list_wire k l = ap (λ (r : Row). r.wire) (list_row k l) ∙ named _ ((order_placed (graph_of rows) n).is_wire k l)

  -- every wire has its row
  pub list_every : (w : ℕ) → w < n → (graph_of rows).wire w ≡ true → (k : ℕ) × (k < length wires) × ((row_at list k).wire ≡ w)
  list_every w l iw = let h = (order_member (graph_of rows) n w).0 (all w l iw) in (h.0, h.1, list_wire h.0 h.1 ∙ h.2)

  pub list_fits : (cells lents size : ℕ) → n ≤ lents → n ≤ size → ((w : ℕ) → (row_at rows w).kind ≡ flip_flop_kind → (row_at rows w).a < cells)
      → (k : ℕ) → k < length wires → RowFits list cells lents size k
  list_fits cells lents size ll ls fits k l =
      let p = order_placed (graph_of rows) n in
      let e = list_wire k l in
      let b = p.wire_lt k l in
      record {
        inside = omega (arith, rows_length_lem (row_in_order rows wires (length wires)) n, length_le);
        wire_lt = omega arith;
        lent_lt = λ q. omega arith;
        cell_lt = λ q. rw (list_row k l) (fits _ (ap (λ (r : Row). r.kind) (sym (list_row k l)) ∙ q));
        earlier = λ j lj.
            let r = rw (list_row k l) at lj in
            ⊎_elim (λ t. clash t (zeros_unlisted n _)) (λ h. (h.0, h.1, (let m = h.1 in list_wire h.0 (omega arith)) ∙ h.2 ∙ ap (λ (r : Row). operand_of r j) (sym (list_row k l))))
            (p.reads_before k _ l (j, r, refl));
      }

  module _ (state lent : List ℕ) where
    -- running it is running the order
    pub list_runs : (x : List ℕ) → run_from list state lent 0 (length wires) x ≡ run_order (value_by rows state lent) wires x
    list_runs x =
        run_same list rows state lent wires 0 x (λ k l. ap (row_at list) (let e : 0 + k ≡ k = omega arith in e) ∙ list_row k l)
        (λ k l. named _ ((order_placed (graph_of rows) n).is_wire k l))

    pub list_solves : (x : List ℕ) → n ≤ length x → Solves (graph_of rows) n (value_by rows state lent) (run_from list state lent 0 (length wires) x)
    list_solves x lx =
        subst (λ (t : List ℕ). Solves (graph_of rows) n (value_by rows state lent) t) (sym (list_runs x))
        (run_solves (graph_of rows) n (value_by rows state lent) (value_local rows state lent) all x lx)

    -- "every other choice of 0 or 1": the wire whose equation fails is given
    pub list_others_break : (x y : List ℕ) → n ≤ length x → (w : ℕ) → w < n → (graph_of rows).wire w ≡ true
        → get_or y w 0 ≢ get_or (run_from list state lent 0 (length wires) x) w 0
        → (v : ℕ) × (v < n) × (((graph_of rows).wire v ≡ true) × (get_or y v 0 ≢ value_by rows state lent y v))
    list_others_break x y lx w l iw ne =
        others_break (graph_of rows) n (value_by rows state lent) (value_local rows state lent) all x y lx w l iw
        (λ e. ne (e ∙ ap (λ (t : List ℕ). get_or t w 0) (sym (list_runs x))))

    pub list_bits : Bits state → Bits lent → n ≤ length lent → ((w : ℕ) → (row_at rows w).kind ≡ flip_flop_kind → (row_at rows w).a < length state)
        → (x : List ℕ) → n ≤ length x → (w : ℕ) → w < n → (graph_of rows).wire w ≡ true → get_or (run_from list state lent 0 (length wires) x) w 0 < 2
    list_bits bs bl ll fits x lx w l iw = run_bits list state lent x (length wires) bs bl (list_fits (length state) (length lent) (length x) ll lx fits) w (list_every w l iw)
