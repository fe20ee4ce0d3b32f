-- The list of an accepted block: one row for each wire, in document 01's order, zeros behind. Main law: `listing`. Assumes nothing.
use Prim.Native.Nat.{ℕ, ◌*◌, ◌<◌}
use mathlib.Core.Path.{◌≡◌, sym, subst, ◌∙◌}
use mathlib.Core.Logic.{◌⊎◌, inl, inr, ⊎_elim}
use mathlib.Core.List.{List}
use native.Mathlib.Omega.{arith}
use lib.ListN.{length, get_or}
use Rattle.lists.proofs.CaseLaws.{clash}
use Rattle.ports.specs.declared.size.Block.{Block}
use Rattle.ports.specs.Block.{tiles}
use Rattle.ports.specs.Lengths.{ports}
use Rattle.fabric.specs.Wire.{wire_of}
use Rattle.fabric.specs.Count.{wires}
use Rattle.fabric.proofs.WireLaws.{wire_within, wire_own}
use Rattle.netlist.specs.Rows.{row_at}
use Rattle.netlist.specs.Order.{order, AllListed}
use Rattle.netlist.specs.Running.{Earlier}
use Rattle.netlist.proofs.MarkLaws.{zeros_unlisted}
use Rattle.netlist.proofs.OrderLaws.{order_placed}
use Rattle.netlist.proofs.ListLaws.{list_row, list_wire}
use Rattle.netlist.proofs.PassedLaws.{passed_every, passed_once, passed_zero}
use Rattle.equations.specs.Switches.{NoContention}
use Rattle.equations.specs.Equations.{ReadsWire}
use Rattle.equations.specs.Routed.{Routed}
use Rattle.equations.specs.RowMeaning.{RowSays}
use Rattle.equations.specs.WireRows.{wire_rows}
use Rattle.equations.specs.Settling.{block_list}
use Rattle.equations.proofs.RowReasons.{row_says}
use Rattle.equations.proofs.WireRowLaws.{graph, row_is, own_wire_lem, rows_named}
use Rattle.equations.proofs.WireRowLaws as rows-laws
use Rattle.equations.proofs.ChainLaws.{reads_exact, reads_equation}
use Rattle.equations.proofs.SettlingLaws.{count_wires}
use Rattle.stepper.specs.Settling.{wire_marks, bad_row}
use Rattle.stepper.proofs.SettledLaws.{marks_length, marks_listed, marks_count}
use Rattle.theorem.specs.Listing.{Listing}
use Rattle.theorem.proofs.OwnListLaws.{own_list_passes}
use Rattle.theorem.proofs.OrderLowest.{Ahead, order_lowest}

module _ (B : Block) (t st : List ℕ) (ok : Routed B t st) (free : NoContention B t st) (all : AllListed (graph B t st) (ports B))
    (rows : ℕ) (count : rows ≡ wires B) where
  stands : bad_row B (block_list B t st) ≡ length (wire_marks B)
  stands = own_list_passes B t st all ∙ sym (marks_length B)

  -- ---- the order

  abbrev list : List ℕ
  list = block_list B t st

  abbrev ws : List ℕ
  ws = order (graph B t st) (ports B)

  rows_are : rows ≡ length ws
  rows_are = count ∙ sym (count_wires B t st all)

  names : (i : ℕ) → i < rows → (row_at list i).wire ≡ get_or ws i 0
  names i l = let e = rows_are in list_wire (wire_rows B t st) (ports B) (rows_named B t st) all i (omega arith)

  earlier_of : (i v : ℕ) → i < rows → Ahead ws i v → Earlier list i v
  earlier_of i v l s = let k = s.1 in (s.0, k, names s.0 (omega arith) ∙ s.2)

  ahead_of : (i v : ℕ) → i < rows → Earlier list i v → Ahead ws i v
  ahead_of i v l s = let k = s.1 in (s.0, k, sym (names s.0 (omega arith)) ∙ s.2)

  reads_earlier : (i : ℕ) → i < rows → (d : ℕ) → ReadsWire B t st (row_at list i).wire d → Earlier list i d
  reads_earlier i l d r =
      let e = rows_are in
      ⊎_elim (λ t. clash t (zeros_unlisted (ports B) d)) (λ s. earlier_of i d l s)
      ((order_placed (graph B t st) (ports B)).reads_before i d (omega arith)
      ((reads_exact B t st ok free (get_or ws i 0) d).0 (rw (names i l) at r)))

  lowest : (i : ℕ) → i < rows → (v : ℕ) → v < (row_at list i).wire → wire_of B v ≡ v
      → Earlier list i v ⊎ ((d : ℕ) × ReadsWire B t st v d × (Earlier list i d → ⊥))
  lowest i l v lv own =
      let e = rows_are in
      let n = names i l in
      let li : i < length ws = omega arith in
      let b = (order_placed (graph B t st) (ports B)).wire_lt i li in
      ⊎_elim (λ s. inl (earlier_of i v l s))
      (λ r. inr (r.0, reads_equation B t st v r.0 r.1, λ s. r.2 (ahead_of i r.0 l s)))
      (order_lowest (graph B t st) (ports B) i li v (omega arith) (own_wire_lem B t st v (omega arith) own))

  -- the row is the one that its wire's sentence gives
  row_stated : (i : ℕ) → i < rows → RowSays B t st (row_at list i).wire (row_at list i)
  row_stated i l =
      let e = rows_are in
      let li : i < length ws = omega arith in
      let own = rows-laws.wire_own B t st (get_or ws i 0) ((order_placed (graph B t st) (ports B)).is_wire i li) in
      let row = list_row (wire_rows B t st) (ports B) (rows_named B t st) all i li ∙ row_is B t st (get_or ws i 0) own.0 in
      subst (λ (w : ℕ). RowSays B t st w (row_at list i)) (sym (names i l))
      (subst (RowSays B t st (get_or ws i 0)) (sym row) (row_says B t st (get_or ws i 0) own.0 own.1))

  -- ---- the sentences

  pub listing : Listing B t st (block_list B t st) rows
  listing =
      let m = marks_count B in
      let n = marks_length B in
      let c = count in
      record {
        count = c;
        every = λ p l.
            let e = passed_every (block_list B t st) (8 * tiles B) (wire_marks B) stands (wire_of B p) (marks_listed B _ (wire_within B p l) ∙ wire_own B p l) in
            let k = e.1 in
            (e.0, omega arith, e.2);
        once = λ i j li lj e. passed_once (block_list B t st) (8 * tiles B) (wire_marks B) stands i j (omega arith) (omega arith) e;
        says = row_stated;
        reads_earlier = reads_earlier;
        lowest = lowest;
        zero_past = λ i l u. passed_zero (block_list B t st) (8 * tiles B) (wire_marks B) stands i (omega arith) (omega arith);
      }
