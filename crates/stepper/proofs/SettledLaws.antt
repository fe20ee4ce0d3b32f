-- A list that ground 12 lets pass can be run, and what it gives are bits. Main laws: `runnable_fits`, `settled_bits`.
use Prim.Native.Nat.{ℕ, ◌*◌, ◌<◌}
use mathlib.Core.Path.{◌≡◌, refl, sym, ◌∙◌, ap, subst}
use mathlib.Core.Bool.{Bool, true, false, cond, not}
use mathlib.Core.List.{List}
use native.Mathlib.Omega.{arith}
use lib.Dec.{eqb}
use lib.ListN.{length, get_or}
use Rattle.lists.specs.Tables.{tabulate, zeros}
use Rattle.lists.specs.Search.{count_below}
use Rattle.lists.proofs.CountLaws.{count_ext}
use Rattle.lists.proofs.TableLaws.{tabulate_length, tabulate_zero, tabulate_ext, zeros_length}
use Rattle.ports.specs.declared.size.Block.{Block}
use Rattle.ports.specs.Block.{tiles}
use Rattle.ports.specs.Lengths.{ports}
use Rattle.fabric.specs.Wire.{wire_of, wires_of}
use Rattle.fabric.specs.Count.{own_wire, wires}
use Rattle.fabric.proofs.WireLaws.{wire_within, wire_own, wires_at}
use Rattle.netlist.specs.Marks.{listed}
use Rattle.netlist.specs.Running.{run_from, RowFits}
use Rattle.netlist.specs.Checking.{first_bad_row, wire_count}
use Rattle.netlist.proofs.PassedLaws.{passed_fits, passed_bits}
use Rattle.stepper.specs.Settling.{settled_by, port_value, port_values, PortBits, wire_mark, wire_marks, Runnable}

module _ (B : Block) where
  -- ---- the marks of the block's wires

  pub marks_length : length (wire_marks B) ≡ ports B
  unfolding wire_marks
  marks_length = tabulate_length (wire_mark B) 0 (ports B)

  marks_at : (p : ℕ) → p < ports B → get_or (wire_marks B) p 0 ≡ wire_mark B p
  unfolding wire_marks
  marks_at p l = tabulate_zero (wire_mark B) 0 (ports B) p l

  pub marks_listed : (p : ℕ) → p < ports B → listed (wire_marks B) p ≡ own_wire B p
  marks_listed p l = ap (λ (n : ℕ). not (eqb n 0)) (marks_at p l) ∙ back (own_wire B p)
    where
      back : (b : Bool) → not (eqb (cond b 1 0) 0) ≡ b
      back true = refl
      back false = refl

  -- "the row count, which is the number of wires"
  pub marks_count : wire_count (wire_marks B) ≡ wires B
  unfolding wires
  marks_count = ap (count_below (listed (wire_marks B))) marks_length ∙ count_ext (listed (wire_marks B)) (own_wire B) (ports B) marks_listed

  -- ---- what is filled in from the wire of each port

  module _ (map : List ℕ) (wired : map ≡ wires_of B) where
    pub wire_marks_is : tabulate (λ p. cond (eqb (get_or map p 0) p) 1 0) 0 (ports B) ≡ wire_marks B
    unfolding wire_marks own_wire
    wire_marks_is = tabulate_ext 0 _ (wire_mark B) (ports B) (λ p l. ap (λ (w : ℕ). cond (eqb w p) 1 0) (wires_at B map wired p l))

    pub port_values_is : (x : List ℕ) → tabulate (λ p. get_or x (get_or map p 0) 0) 0 (ports B) ≡ port_values B x
    unfolding port_values
    port_values_is x = tabulate_ext 0 _ (port_value B x) (ports B) (λ p l. ap (λ (w : ℕ). get_or x w 0) (wires_at B map wired p l))

  -- ---- a list that passed

  module _ (list state lent : List ℕ) (h : Runnable B list state lent) where
    stands : first_bad_row list (8 * tiles B) (wire_marks B) ≡ length (wire_marks B)
    stands = h.passed ∙ sym marks_length

    pub runnable_fits : (i : ℕ) → i < wires B → RowFits list (length state) (length lent) (ports B) i
    runnable_fits i l =
        let e = h.list_long in
        let n = marks_length in
        subst (λ (m : ℕ). RowFits list m (length lent) (ports B) i) (sym h.state_long)
        (subst (λ (m : ℕ). RowFits list (8 * tiles B) (length lent) m i) n
        (passed_fits list (8 * tiles B) (wire_marks B) stands (length lent) (omega arith) (let b = h.lent_long in omega arith) i (rw marks_count l)))

    fits_zeros : (i : ℕ) → i < wires B → RowFits list (length state) (length lent) (length (zeros (ports B))) i
    fits_zeros i l = rw (zeros_length (ports B)) (runnable_fits i l)

    -- "Every wire has a value of 0 or 1"
    pub settled_bits : PortBits B (settled_by B list state lent)
    unfolding settled_by
    settled_bits p l =
        let e = h.list_long in
        let n = marks_length in
        let b = h.lent_long in
        subst (λ (k : ℕ). get_or (run_from list state lent 0 k (zeros (ports B))) (wire_of B p) 0 < 2) marks_count
        (passed_bits list (8 * tiles B) (wire_marks B) stands state lent h.state_bits h.lent_bits h.state_long (omega arith) (omega arith)
        (zeros (ports B)) (zeros_length (ports B) ∙ sym n) (wire_of B p) (marks_listed (wire_of B p) (wire_within B p l) ∙ wire_own B p l))
