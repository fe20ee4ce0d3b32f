-- A lent list that passes ground 12: the main laws. Every wire has one row (`passed_every`, `passed_once`), the list can be run (`passed_fits`), and what
-- it gives is a bit (`passed_bits`).
use mathlib.Core.Path.{◌≡◌, refl, sym, ap, ◌∙◌}
use mathlib.Core.Bool.{Bool, true, false, not, ◌&&◌, cond}
use mathlib.Core.Logic.{⊎_elim, ◌≢◌}
use mathlib.Core.List.{List}
use Prim.Native.Nat.{ℕ, zero, suc, ◌+◌, ◌-◌, ◌*◌, ◌<◌, ◌≤◌}
use native.Mathlib.Numerals.{add-one}
use native.Mathlib.Omega.{arith}
use borrow.Author.Tests.{not-false}
use lib.ListN.{length, get_or, set, length-set}
use lib.Seq.{get_or-set_same, get_or-set_other}
use Rattle.lists.specs.Search.{count_below}
use Rattle.lists.proofs.CaseLaws.{cases, eq_or_ne, lt_or_le, and_true, and_false_right}
use Rattle.lists.proofs.CountLaws.{count_ext, count_one_more}
use Rattle.netlist.specs.Marks.{listed}
use Rattle.netlist.specs.Rows.{row_length, row_at, zero_row}
use Rattle.netlist.specs.Running.{row_value, run_from, Bits, Earlier, RowFits}
use Rattle.netlist.specs.Checking.{RowGood, wire_count, earlier, first_bad_row}
use Rattle.netlist.proofs.MarkLaws.{listed_lt}
use Rattle.netlist.proofs.ValueLaws.{row_value_local}
use Rattle.netlist.proofs.Settling.{earlier_none, earlier_more, earlier_here, earlier_split, run_from_step, run_from_end, run_bits}
use Rattle.netlist.proofs.CheckingLaws.{earlier_exact, first_bad_exact}
use Rattle.netlist.proofs.FirstBadLaws.{test_ext, wire_count_le}

module _ (list : List ℕ) (cells : ℕ) (wires : List ℕ) (passed : first_bad_row list cells wires ≡ length wires) where
  pub passed_good : (i : ℕ) → i < wire_count wires → RowGood list cells wires i
  passed_good i l = let b = wire_count_le list cells wires in ((first_bad_exact list cells wires).before i (omega arith)).good l

  pub passed_zero : (i : ℕ) → wire_count wires ≤ i → i < length wires → row_at list i ≡ zero_row
  passed_zero i l u = ((first_bad_exact list cells wires).before i (omega arith)).zero_past l

  pub passed_wire_lt : (i : ℕ) → i < wire_count wires → (row_at list i).wire < length wires
  passed_wire_lt i l = listed_lt wires _ (passed_good i l).wire

  pub passed_fits : (lents : ℕ) → length list ≡ row_length * length wires → length wires ≤ lents → (i : ℕ) → i < wire_count wires
      → RowFits list cells lents (length wires) i
  passed_fits lents e u i l =
      let b = wire_count_le list cells wires in
      let w = passed_wire_lt i l in
      record {
        inside = omega arith;
        wire_lt = w;
        lent_lt = λ q. omega arith;
        cell_lt = (passed_good i l).cell;
        earlier = (passed_good i l).operands;
      }

  -- ---- every wire has one row

  -- the wires that no row below i has
  abbrev left : ℕ → ℕ → Bool
  left i w = listed wires w && not (earlier list i w)

  left_step : (i : ℕ) → i < wire_count wires → suc (count_below (left (i + 1)) (length wires)) ≡ count_below (left i) (length wires)
  left_step i l =
      count_one_more (left (i + 1)) (left i) (row_at list i).wire (length wires) (passed_wire_lt i l)
      (and_false_right (listed wires (row_at list i).wire) _ (ap not ((earlier_exact list (i + 1) _).1 (earlier_here list i _ refl))))
      (and_true (passed_good i l).wire (ap not (⊎_elim (λ t. absurd ((passed_good i l).fresh ((earlier_exact list i _).0 t))) (λ f. f) (cases (earlier list i (row_at list i).wire)))))
      (λ v ne. ap (λ (b : Bool). listed wires v && not b) (sym (same v ne)))
    where
      same : (v : ℕ) → v ≢ (row_at list i).wire → earlier list i v ≡ earlier list (i + 1) v
      same v ne =
          test_ext (earlier list i v) (earlier list (i + 1) v) (λ t. (earlier_exact list (i + 1) v).1 (earlier_more list i v ((earlier_exact list i v).0 t)))
          (λ t. (earlier_exact list i v).1 (earlier_split list i v ((earlier_exact list (i + 1) v).0 t) ne))

  left_all : (i : ℕ) → i ≤ wire_count wires → i + count_below (left i) (length wires) ≡ wire_count wires
  left_all zero l =
      let e = count_ext (left 0) (listed wires) (length wires) (λ w lw. ap (λ (b : Bool). listed wires w && not b) (none w) ∙ and_one (listed wires w)) in
      omega arith
    where
      none : (w : ℕ) → earlier list 0 w ≡ false
      none w = ⊎_elim (λ t. absurd (earlier_none list w ((earlier_exact list 0 w).0 t))) (λ f. f) (cases (earlier list 0 w))

      and_one : (b : Bool) → b && true ≡ b
      and_one true = refl
      and_one false = refl
  left_all (suc i) l =
      let h = left_all i (omega arith) in
      let s = left_step i l in
      let e = ap (λ (k : ℕ). count_below (left k) (length wires)) (add-one i) in
      omega arith

  count_zero : (p : ℕ → Bool) (n w : ℕ) → count_below p n ≡ 0 → w < n → p w ≡ false
  unfolding count_below
  count_zero p zero w e l = absurd (omega arith)
  count_zero p (suc n) w e l = go (p n) refl e (λ z lw. count_zero p n w z lw)
    where
      go : (b : Bool) → p n ≡ b → cond b 1 0 + count_below p n ≡ 0 → (count_below p n ≡ 0 → w < n → p w ≡ false) → p w ≡ false
      go true q e r = absurd (omega arith)
      go false q e r = ⊎_elim (λ (d : w ≡ n). rw d q) (λ ne. r (omega arith) (omega arith)) (eq_or_ne w n)

  pub passed_every : (w : ℕ) → listed wires w ≡ true → Earlier list (wire_count wires) w
  passed_every w t =
      let z = left_all (wire_count wires) (omega arith) in
      let f = count_zero (left (wire_count wires)) (length wires) w (omega arith) (listed_lt wires w t) in
      (earlier_exact list (wire_count wires) w).0 (not-false _ (rw t at f))

  pub passed_once : (i j : ℕ) → i < wire_count wires → j < wire_count wires → (row_at list i).wire ≡ (row_at list j).wire → i ≡ j
  passed_once i j li lj e =
      ⊎_elim (λ (l : i < j). absurd ((passed_good j lj).fresh (i, l, e)))
      (λ (l : j ≤ i). ⊎_elim (λ (k : j < i). absurd ((passed_good i li).fresh (j, k, sym e))) (λ (k : i ≤ j). omega arith) (lt_or_le j i)) (lt_or_le i j)

  -- ---- what it gives

  module _ (state lent : List ℕ) where
    -- the rows from i on, from values that agree at the wires of the rows before
    agree : (k i : ℕ) (x y : List ℕ) → i + k ≡ wire_count wires → length wires ≤ length x → length wires ≤ length y
        → ((w : ℕ) → Earlier list i w → get_or x w 0 ≡ get_or y w 0)
        → (w : ℕ) → Earlier list (wire_count wires) w
        → get_or (run_from list state lent i (wire_count wires - i) x) w 0 ≡ get_or (run_from list state lent i (wire_count wires - i) y) w 0
    agree zero i x y e lx ly h w came =
        rw (run_from_end list state lent x i (wire_count wires) (omega arith), run_from_end list state lent y i (wire_count wires) (omega arith))
        (h w (came.0, (let l = came.1 in omega arith), came.2))
    agree (suc k) i x y e lx ly h w came =
        rw (run_from_step list state lent x i (wire_count wires) (omega arith), run_from_step list state lent y i (wire_count wires) (omega arith))
        (agree k (i + 1) (set x at vx) (set y at vy) (omega arith) (omega (arith, length-set x at vx)) (omega (arith, length-set y at vy)) step w came)
      where
        l : i < wire_count wires
        l = omega arith

        at : ℕ
        at = (row_at list i).wire

        vx : ℕ
        vx = row_value (row_at list i) state lent x

        vy : ℕ
        vy = row_value (row_at list i) state lent y

        step : (v : ℕ) → Earlier list (i + 1) v → get_or (set x at vx) v 0 ≡ get_or (set y at vy) v 0
        step v ev =
            let b = passed_wire_lt i l in
            ⊎_elim
            (λ (q : v ≡ at).
            rw (q, get_or-set_same x at vx 0 (omega arith), get_or-set_same y at vy 0 (omega arith))
            (row_value_local (row_at list i) state lent x y (λ j lj. h _ ((passed_good i l).operands j lj))))
            (λ (ne : v ≢ at). get_or-set_other x at v vx 0 ne ∙ h v (earlier_split list i v ev ne) ∙ sym (get_or-set_other y at v vy 0 ne)) (eq_or_ne v at)

    pub passed_bits : Bits state → Bits lent → length state ≡ cells → length list ≡ row_length * length wires → length wires ≤ length lent
        → (x : List ℕ) → length x ≡ length wires → (w : ℕ) → listed wires w ≡ true → get_or (run_from list state lent 0 (wire_count wires) x) w 0 < 2
    passed_bits bs bl ec el ll x lx w t =
        run_bits list state lent x (wire_count wires) bs bl (λ i l. rw (ec, lx) (passed_fits (length lent) el ll i l)) w (passed_every w t)
