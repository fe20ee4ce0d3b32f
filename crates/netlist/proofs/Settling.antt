-- The loop that runs a list: after i rows the wires of those rows have bits, and the rest of the run is the whole.
-- Main laws: `settling_start`, `-step`, `-end`; `run_bits`.
use mathlib.Core.Path.{◌≡◌, refl, sym, ap, subst, ◌∙◌}
use mathlib.Core.Logic.{⊎_elim, ◌≢◌}
use mathlib.Core.List.{List}
use Prim.Native.Nat.{ℕ, zero, suc, ◌+◌, ◌-◌, ◌<◌, ◌≤◌}
use native.Mathlib.Nat.{sub-zero}
use native.Mathlib.Numerals.{add-one}
use native.Mathlib.Omega.{arith}
use lib.ListN.{length, get_or, set, length-set}
use lib.Seq.{get_or-set_same, get_or-set_other}
use Rattle.lists.proofs.CaseLaws.{eq_or_ne, lt_or_le}
use Rattle.netlist.specs.Rows.{row_at}
use Rattle.netlist.specs.Running.{row_value, run_from, Bits, Earlier, RowReads, RowFits}
use Rattle.netlist.proofs.ValueLaws.{value_lt}

-- ---- earlier rows

pub earlier_none : (list : List ℕ) (w : ℕ) → Earlier list 0 w → ⊥
earlier_none list w e = let l = e.1 in absurd (omega arith)

pub earlier_more : (list : List ℕ) (i w : ℕ) → Earlier list i w → Earlier list (i + 1) w
earlier_more list i w e = (e.0, (let l = e.1 in omega arith), e.2)

pub earlier_here : (list : List ℕ) (i w : ℕ) → (row_at list i).wire ≡ w → Earlier list (i + 1) w
earlier_here list i w e = (i, omega arith, e)

pub earlier_split : (list : List ℕ) (i w : ℕ) → Earlier list (i + 1) w → (w ≢ (row_at list i).wire) → Earlier list i w
earlier_split list i w e ne =
    let l = e.1 in
    ⊎_elim (λ (a : e.0 < i). (e.0, a, e.2))
    (λ (a : i ≤ e.0). absurd (ne (sym e.2 ∙ ap (λ (k : ℕ). (row_at list k).wire) (let q : e.0 ≡ i = omega arith in q)))) (lt_or_le e.0 i)

-- ---- a turn

module _ (list state lent : List ℕ) where
  pub run_from_step : (x : List ℕ) (i count : ℕ) → i < count
      → run_from list state lent i (count - i) x ≡ run_from list state lent (i + 1) (count - (i + 1)) (set x (row_at list i).wire (row_value (row_at list i) state lent x))
  unfolding run_from
  run_from_step x i count l =
      let e : count - i ≡ suc (count - (i + 1)) = omega arith in
      rw (e, add-one i)

  pub run_from_end : (x : List ℕ) (i count : ℕ) → count ≤ i → run_from list state lent i (count - i) x ≡ x
  unfolding run_from
  run_from_end x i count l = let e : count - i ≡ 0 = omega arith in rw e

  module _ (x₀ : List ℕ) (count : ℕ) where
    pub record Settling (x : List ℕ) (i : ℕ) : Type 0 where
      pub upto : i ≤ count
      pub long : length x ≡ length x₀
      pub bits : (w : ℕ) → Earlier list i w → get_or x w 0 < 2
      pub rest : run_from list state lent i (count - i) x ≡ run_from list state lent 0 count x₀

    pub settling_start : Settling x₀ 0
    settling_start = record { upto = omega arith; long = refl; bits = λ w e. absurd (earlier_none list w e); rest = rw (sub-zero count) }

    module _ (bs : Bits state) (bl : Bits lent)
        (fits : (i : ℕ) → i < count → RowFits list (length state) (length lent) (length x₀) i)
        (x : List ℕ) (i : ℕ) (h : Settling x i) (l : i < count) where
      -- what the row reads is there
      pub settling_reads : RowReads (row_at list i) state lent x
      settling_reads = record {
        lent_there = (fits i l).lent_lt;
        cell_there = (fits i l).cell_lt;
        wires_there = λ j lj.
            let e = (fits i l).earlier j lj in
            let le = e.1 in
            let b = (fits e.0 (omega arith)).wire_lt in
            let q = e.2 in
            let n = h.long in
            omega arith;
        wires_bits = λ j lj. h.bits _ ((fits i l).earlier j lj);
      }

      pub settling_step : (v w : ℕ) → v ≡ row_value (row_at list i) state lent x → w ≡ (row_at list i).wire → Settling (set x w v) (i + 1)
      settling_step v w ev ew = record {
        upto = omega arith;
        long = length-set x w v ∙ h.long;
        bits = λ u e. ⊎_elim (λ (q : u ≡ w). rw (q, here) bit)
            (λ (ne : u ≢ w). rw (get_or-set_other x w u v 0 ne) (h.bits u (earlier_split list i u e (λ q. ne (q ∙ sym ew))))) (eq_or_ne u w);
        rest = rw (ev, ew) (sym (run_from_step x i count l) ∙ h.rest);
      }
        where
          bit : v < 2
          bit = rw ev (value_lt (row_at list i) state lent x bs bl settling_reads.wires_bits)

          here : get_or (set x w v) w 0 ≡ v
          here = get_or-set_same x w v 0 (let b = (fits i l).wire_lt in let n = h.long in omega arith)

    pub settling_end : (x : List ℕ) (i : ℕ) → Settling x i → count ≤ i → x ≡ run_from list state lent 0 count x₀
    settling_end x i h l = sym (run_from_end x i count l) ∙ h.rest

    -- ---- the whole run

    settled : Bits state → Bits lent → ((i : ℕ) → i < count → RowFits list (length state) (length lent) (length x₀) i)
        → (k i : ℕ) (x : List ℕ) → i + k ≡ count → Settling x i → Settling (run_from list state lent 0 count x₀) count
    settled bs bl fits zero i x e h = subst (λ (y : List ℕ). Settling y count) (settling_end x i h (omega arith)) (subst (λ (j : ℕ). Settling x j) (let q : i ≡ count = omega arith in q) h)
    settled bs bl fits (suc k) i x e h =
        settled bs bl fits k (i + 1) _ (omega arith) (settling_step bs bl fits x i h (omega arith) _ _ refl refl)

    -- the values that a run gives are bits, and the rest is as long as before
    pub run_bits : Bits state → Bits lent → ((i : ℕ) → i < count → RowFits list (length state) (length lent) (length x₀) i)
        → (w : ℕ) → Earlier list count w → get_or (run_from list state lent 0 count x₀) w 0 < 2
    run_bits bs bl fits w e = (settled bs bl fits count 0 x₀ (omega arith) settling_start).bits w e

    pub run_length : Bits state → Bits lent → ((i : ℕ) → i < count → RowFits list (length state) (length lent) (length x₀) i)
        → length (run_from list state lent 0 count x₀) ≡ length x₀
    run_length bs bl fits = (settled bs bl fits count 0 x₀ (omega arith) settling_start).long
