-- Why the order ends early exactly at a loop. A walk from a waiting wire to one that it waits for meets itself (`stuck_loop`), and what
-- a listed wire depends on is listed and another wire (`Safe`, and `settled_end` for the search for a loop).
use mathlib.Core.Path.{◌≡◌, refl, sym, ◌∙◌}
use mathlib.Core.Bool.{true, false}
use mathlib.Core.Logic.{⊎_elim, ◌≢◌}
use mathlib.Core.List.{List}
use Prim.Native.Nat.{ℕ, zero, suc, ◌<◌, ◌≤◌}
use native.Mathlib.Omega.{arith}
use lib.ListN.{length, set, length-set}
use Rattle.lists.specs.Tables.{zeros}
use Rattle.lists.proofs.CaseLaws.{cases, clash, eq_or_ne}
use Rattle.lists.proofs.TableLaws.{zeros_length}
use Rattle.netlist.specs.Graph.{Graph, Reads, DependsOn, reads, via, Closed}
use Rattle.netlist.specs.Marks.{listed, marks_after, unmarked}
use Rattle.netlist.specs.Order.{ready, next, order_marks, Settled}
use Rattle.netlist.proofs.MarkLaws.{unlisted_zero, listed_set_other, listed_set_kept, unmarked_set, unmarked_none, unmarked_zeros, zeros_unlisted}
use Rattle.netlist.proofs.ReadyLaws.{ready_reads, ready_unlisted, ready_false_reads, next_none, order_induction}

module _ (g : Graph) where
  pub depends_then : {v w d : ℕ} → DependsOn g v w → Reads g w d → DependsOn g v d
  depends_then (reads r) s = via r (reads s)
  depends_then (via r h) s = via r (depends_then h s)

  -- what is depended on is a wire
  pub depends_wire : (n : ℕ) → Closed g n → {v d : ℕ} → DependsOn g v d → g.wire d ≡ true
  depends_wire n cl (reads r) = cl.wires _ _ r
  depends_wire n cl (via r h) = depends_wire n cl h

  -- some wire below n depends on itself
  abbrev pub Looped : ℕ → Type 0
  Looped n = (v : ℕ) × (v < n) × DependsOn g v v

  -- `past` marks the wires gone through, each of which depends on the present one, w
  walk : (n : ℕ) (m : List ℕ) → Closed g n → ((w : ℕ) → w < n → ready g m w ≡ false) → (k : ℕ) (past : List ℕ) → length past ≡ n → unmarked past ≤ k
      → (w : ℕ) → w < n → g.wire w ≡ true → listed m w ≡ false → ((v : ℕ) → listed past v ≡ true → DependsOn g v w) → Looped n
  walk n m cl none zero past e u w l iw new prev = (w, l, prev w (unmarked_none past w (omega arith) (omega arith)))
  walk n m cl none (suc k) past e u w l iw new prev = ⊎_elim (λ q. (w, l, prev w q)) (λ q.
      let r = ready_false_reads g m w (none w l) iw new in
      let c = unmarked_set past w (omega arith) (unlisted_zero past w q) in
      walk n m cl none k (set past w 1) (length-set past w 1 ∙ e) (omega arith) r.0 (cl.below w _ r.1) (cl.wires w _ r.1) r.2
      (step r.0 r.1)) (cases (listed past w))
    where
      step : (d : ℕ) → Reads g w d → (v : ℕ) → listed (set past w 1) v ≡ true → DependsOn g v d
      step d r v h =
          ⊎_elim (λ (q : v ≡ w). rw q (reads r)) (λ ne. depends_then (prev v (sym (listed_set_other past w v ne) ∙ h)) r) (eq_or_ne v w)

  -- where none is ready, a wire that is not listed leads to one that depends on itself
  pub stuck_loop : (n : ℕ) (m : List ℕ) → Closed g n → n ≤ next g n m → (w : ℕ) → w < n → g.wire w ≡ true → listed m w ≡ false → Looped n
  stuck_loop n m cl h w l iw new =
      walk n m cl (next_none g n m h) n (zeros n) (zeros_length n) (let c = unmarked_zeros n in omega arith) w l iw new
      (λ v q. clash q (zeros_unlisted n v))

  -- ---- no listed wire depends on itself

  abbrev pub Safe : List ℕ → Type 0
  Safe m = (v d : ℕ) → listed m v ≡ true → DependsOn g v d → (listed m d ≡ true) × (v ≢ d)

  pub safe_start : (n : ℕ) → Safe (zeros n)
  safe_start n v d h dep = clash h (zeros_unlisted n v)

  pub safe_step : (m : List ℕ) (w : ℕ) → w < length m → ready g m w ≡ true → Safe m → Safe (set m w 1)
  safe_step m w l r safe v d h dep =
      ⊎_elim (λ (q : v ≡ w). here q (rw q at dep))
      (λ (ne : v ≢ w). let s = safe v d (sym (listed_set_other m w v ne) ∙ h) dep in (listed_set_kept m w d l s.0, s.1)) (eq_or_ne v w)
    where
      onto : {d : ℕ} → DependsOn g w d → listed m d ≡ true
      onto (reads q) = ready_reads g m w r _ q
      onto (via q t) = (safe _ _ (ready_reads g m w r _ q) t).0

      here : v ≡ w → DependsOn g w d → (listed (set m w 1) d ≡ true) × (v ≢ d)
      here q dw = (listed_set_kept m w d l (onto dw), λ e. clash (onto dw) (rw (sym e ∙ q) (ready_unlisted g m w r)))

-- ---- at the end of the order

module _ (g : Graph) (n : ℕ) where
  Ended : List ℕ → List ℕ → Type 0
  Ended m l = (length (marks_after m l) ≡ n) × (n ≤ next g n (marks_after m l))

  pub order_ended : (length (order_marks g n) ≡ n) × (n ≤ next g n (order_marks g n))
  unfolding Ended order_marks
  order_ended = order_induction g n Ended (λ m e h. (e, h)) (λ m l w e lt r ih. ih)

  Kept : List ℕ → List ℕ → Type 0
  Kept m l = Safe g m → Safe g (marks_after m l)

  pub safe_end : Safe g (order_marks g n)
  unfolding Kept order_marks
  safe_end = order_induction g n Kept (λ m e h s. s) (λ m l w e lt r ih s. ih (safe_step g m w (omega arith) r s)) (safe_start g n)

  pub settled_end : Settled g (order_marks g n)
  settled_end = record { reads_listed = λ w d h r. (safe_end w d h (reads r)).0; no_loop = λ w h dep. (safe_end w w h dep).1 refl }
