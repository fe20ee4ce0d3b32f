-- The order and what running it gives, over plain lists: the main laws.
--   order_exact == it lists every wire exactly if no wire depends on itself     order_placed == its wires, each once, none before what it reads
--   order_member == a wire is in it exactly if it is marked at the end          order_length == one row for each wire
--   run_solves == running it solves every equation                              others_break == other values break one, which is named
--   lowest_loop_unique == `LowestLoop` determines its place                     listed_or_looped == one of the two holds
use mathlib.Core.Path.{◌≡◌, refl, sym, ◌∙◌}
use mathlib.Core.Bool.{Bool, true, false, not, ◌&&◌}
use mathlib.Core.Logic.{◌⊎◌, inl, inr, ⊎_elim, ◌≢◌, ◌↔◌}
use mathlib.Core.List.{List}
use Prim.Native.Nat.{ℕ, ◌+◌, ◌<◌, ◌≤◌}
use native.Mathlib.Omega.{arith}
use lib.ListN.{length, get_or, set, length-set}
use Rattle.lists.specs.Search.{count_below}
use Rattle.lists.specs.Tables.{zeros}
use Rattle.lists.proofs.CaseLaws.{cases, clash, eq_or_ne, lt_or_le, all_or_one, and_false_right}
use Rattle.lists.proofs.CountLaws.{count_ext, count_none}
use Rattle.netlist.specs.Graph.{Graph, DependsOn, Closed, LowestLoop}
use Rattle.netlist.specs.Marks.{listed, marks_after}
use Rattle.netlist.specs.Order.{order, order_marks, AllListed}
use Rattle.netlist.specs.Equations.{Solves, Local, run_order}
use Rattle.netlist.proofs.MarkLaws.{zeros_unlisted}
use Rattle.netlist.proofs.ReadyLaws.{order_induction, ready_wire}
use Rattle.netlist.proofs.LoopLaws.{Looped, Safe, safe_start, safe_step, stuck_loop, order_ended, safe_end, depends_wire}
use Rattle.netlist.proofs.EquationLaws.{Solved, Agree, solved_step, agree_step}
use Rattle.netlist.proofs.PlacedLaws.{waiting, waiting_is, waiting_step, Has, Placed, placed_end, placed_step}

module _ (g : Graph) (n : ℕ) where
  -- ---- loops

  pub listed_or_looped : Closed g n → AllListed g n ⊎ Looped g n
  listed_or_looped cl =
      ⊎_elim inl (λ r. inr (stuck_loop g n (order_marks g n) cl (order_ended g n).1 r.0 r.1 r.2.0 r.2.1))
      (all_or_one (λ w. g.wire w ≡ true → listed (order_marks g n) w ≡ true) (λ w. (g.wire w ≡ true) × (listed (order_marks g n) w ≡ false)) n
      (λ w l.
      ⊎_elim (λ yes. inl (λ iw. yes)) (λ new. ⊎_elim (λ iw. inr (iw, new)) (λ nw. inl (λ iw. clash iw nw)) (cases (g.wire w)))
      (cases (listed (order_marks g n) w))))

  pub listed_no_loop : Closed g n → AllListed g n → (v : ℕ) → v < n → DependsOn g v v → ⊥
  listed_no_loop cl all v l dep = (safe_end g n v v (all v l (depends_wire g n cl dep)) dep).1 refl

  pub order_exact : Closed g n → AllListed g n ↔ ((v : ℕ) → v < n → DependsOn g v v → ⊥)
  order_exact cl = (listed_no_loop cl, λ none. ⊎_elim (λ all. all) (λ s. absurd (none s.0 s.1 s.2)) (listed_or_looped cl))

  pub lowest_loop_lt : (w : ℕ) → LowestLoop g n w → Looped g n → w < n
  lowest_loop_lt w h s = ⊎_elim (λ (lt : w < n). lt) (λ (le : n ≤ w). absurd (h.before s.0 (let a = s.1 in omega arith) s.2)) (lt_or_le w n)

  pub lowest_loop_unique : (v w : ℕ) → LowestLoop g n v → LowestLoop g n w → v ≡ w
  lowest_loop_unique v w a b =
      let p = a.within in
      let q = b.within in
      ⊎_elim (λ (l : v < w). absurd (b.before v l (a.here (omega arith))))
      (λ (l : w ≤ v). ⊎_elim (λ (k : w < v). absurd (a.before w k (b.here (omega arith)))) (λ (k : v ≤ w). omega arith) (lt_or_le w v)) (lt_or_le v w)

  -- ---- what it lists

  pub order_placed : Placed g n (zeros n) (order g n)
  order_placed = order_induction g n (λ m l. Placed g n m l) (λ m e h. placed_end g n m) (λ m l w e lt r ih. placed_step g n m l w e lt r ih)

  pub order_member : (w : ℕ) → listed (order_marks g n) w ≡ true ↔ Has (order g n) w
  unfolding order_marks
  order_member w = (
    λ t. ⊎_elim (λ z. clash z (zeros_unlisted n w)) (λ h. h) (order_placed.has_marked w t),
    λ h. rw (← h.2) (order_placed.marked h.0 h.1),
  )

  Counted : List ℕ → List ℕ → Type 0
  Counted m l = length l + waiting g n (marks_after m l) ≡ waiting g n m

  -- "the row count, which is the number of wires"
  pub order_length : AllListed g n → length (order g n) ≡ count_below g.wire n
  unfolding Counted order_marks
  order_length all =
      let c = order_induction g n Counted (λ m e h. omega arith) (λ m l w e lt r ih. let s = waiting_step g n m w e lt r in omega arith) in
      let z = waiting_is g n (order_marks g n) ∙ count_none (λ w. g.wire w && not (listed (order_marks g n) w)) n (λ w l. hidden w l (cases (g.wire w))) in
      let s = waiting_is g n (zeros n) ∙ count_ext (λ w. g.wire w && not (listed (zeros n) w)) g.wire n (λ w l. rw (zeros_unlisted n w) (and_one (g.wire w))) in
      omega arith
    where
      hidden : (w : ℕ) → w < n → (g.wire w ≡ true) ⊎ (g.wire w ≡ false) → g.wire w && not (listed (order_marks g n) w) ≡ false
      hidden w l (inl iw) = and_false_right (g.wire w) _ (rw (all w l iw))
      hidden w l (inr nw) = rw nw

      and_one : (b : Bool) → b && true ≡ b
      and_one true = refl
      and_one false = refl

  -- ---- what running it gives

  module _ (value : List ℕ → ℕ → ℕ) (local : Local g value) where
    Runs : List ℕ → List ℕ → Type 0
    Runs m l = (x : List ℕ) → n ≤ length x → Safe g m → Solved g value local m x → Solved g value local (marks_after m l) (run_order value l x)

    -- on any values
    pub run_solves : AllListed g n → (x : List ℕ) → n ≤ length x → Solves g n value (run_order value (order g n) x)
    unfolding Runs order_marks
    run_solves all x lx w l iw =
        order_induction g n Runs (λ m e h x lx s sol. sol)
        (λ m l w e lt r ih x lx s sol.
        ih (set x w (value x w)) (omega (arith, length-set x w (value x w))) (safe_step g m w (omega arith) r s) (solved_step g value local m x w (omega arith) r s sol))
        x lx (safe_start g n) (λ v h. clash h (zeros_unlisted n v)) w (all w l iw)

    module _ (y : List ℕ) (sol : Solves g n value y) where
      Agrees : List ℕ → List ℕ → Type 0
      Agrees m l = (x : List ℕ) → n ≤ length x → Agree m x y → Agree (marks_after m l) (run_order value l x) y

      pub run_unique : AllListed g n → (x : List ℕ) → n ≤ length x → (w : ℕ) → w < n → g.wire w ≡ true → get_or (run_order value (order g n) x) w 0 ≡ get_or y w 0
      unfolding Agrees order_marks
      run_unique all x lx w l iw =
          order_induction g n Agrees (λ m e h x lx ag. ag)
          (λ m l w e lt r ih x lx ag.
          ih (set x w (value x w)) (omega (arith, length-set x w (value x w))) (agree_step g value local m x y w (omega arith) r (sol w lt (ready_wire g m w r)) ag))
          x lx (λ v h. clash h (zeros_unlisted n v)) w (all w l iw)

    -- values that differ from the run at a wire break the equation of the wire that is given
    pub others_break : AllListed g n → (x y : List ℕ) → n ≤ length x → (w : ℕ) → w < n → g.wire w ≡ true → get_or y w 0 ≢ get_or (run_order value (order g n) x) w 0
        → (v : ℕ) × (v < n) × ((g.wire v ≡ true) × (get_or y v 0 ≢ value y v))
    others_break all x y lx w l iw ne =
        ⊎_elim (λ sol. absurd (ne (sym (run_unique y sol all x lx w l iw)))) (λ r. r)
        (all_or_one (λ v. g.wire v ≡ true → get_or y v 0 ≡ value y v) (λ v. (g.wire v ≡ true) × (get_or y v 0 ≢ value y v)) n
        (λ v lv.
        ⊎_elim (λ e. inl (λ iv. e)) (λ ne. ⊎_elim (λ iv. inr (iv, ne)) (λ nv. inl (λ iv. clash iv nv)) (cases (g.wire v))) (eq_or_ne (get_or y v 0) (value y v))))
