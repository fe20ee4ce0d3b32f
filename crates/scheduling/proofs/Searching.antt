-- The loop that searches the next wire: what holds each time before it takes one to be looked at (`Searching`), and what the search gives.
use mathlib.Core.Path.{◌≡◌, refl, ◌∙◌}
use mathlib.Core.Bool.{true, false}
use mathlib.Core.Logic.{◌≢◌}
use mathlib.Core.List.{List}
use Prim.Native.Nat.{ℕ, ◌+◌, ◌<◌, ◌≤◌}
use native.Mathlib.Omega.{arith}
use lib.ListN.{get_or, set}
use Rattle.netlist.specs.Graph.{Graph}
use Rattle.netlist.specs.Order.{ready, next}
use Rattle.netlist.specs.Marks.{only_listed}
use Rattle.scheduling.specs.Waiting.{Stuck, Idle, Watched}
use Rattle.scheduling.specs.Due.{is_due, is_due_with, Taken, Resting, Found}
use Rattle.scheduling.specs.declared.order.Due.{Due}
use Rattle.netlist.proofs.ReadyLaws.{ready_true, next_at, next_end}
use Rattle.netlist.proofs.MarkLaws.{only_listed_true, only_listed_false, only_listed_wait}
use Rattle.scheduling.proofs.WatchLaws.{watched_idle, watched_ext, watched_drop, watched_wait}
use Rattle.scheduling.proofs.DueLaws.{due_here, due_other}

module _ (g : Graph) (n : ℕ) (m₀ : List ℕ) where
  -- before a wire is taken: every wire is due or idle, and the marks were m₀
  pub record Searching (m links : List ℕ) (due : Due) : Type 0 where
    pub resting : Resting g n m links due
    pub kept : only_listed m ≡ only_listed m₀

  -- a wire was taken to be looked at, or none: every other is due or idle
  pub searching_take : (m links : List ℕ) (due₀ : Due) → Watched g n m links (is_due due₀) → (due : Due) (w : ℕ) → Taken n due₀ due w
      → Watched g n m links (is_due_with due w)
  searching_take m links due₀ h due w t = watched_ext g n m links (is_due due₀) h (is_due_with due w) (λ k l. t.same k)

  -- wire w was taken to be looked at, or w is n
  module _ (m links : List ℕ) (due₀ : Due) (h : Searching m links due₀) (due : Due) (w : ℕ) (t : Taken n due₀ due w) where
    watched : Watched g n m links (is_due_with due w)
    watched = searching_take m links due₀ h.resting.watched due w t

    module _ (l : w < n) where
      here : is_due_with due w w ≡ true
      here = due_here due w w refl

      gone : is_due due w ≡ false
      gone = t.lower w l (omega arith)

      others : (k : ℕ) → k < n → k ≢ w → is_due_with due w k ≡ is_due due k
      others k lk ne = due_other due w k ne

      -- the wire is idle
      pub searching_idle : Idle g n m links w → Searching m links due
      searching_idle i = record {
        resting = record { watched = watched_drop g n m links (is_due_with due w) watched (is_due due) w here gone others i; early = t.early };
        kept = h.kept;
      }

      -- the wire waits for d, where it is stuck
      pub searching_wait : (d : ℕ) → d < n → Stuck g m w d → Searching (set m d (w + 2)) (set links w (get_or m d 0)) due
      searching_wait d ld s = record {
        resting = record { watched = watched_wait g n m links (is_due_with due w) watched (is_due due) w here gone others d l ld s; early = t.early };
        kept = only_listed_wait m d (w + 2) s.new (λ q. absurd (omega arith)) ∙ h.kept;
      }

    unready : (k : ℕ) → k < n → k < w → ready g (only_listed m₀) k ≡ false
    unready k lk l =
        rw (← h.kept)
        (watched_idle g n m links (is_due_with due w) watched k lk (due_other due w k (λ q. absurd (omega arith)) ∙ t.lower k lk (omega arith)))

    found : w ≡ next g n (only_listed m₀) → Found g n m₀ m links due w
    found e = record { is_next = e; kept = h.kept; watched = watched; early = t.early }

    -- the wire is ready
    pub searching_hit : w < n → g.wire w ≡ true → get_or m w 0 ≢ 1 → ((j : ℕ) → j < g.arity w → get_or m (g.operand w j) 0 ≡ 1) → Found g n m₀ m links due w
    searching_hit l k new all =
        found
        (next_at g n (only_listed m₀) w l (λ k lk. unready k (omega arith) lk)
        (rw (← h.kept) (ready_true g (only_listed m) w k (only_listed_false m w new) (λ j lj. only_listed_true m _ (all j lj)))))

    -- none is left
    pub searching_end : n ≤ w → Found g n m₀ m links due w
    searching_end l = found (next_end g n (only_listed m₀) w t.upto l (λ k lk. let u = t.upto in unready k (omega arith) lk))
