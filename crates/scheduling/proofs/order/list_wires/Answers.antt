-- `order::list_wires` meets its contract. Invariant: what is written and what is still to be listed is the order, and every wire is due or idle
-- (`Going`). Measure: the wires that could still be listed. Assumes nothing.
use Rattle.scheduling.proofs.Listing.{Going, going_start, going_within, going_asleep, going_step, going_end}
use Rattle.scheduling.specs.Due.{Found}
use Rattle.netlist.specs.Rows.{graph_of}
use lib.ListN.{length}
use native.Mathlib.Omega.{arith}
use mathlib.Core.Path.{◌≡◌, sym, subst}
use mathlib.Core.Logic.{◌≢◌}
use Prim.Native.Nat.{ℕ, ◌<◌}
use mathlib.Core.List.{List}
use Rattle.scheduling.proofs.order.list_wires.Goals.{In-Some}
use Rattle.scheduling.proofs.order.list_wires.Goals as goal

-- what the search gave, over the number of wires
found : (c : In-Some)
    → (c.in-Some.w < length c.args.marks.now)
    × Found (graph_of c.args.rows.now) (length c.args.marks.now) c.loop-w.marks c.next_ready.new.marks c.next_ready.new.links c.next_ready.new.due c.in-Some.w
found c = rw c.loop-w.invariant.resting.watched.long at c.in-Some.ensures

-- the search did not end
not_end : (c : In-Some) → c.in-Some.w ≢ length c.args.marks.now
not_end c q = let l = (found c).0 in absurd (omega arith)

-- the wire is one of the block, and there is room for it
within : (c : In-Some)
    → (length c.next_ready.new.marks ≡ length c.args.marks.now)
    × ((c.loop-w.count < length c.args.marks.now) × (length c.loop-w.out ≡ length c.args.out.now))
within c = (going_within _ _ _ _ _ _ _ _ c.loop-w.invariant _ _ _ _ (found c).1 (not_end c)).1

pub loop-w-init : goal.loop-w-init
loop-w-init c =
    subst (λ (t : List ℕ). Going (graph_of c.args.rows.now) (length c.args.marks.now) c.args.out.now t c.args.links.now (record { woken = c.new.result; from = 0 })
    c.args.out.now 0) (sym (c.fill.ensures.after (λ y e. e)))
    (going_start _ _ _ _ _ c.requires.links_len.0 c.new.ensures)

pub wake-requires : goal.wake-requires
wake-requires c =
    let at = (goal.at.wake-requires c).In-Some in
    going_asleep _ _ _ _ _ _ _ _ c.loop-w.invariant _ _ _ _ (found at).1 (not_end at) c.requires.links_len.2

pub bounds-out-count : goal.bounds-out-count
bounds-out-count c = let l = within (goal.at.bounds-out-count c).In-Some in omega arith

pub loop-w-smaller : goal.loop-w-smaller
loop-w-smaller c = let l = within (goal.at.loop-w-smaller c).In-Some in omega arith

pub loop-w-preserved : goal.loop-w-preserved
loop-w-preserved c =
    let at = (goal.at.loop-w-preserved c).In-Some in
    going_step _ _ _ _ _ _ _ _ c.loop-w.invariant _ _ _ _ (found at).1 (not_end at) c.requires.links_len.1 _ c.wake.ensures

pub returns : goal.returns
returns c =
    let f = rw c.loop-w.invariant.resting.watched.long at c.in_default.ensures in
    let all_clauses = going_end _ _ _ _ _ _ _ _ c.loop-w.invariant _ _ _ _ f c.requires.links_len.1 (omega arith) in
    record { count = all_clauses.0; out = all_clauses.1.0; marks = all_clauses.1.1 }
