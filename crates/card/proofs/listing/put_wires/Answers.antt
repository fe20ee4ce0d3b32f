-- `listing::put_wires` meets its contract. Invariant: the marked wires before w are stored (`StoredRows`). Assumes nothing.
use borrow.Author.Rules.{rules}
use native.Mathlib.Omega.{arith}
use mathlib.Core.Path.{refl}
use lib.ListN.{length}
use Rattle.netlist.proofs.MarkLaws.{listed_true, listed_false}
use Rattle.lists.proofs.Storing.{stored_start, stored_hit, stored_skip, stored_room}
use Rattle.card.proofs.listing.put_wires.Goals as goal
use Rattle.card.proofs.listing.put_wires.Goals.{then-mark-ne0, else-mark-ne0}

pub loop-w-init : goal.loop-w-init
loop-w-init c = stored_start _ _ _ _ _

pub offset_bounds-card-at : goal.offset_bounds-card-at
offset_bounds-card-at c = let m = c.args.marks.now in
    let room = stored_room c.loop-w.invariant (λ i. refl) (length m) (omega arith) (listed_true m c.loop-w.w c.if-mark-ne0.true) (omega (arith, c.requires.1)) in
    let l = c.loop-w.invariant.long in
    search rules

pub bounds-card-at : goal.bounds-card-at
bounds-card-at c = let m = c.args.marks.now in
    let room = stored_room c.loop-w.invariant (λ i. refl) (length m) (omega arith) (listed_true m c.loop-w.w c.if-mark-ne0.true) (omega (arith, c.requires.1)) in
    omega arith

pub overflow_add-at : goal.overflow_add-at
overflow_add-at c = let m = c.args.marks.now in
    let room = stored_room c.loop-w.invariant (λ i. refl) (length m) (omega arith) (listed_true m c.loop-w.w c.if-mark-ne0.true) (omega (arith, c.requires.1)) in
    search rules

pub loop-w-preserved : goal.loop-w-preserved
loop-w-preserved c = let m = c.args.marks.now in
    elim c.if-mark-ne0.branch [ then-mark-ne0 w ↦ stored_hit c.loop-w.invariant (λ i. refl) _ _ w.card-is w.at-is (listed_true m c.loop-w.w w.if-mark-ne0.true) | else-mark-ne0 w ↦ stored_skip c.loop-w.invariant (λ i. refl) _ _ w.card-is w.at-is (listed_false m c.loop-w.w w.if-mark-ne0.false) ]
