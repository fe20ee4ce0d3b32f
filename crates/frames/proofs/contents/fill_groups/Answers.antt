-- `contents::fill_groups` meets its contract. Invariant: `Filling`. Assumes nothing.
use Rattle.frames.proofs.FillLaws.{Filling, filling_start, filling_at_le, filling_group, filling_rest}
use Rattle.frames.proofs.BoundLaws.{group_digits_le, group_count_le}
use Rattle.lists.proofs.PartLaws.{part_code_length}
use native.Mathlib.Omega.{arith}
use mathlib.Core.Path.{subst}
use Rattle.frames.proofs.contents.fill_groups.Goals as goal

pub loop-g-init : goal.loop-g-init
loop-g-init c = rw c.passive_count.ensures (filling_start _ _ c.requires.1)

pub fill_group-requires : goal.fill_group-requires
fill_group-requires c =
    let few = group_count_le c.args.s.now in
    (omega (arith, filling_at_le _ _ _ _ c.loop-g.invariant (omega arith)), part_code_length 75 c.loop-g.g 512 c.loop-g.rest c.loop-g.invariant.long (omega arith))

pub group_digits-requires : goal.group_digits-requires
group_digits-requires c = omega (arith, filling_at_le _ _ _ _ c.loop-g.invariant (omega arith))

pub overflow_add-at-in-loop-g-2 : goal.overflow_add-at-in-loop-g-2
overflow_add-at-in-loop-g-2 c =
    omega (arith, filling_at_le _ _ _ _ c.loop-g.invariant (omega arith), group_digits_le c.args.s.now c.loop-g.at)

pub loop-g-preserved : goal.loop-g-preserved
loop-g-preserved c =
    let taken = c.loop-g-test.true in
    rw c.group_digits.ensures (filling_group _ _ _ _ c.loop-g.invariant _ (omega arith) c.fill_group.ensures)

pub returns : goal.returns
returns c =
    let few = group_count_le c.args.s.now in
    let inv : Filling c.args.s.now c.loop-g.at c.args.count c.loop-g.rest = subst (λ g. Filling c.args.s.now c.loop-g.at g c.loop-g.rest) (omega arith) c.loop-g.invariant in
    filling_rest _ _ _ _ inv _ c.requires.0 (c.fill.ensures.after (λ y e. e))
