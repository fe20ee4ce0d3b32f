-- `span::walk` meets its contract: a turn is a step of the walk, by what `before` finds. Assumes nothing.
use mathlib.Core.Path.{refl, ◌∙◌}
use native.Mathlib.Omega.{arith}
use Rattle.fabric.proofs.WalkLaws.{walk_none, walk_some, walk_end}
use Rattle.fabric.proofs.span.walk.Goals as goal

pub loop-at-init : goal.loop-at-init
loop-at-init g c = (c.requires.name, λ on next h. refl)

pub returns-in_default-clause-walked : goal.returns-in_default-clause-walked
returns-in_default-clause-walked g c = λ on next h.
    walk_none on next _ _ (h _ _ c.loop-at.invariant.0 c.in_default.ensures) ∙ c.loop-at.invariant.1 on next h

pub loop-at-preserved : goal.loop-at-preserved
loop-at-preserved g c = (
  c.requires.stays _ _ c.loop-at.invariant.0 c.in-Some.ensures,
  λ on next h. walk_some on next _ _ _ (omega arith) (h _ _ c.loop-at.invariant.0 c.in-Some.ensures) ∙ c.loop-at.invariant.1 on next h,
)

pub returns-clause-walked : goal.returns-clause-walked
returns-clause-walked g c = λ on next h. walk_end on next _ _ (omega arith) ∙ c.loop-at.invariant.1 on next h
