-- `order::Due::take` meets its contract: the lowest that was woken, else the first that was never looked at, else none. Assumes nothing.
use mathlib.Core.Path.{sym}
use native.Mathlib.Nat.{add-sub_cancel}
use native.Mathlib.Omega.{arith}
use Rattle.scheduling.proofs.DueLaws.{taken_woken, taken_new, taken_none}
use Rattle.scheduling.proofs.order.Due.take.Goals as goal

-- one was woken
pub returns-in-Some : goal.returns-in-Some
returns-in-Some c =
    taken_woken _ _ _ c.requires.1 c.requires.0 _ (sym c.in-Some.ensures) _ c.remove.ensures.here c.remove.ensures.others

-- none was
pub returns-in-None : goal.returns-in-None
returns-in-None c = rw add-sub_cancel (taken_new _ _ _ c.requires.1 c.requires.0 (sym c.in-None.ensures) (λ q. absurd (let l = c.if-self-n.true in omega arith)))

-- none was, and all were looked at
pub returns-in-None-2 : goal.returns-in-None-2
returns-in-None-2 c = taken_none _ _ _ c.requires.1 c.requires.0 (sym c.in-None.ensures) c.if-self-n.false
