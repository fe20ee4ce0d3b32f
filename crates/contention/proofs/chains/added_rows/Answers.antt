-- `chains::added_rows` meets its contract: a first switch, a second one, and any other. Assumes nothing.
use Rattle.contention.proofs.Tallying.{added_none, added_two, added_more}
use native.Mathlib.Omega.{arith}
use Rattle.contention.proofs.chains.added_rows.Goals as goal

pub returns-in-0 : goal.returns-in-0
returns-in-0 c = added_none _ c.in-0.is

pub returns-in-1 : goal.returns-in-1
returns-in-1 c = added_two _ c.in-1.is

pub returns-in_default : goal.returns-in_default
returns-in_default c = added_more _ (omega arith)
