-- `leaving::mark_side` meets its contract. Invariant: the ports of the spans before it are marked. Assumes nothing.
use mathlib.Core.Path.{◌≡◌}
use lib.ListN.{take}
use Rattle.std.specs.Prelude.{fold}
use Rattle.card.specs.Marks.{mark_ports}
use Rattle.card.proofs.leaving.mark_side.Given as goal

abbrev pub invariant-loop-from : goal.invariant-loop-from
invariant-loop-from l = l.marks ≡ fold (λ m s. mark_ports l.b l.tile s.0 s.1 m) l.initial.marks (take l.from-index l.spans)
