-- `spread::spread_values` meets its contract. Invariant: the first p ports have their wires' values, the others what the run left (`Spread`). Assumes
-- nothing.
use Rattle.moments.proofs.SpreadLaws.{Spread}
use lib.ListN.{length}
use Rattle.moments.proofs.spread.spread_values.Given as goal

abbrev pub invariant-loop-p : goal.invariant-loop-p
invariant-loop-p l = Spread l.wires l.initial.values (length l.initial.values) l.p l.values
