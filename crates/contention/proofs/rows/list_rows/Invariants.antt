-- `rows::list_rows` meets its contract. Invariant: the rows of the wires below w stand in a cleared list.. Assumes nothing.
use Rattle.contention.proofs.WireLaws.{StoredTo}
use Rattle.contention.proofs.rows.list_rows.Given as goal

abbrev pub invariant-loop-w : goal.invariant-loop-w
invariant-loop-w l = StoredTo l.b l.table l.st l.initial.list l.w l.at l.list
