-- `listing::put_wires` meets its contract. Invariant: the marked wires before w are stored (`StoredRows`). Assumes nothing.
use Rattle.card.specs.Card.{wire_row}
use Rattle.netlist.specs.Marks.{listed}
use Rattle.lists.proofs.Storing.{StoredRows}
use Rattle.card.proofs.listing.put_wires.Given as goal

abbrev pub invariant-loop-w : goal.invariant-loop-w
invariant-loop-w l = StoredRows (listed l.marks) wire_row 1 l.from l.initial.card l.w l.at l.card
