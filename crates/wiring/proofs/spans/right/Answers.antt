-- `right` meets its contract: in the south row and the east column the names start their wires, unless the column outside runs on. Assumes nothing.
use Rattle.wiring.proofs.FillSpans.{right_copies, right_owns_east, right_owns_south, east_span}
use Rattle.wiring.proofs.spans.right.Goals as goal

pub own-requires : goal.own-requires
own-requires c = (c.requires.0, right_owns_south c.args.b c.args.x c.requires.1 c.args.y c.requires.2 c.if-y-lt1.true, c.requires.3)

pub outside-requires : goal.outside-requires
outside-requires c = (c.requires.0, east_span c.args.b c.args.x c.requires.1 c.args.y c.if-y-lt1.false c.requires.2 c.if-x-b.false c.if-b-eq1.true, c.requires.3)

pub own-requires-else-b-eq1 : goal.own-requires-else-b-eq1
own-requires-else-b-eq1 c = (c.requires.0, right_owns_east c.args.b c.args.x c.requires.1 c.args.y c.requires.2 c.if-x-b.false c.if-b-eq1.false, c.requires.3)

pub copy-requires : goal.copy-requires
copy-requires c = (c.requires.0, right_copies c.args.b c.args.x c.args.y c.if-x-b.true c.if-y-lt1.false c.requires.2, c.requires.3)
