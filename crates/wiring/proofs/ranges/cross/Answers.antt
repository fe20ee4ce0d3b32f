-- `ranges::cross` meets its contract: crossed, a number below an even count stays below it, and what stands there is read. Assumes nothing.
use Prim.Native.Nat.{◌<◌, ◌+◌}
use mathlib.Core.Path.{◌≡◌}
use lib.ListN.{get_or}
use Rattle.ports.specs.Block.{port}
use Rattle.fabric.specs.Wire.{wire_of}
use Rattle.std.proofs.Common.{rules}
use Rattle.fabric.specs.Span.{flip}
use Rattle.fabric.proofs.FlipLaws.{flip_lt}
use Rattle.wiring.proofs.FillLaws.{cross_read}
use Rattle.wiring.proofs.ranges.cross.Goals as goal

pub fill-requires-clause-callable : goal.fill-requires-clause-callable
fill-requires-clause-callable c = λ done k e l.
    let f : flip k < c.args.count = flip_lt c.args.count c.requires.1.even l in
    search rules

pub fill-requires-clause-finds : goal.fill-requires-clause-finds
fill-requires-clause-finds c = λ done k w e l.
    let f : get_or done.now (port c.args.b c.args.u c.args.v c.args.p + flip k) 0 ≡ wire_of c.args.b (port c.args.b c.args.x c.args.y (c.args.q + k)) =
    rw e (cross_read c.requires.1 c.requires.2 k l) in
    search rules
