-- `ranges::number` meets its contract: each number is that of a wire, so it fits. Assumes nothing.
use Prim.Native.Nat.{◌+◌, ◌<◌}
use Rattle.std.proofs.Common.{rules}
use Rattle.wiring.proofs.FillLaws.{number_fits}
use Rattle.wiring.proofs.ranges.number.Goals as goal

pub fill-requires-clause-callable : goal.fill-requires-clause-callable
fill-requires-clause-callable c = λ done k e l.
    let f : c.args.first + k < 65536 = number_fits c.args.b c.args.first c.args.x c.args.y c.args.q c.args.count k c.requires.0 c.requires.1 l in
    search rules
