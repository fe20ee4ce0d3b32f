-- `row` meets its contract: what its parts need is in `RowSpan`. Assumes nothing.
use Rattle.wiring.proofs.FillLaws.{wired_at}
use native.Mathlib.Omega.{arith}
use Rattle.wiring.proofs.spans.row.Goals as goal

pub far_side-requires : goal.far_side-requires
far_side-requires c =
    let a = c.args in
    let given = c.requires in (
      given.0,
      given.1.far_side a.x a.y given.2 given.3,
      wired_at _ _ _ c.copy.ensures (omega (arith, (given.1.far_side a.x a.y given.2 given.3).beside)),
    )

pub from_rim-requires : goal.from_rim-requires
from_rim-requires c =
    let a = c.args in
    let given = c.requires in (
      given.0,
      given.1.from_rim a.x a.y c.if-x-gt0.false given.2 given.3,
      given.1.far_side a.x a.y given.2 given.3,
      given.4,
    )
