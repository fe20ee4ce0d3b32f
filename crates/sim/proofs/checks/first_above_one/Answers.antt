-- `checks::first_above_one` meets its contract: bytes that or-ed are below 2 have none above 1, else std's search is ours. Assumes nothing.
use mathlib.Core.Path.{sym, ◌∙◌}
use native.Mathlib.Omega.{arith}
use lib.Dec.{ltb}
use lib.ListN.{length}
use Rattle.std.proofs.Common.{rules, tests}
use Rattle.std.proofs.lemmas.Iterator.{YieldsList-from_slice}
use Rattle.std.proofs.lemmas.Iterator.Search.{position_from_yields_List}
use Rattle.lists.proofs.StdLaws.{position-is}
use Rattle.lists.proofs.BelowLaws.{below_past}
use Rattle.sim.specs.Stepping.{bad_byte}
use Rattle.sim.proofs.ByteLaws.{low_bytes}
use Rattle.sim.proofs.checks.first_above_one.Goals as goal

pub returns-then-or_bytes-lt2 : goal.returns-then-or_bytes-lt2
returns-then-or_bytes-lt2 c =
    let bytes = c.args.bytes.now in
    sym (below_past (length bytes) (bad_byte bytes) (omega (arith, low_bytes bytes c.or_bytes.result c.or_bytes.ensures c.if-or_bytes-lt2.true)))

pub returns-else-or_bytes-lt2 : goal.returns-else-or_bytes-lt2
returns-else-or_bytes-lt2 c =
    let bytes = c.args.bytes.now in
    position_from_yields_List (ltb 1) _ _ _ c.position.ensures.ran (YieldsList-from_slice bytes (cc)) (λ x b q k. search (rules, tests))
    ∙ position-is (ltb 1) 0 bytes
