-- `checks::first_of_joined` meets its contract: the three searches are one over the joined bytes. Assumes nothing.
use mathlib.Core.Path.{refl, sym}
use mathlib.Core.List.{◌++◌}
use Prim.Native.Nat.{◌+◌}
use lib.ListN.{length, length-append}
use Rattle.std.proofs.Common.{rules}
use Rattle.sim.proofs.ByteLaws.{joined_found}
use Rattle.sim.proofs.checks.first_of_joined.Goals as goal

pub returns : goal.returns
returns c =
    let xs = c.args.first.now in
    let ys = c.args.second.now in
    joined_found (xs ++ ys) c.args.third.now (length xs + length ys) _ _ _ (sym (length-append xs ys))
    (joined_found xs ys (length xs) _ _ _ refl c.first_above_one.ensures c.or_else.ensures (λ p. search rules)) c.or_else-2.ensures (λ p. search rules)
