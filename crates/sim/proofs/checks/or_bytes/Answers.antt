-- `checks::or_bytes` meets its contract: no byte is higher than the bytes or-ed. Assumes nothing.
use lib.Bits.{bit_or}
use Rattle.std.proofs.Common.{rules, tests}
use Rattle.std.proofs.lemmas.Iterator.{YieldsList-from_slice}
use Rattle.std.proofs.lemmas.Iterator.Consumers.{fold_from_yields_List}
use Rattle.lists.proofs.StdLaws.{fold_bits-at}
use Rattle.sim.proofs.checks.or_bytes.Goals as goal

pub returns : goal.returns
returns c = λ k l.
    let bytes = c.args.bytes.now in
    let or = fold_from_yields_List _ (λ any byte. bit_or any byte) 0 _ c.fold.ensures.ran (YieldsList-from_slice bytes (cc)) (λ a x b q k. search (rules, tests)) in
    rw or (fold_bits-at 0 bytes k)
