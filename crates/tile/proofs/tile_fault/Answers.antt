-- `tile_fault` meets its contract: the first position at fault. Assumes nothing.
use Rattle.std.proofs.Common.{◌≡◌, true, false, rules, tests, ◌∙◌}
use Rattle.std.proofs.lemmas.Iterator.{first_from_Range}
use Rattle.lists.proofs.StdLaws.{found_or}
use Rattle.codec.specs.Bits.{tile_of}
use Rattle.codec.specs.Fault.{fault_at}
use Rattle.tile.proofs.tile_fault.Goals as goal

pub returns : goal.returns
returns c =
    let p = fault_at c.args.table.now (tile_of c.args.bits.now) in
    c.unwrap_or.ensures
    ∙ found_or p 864 c.find.result
    (first_from_Range _ _ _ c.find.result (λ k. p k ≡ true) (λ k. p k ≡ false) c.find.ensures.ran (λ x q k. search (rules, tests)) (λ x q k. search (rules, tests)))
