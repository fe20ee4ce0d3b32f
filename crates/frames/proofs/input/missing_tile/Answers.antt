-- `input::missing_tile` meets its contract: std's word for the first that is found, as ours. Assumes nothing.
use Rattle.std.proofs.Common.{◌≡◌, ℕ, ◌+◌, ◌*◌, Bool, not, true, false, rules, tests}
use Rattle.std.proofs.lemmas.Iterator.{first_from_Range}
use Rattle.lists.proofs.StdLaws.{found_below}
use Rattle.frames.specs.Lines.{tile_line}
use Rattle.frames.proofs.input.missing_tile.Goals as goal

pub returns : goal.returns
returns c =
    let p : ℕ → Bool = λ t. not (tile_line c.args.s.now (c.args.at + 219 * t)) in
    found_below p c.args.n c.find.result
    (first_from_Range _ _ _ c.find.result (λ t. p t ≡ true) (λ t. p t ≡ false) c.find.ensures.ran (λ x q k. search (rules, tests)) (λ x q k. search (rules, tests)))
