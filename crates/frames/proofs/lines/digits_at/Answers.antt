-- `lines::digits_at` meets its contract: std's word for all, as ours. Assumes nothing.
use Rattle.std.proofs.Common.{rules, ℕ, ◌+◌, Bool, get_or, ◌∙◌}
use Rattle.std.proofs.lemmas.Iterator.{YieldsList-from_range}
use Rattle.std.proofs.lemmas.Iterator.Search.{all_from_yields_List}
use borrow.Author.Tests.{tests}
use Rattle.lists.proofs.StdLaws.{all_range-is}
use Rattle.texts.specs.Hex.{is_digit}
use native.Mathlib.Omega.{arith}
use Rattle.frames.proofs.lines.digits_at.Goals as goal

pub returns : goal.returns
returns c =
    let test : ℕ → Bool = λ k. is_digit (get_or c.args.s.now (c.args.at + k) 0) in
    all_from_yields_List test _ _ _ c.all.ensures.ran (YieldsList-from_range 0 c.args.n c.args.n (cc) (omega arith)) (λ x b q k. search (rules, tests)) ∙ all_range-is test 0 c.args.n
