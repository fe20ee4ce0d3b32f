-- `writing::row_digits` meets its contract: std's array of what a closure gives, as a table. Assumes nothing.
use Rattle.std.proofs.Common.{rules, ◌+◌}
use Rattle.digits.specs.Digits.{digit}
use Rattle.lists.proofs.StdLaws.{from_fn-is}
use Rattle.asc.proofs.writing.row_digits.Goals as goal

pub returns : goal.returns
returns c = from_fn-is (λ k. 48 + digit c.args.word k) 0 54 _ (λ i y q l k. search rules) _ c.from_fn.ensures.items
