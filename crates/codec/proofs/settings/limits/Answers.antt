-- `limits` meets its contract: each number is that setting's largest value. Assumes nothing.
use Rattle.std.proofs.Common.{rules}
use Rattle.lists.proofs.StdLaws.{from_fn-is}
use Rattle.ports.specs.Lengths.{settings_length}
use Rattle.codec.specs.Limits.{limit_at}
use Rattle.codec.proofs.settings.limits.Goals as goal

pub returns : goal.returns
returns c = from_fn-is (limit_at c.args.table.now) 0 settings_length _ (λ i y q l k. search rules) c.from_fn.result c.from_fn.ensures.items
