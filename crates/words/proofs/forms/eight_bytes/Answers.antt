-- `eight_bytes` meets its contract. Invariant: the first j bytes are a number_from of 8j bits (`eight_turn`). Assumes nothing.
use Rattle.std.proofs.Common.{rules, ◌≡◌, ◌+◌, get_or}
use Rattle.words.proofs.ConvertLaws.{eight_turn, eight_fits}
use Rattle.digits.specs.Digits.{from_digits}
use native.Mathlib.Omega.{arith}
use mathlib.Core.Path.{refl}
use Rattle.words.proofs.forms.eight_bytes.Goals as goal

pub loop-j-init : goal.loop-j-init
unfolding from_digits
loop-j-init c = refl

pub overflow_add-eight : goal.overflow_add-eight
overflow_add-eight c =
    let byte : c.from.result ≡ get_or c.args.bytes.now (c.args.at + c.loop-j.j) 0 = search rules in
    record { fits = eight_fits c.args.bytes.now c.args.at c.loop-j.j c.loop-j.eight c.from.result c.loop-j.invariant byte (omega arith) (omega arith) }

pub loop-j-preserved : goal.loop-j-preserved
loop-j-preserved c =
    let byte : c.from.result ≡ get_or c.args.bytes.now (c.args.at + c.loop-j.j) 0 = search rules in
    eight_turn c.args.bytes.now c.args.at c.loop-j.j c.loop-j.eight c.from.result c.loop-j.invariant byte (omega arith) (omega arith)
