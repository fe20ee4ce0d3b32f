-- `check::or_all` meets its contract: none of the numbers or-ed is higher. Assumes nothing.
use Rattle.std.proofs.Common.{rules, fold, ◌≡◌, ◌∙◌, ◌+◌, ◌-◌, ℕ, ap, arith, bit_or, slice_range, get_or, drop, get_or-drop, get_or-take}
use Rattle.lists.proofs.StdLaws.{fold_bits-at}
use Rattle.netlist.proofs.check.or_all.Goals as goal

pub returns : goal.returns
returns c k a b =
    let list = c.args.list.now in
    let from = c.args.from in
    let part = slice_range list from c.args.to in
    let e : c.fold.result ≡ fold (λ b x. bit_or b x) 0 part = search rules in
    let at : get_or part (k - from) 0 ≡ get_or list k 0 =
    get_or-take (c.args.to - from) (drop from list) (k - from) 0 (omega arith) ∙ get_or-drop from list (k - from) 0
    ∙ ap (λ (j : ℕ). get_or list j 0) (let q : from + (k - from) ≡ k = omega arith in q) in
    omega (arith, e, fold_bits-at 0 part (k - from))
