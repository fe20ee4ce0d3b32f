-- `settings_fit` meets its contract: no carry pair, and no setting above its limit. Assumes nothing.
use Rattle.std.proofs.Common.{rules, tests, ℕ, true, not, ap, arith, ◌&&◌, leb, sym, ◌∙◌}
use Rattle.std.proofs.lemmas.Iterator.{YieldsList-from_slice, YieldsList-from_zip}
use Rattle.std.proofs.lemmas.Iterator.Consumers.{fold_from_yields_List}
use Rattle.std.specs.List.{zip}
use Rattle.lists.proofs.StdLaws.{fold_and-is, list_all_zip-is}
use Rattle.ports.specs.Lengths.{settings_length}
use Rattle.codec.proofs.LimitLaws.{within_carry_pair, within_all}
use Rattle.tile.proofs.settings_fit.Goals as goal

pub returns-then-not-has_both_carries : goal.returns-then-not-has_both_carries
returns-then-not-has_both_carries c =
    fold_from_yields_List _ (λ a (x : ℕ × ℕ). a && leb x.0 x.1) true c.fold.result c.fold.ensures.ran
    (YieldsList-from_zip (YieldsList-from_slice c.args.settings.now cc) (YieldsList-from_slice c.args.limits.now cc))
    (λ a x b q k. search (rules, tests))
    ∙ fold_and-is (λ (x : ℕ × ℕ). leb x.0 x.1) true (zip c.args.settings.now c.args.limits.now)
    ∙ list_all_zip-is (λ (x : ℕ × ℕ). leb x.0 x.1) 0 0 c.args.settings.now c.args.limits.now settings_length c.requires (omega arith)
    ∙ within_all c.args.limits.now c.args.settings.now (sym c.has_both_carries.ensures ∙ c.if-not-has_both_carries.true)

-- the carry pair
pub returns-else-not-has_both_carries : goal.returns-else-not-has_both_carries
returns-else-not-has_both_carries c =
    let pair = c.if-not-has_both_carries.false in
    ap not pair ∙ within_carry_pair c.args.limits.now c.args.settings.now (sym c.has_both_carries.ensures ∙ pair)
