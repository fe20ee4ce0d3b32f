-- `groups::entry_ok` is `entry_ok`: its pattern is zero, does not fit, is an earlier entry's, or its source decides. Assumes nothing.
use mathlib.Core.Logic.{◌≢◌}
use mathlib.Core.Path.{◌≡◌, refl, sym, ap, subst, ◌∙◌}
use Prim.Native.Nat.{ℕ, ◌+◌, ◌^◌, ◌<◌}
use native.Mathlib.Omega.{arith}
use lib.ListN.{get_or, set}
use Rattle.lists.proofs.CaseLaws.{clash}
use Rattle.routing.specs.LogicTile.{logic_tile, is_source}
use Rattle.routing.specs.Marks.{Marked}
use Rattle.routing.specs.Table.{width_of, pattern_at}
use Rattle.routing.proofs.MarkLaws.{pattern_lt, mark_again, mark_new, mark_more}
use Rattle.routing.proofs.EntryLaws.{one_shifted, entry_zero, entry_wide, entry_again, entry_new}
use Rattle.routing.proofs.groups.entry_ok.Goals as goal
use Rattle.routing.proofs.groups.entry_ok.Goals.{then-v-eq0-via-then-v-eq0, then-v-eq0-via-else-v-eq0+then-top-v, then-v-eq0-via-else-v-eq0+else-top-v+then-seen-i}

pub returns-then-v-eq0 : goal.returns-then-v-eq0
returns-then-v-eq0 c =
    let top = one_shifted c.width.result (omega arith) in
    let pow = ap (λ (x : ℕ). 2 ^ x) c.width.ensures in
    let pattern = c.pattern-v.ensures in
    let at = c.from-i.ensures ∙ pattern in
    record {
      answer = elim c.then-v-eq0.branch [
        | then-v-eq0-via-then-v-eq0 w ↦ entry_zero logic_tile c.args.table.now c.args.g c.args.e (sym pattern ∙ w.if-v-eq0.true)
        | then-v-eq0-via-else-v-eq0+then-top-v w ↦ entry_wide logic_tile c.args.table.now c.args.g c.args.e (λ z. w.if-v-eq0.false (pattern ∙ z)) (omega arith)
        | then-v-eq0-via-else-v-eq0+else-top-v+then-seen-i w ↦
            let fits : pattern_at logic_tile c.args.table.now c.args.g c.args.e < 2 ^ width_of logic_tile c.args.table.now c.args.g = omega arith in
            entry_again logic_tile c.args.table.now c.args.g c.args.e (λ z. w.if-v-eq0.false (pattern ∙ z)) fits
            (mark_again logic_tile c.args.table.now c.args.g c.args.e c.args.seen.now c.requires.5 (pattern_lt c.requires.3 fits)
            (subst (λ (x : ℕ). get_or c.args.seen.now x 0 ≡ c.args.g + 1) at w.if-seen-i.true))
      ];
      seen = λ z. clash z refl;
    }

-- its source decides
pub returns : goal.returns
returns c =
    let top = one_shifted c.width.result (omega arith) in
    let pow = ap (λ (x : ℕ). 2 ^ x) c.width.ensures in
    let pattern = c.pattern-v.ensures in
    let at = c.from-i.ensures ∙ pattern in
    let fits : pattern_at logic_tile c.args.table.now c.args.g c.args.e < 2 ^ width_of logic_tile
    c.args.table.now c.args.g = omega arith in
    let few : pattern_at logic_tile c.args.table.now c.args.g c.args.e < 256 = pattern_lt c.requires.3 fits in
    record {
      answer = c.is_source.ensures ∙ ap is_source c.source.ensures ∙ entry_new logic_tile c.args.table.now c.args.g
          c.args.e (λ z. c.if-v-eq0.false (pattern ∙ z)) fits
          (mark_new logic_tile c.args.table.now c.args.g c.args.e c.args.seen.now c.requires.5 few
          c.requires.2 (subst (λ (x : ℕ). get_or c.args.seen.now x 0 ≢ c.args.g + 1) at
          c.if-seen-i.false));
      seen = λ z. subst (λ (x : ℕ). Marked logic_tile c.args.table.now c.args.g (c.args.e + 1)
          (set c.args.seen.now x (c.args.g + 1))) (sym at)
          (mark_more logic_tile c.args.table.now c.args.g c.args.e c.args.seen.now c.requires.5 few);
    }
