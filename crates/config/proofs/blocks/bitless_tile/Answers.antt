-- `config::blocks::bitless_tile` meets its contract. Invariant: the search from t on finds what the search from 0 finds. Assumes nothing.
use mathlib.Core.Path.{sym, ap, ◌∙◌}
use mathlib.Core.Bool.{not}
use Prim.Native.Nat.{ℕ, ◌*◌}
use native.Mathlib.Omega.{arith}
use lib.ListN.{take, drop}
use Rattle.lists.proofs.SearchLaws.{first_turn_hit, first_turn_skip, first_turn_end}
use Rattle.lists.proofs.PartLaws.{part_size}
use Rattle.ports.specs.Lengths.{settings_length}
use Rattle.codec.specs.Limits.{settings_fit}
use Rattle.codec.proofs.LimitLaws.{within_fits}
use Rattle.config.specs.Blocks.{bitless_at, bitless_tile}
use Rattle.lists.proofs.BelowLaws.{below_is, below_past}
use Rattle.std.specs.Prelude.{Some}
use Rattle.config.proofs.blocks.bitless_tile.Goals as goal

-- tile t is the lowest
pub returns-then-not-settings_fit : goal.returns-then-not-settings_fit
unfolding bitless_at
returns-then-not-settings_fit c =
    let fit = (c.settings_fit.ensures ∙ within_fits c.args.table.now _ _ c.limits-limits.ensures ∙ ap
    (λ (x : ℕ). settings_fit c.args.table.now (take x (drop (settings_length * c.loop-t.t) c.args.settings.now)))
    (part_size settings_length c.loop-t.t)) in
    let found = first_turn_hit _ _ _ _ c.loop-t.invariant.1 (omega arith) (ap not (sym fit ∙ c.if-not-settings_fit.true)) in
    ap Some found ∙ sym (below_is c.args.n (bitless_tile c.args.table.now c.args.settings.now c.args.n) (omega (arith, found)))

pub loop-t-preserved : goal.loop-t-preserved
unfolding bitless_at
loop-t-preserved c =
    let fit = (c.settings_fit.ensures ∙ within_fits c.args.table.now _ _ c.limits-limits.ensures ∙ ap
    (λ (x : ℕ). settings_fit c.args.table.now (take x (drop (settings_length * c.loop-t.t) c.args.settings.now)))
    (part_size settings_length c.loop-t.t)) in
    (omega arith, first_turn_skip _ _ _ _ c.loop-t.invariant.1 (omega arith) (ap not (sym fit ∙ c.if-not-settings_fit.false)))

-- there is none
pub returns : goal.returns
returns c =
    let none = first_turn_end _ _ _ _ c.loop-t.invariant.1 (omega arith) in
    sym (below_past c.args.n (bitless_tile c.args.table.now c.args.settings.now c.args.n) (omega (arith, none)))
