-- `groups::entries_ok`. Invariant: the entries from e on decide, and the patterns of those before have the mark of the group. Assumes nothing.
use Rattle.lists.specs.Search.{all_from}
use Rattle.routing.specs.TableCheck.{entry_ok}
use mathlib.Core.Path.{refl, sym, ap, ◌∙◌}
use native.Mathlib.Omega.{arith}
use Rattle.lists.proofs.CaseLaws.{clash}
use Rattle.lists.proofs.SearchLaws.{all_turn_hit, all_turn_skip, all_turn_end}
use Rattle.routing.specs.LogicTile.{logic_tile}
use Rattle.routing.proofs.MarkLaws.{mark_none}
use Rattle.routing.proofs.groups.entries_ok.Goals as goal

pub loop-e-init : goal.loop-e-init
loop-e-init c = (ap (all_from (entry_ok logic_tile c.args.table.now c.args.g) 0) (omega arith), mark_none logic_tile c.args.table.now c.args.g _ c.requires.5)

-- an entry breaks a rule
pub returns-then-not-entry_ok : goal.returns-then-not-entry_ok
returns-then-not-entry_ok c = record { answer = all_turn_hit _ _ _ _ c.loop-e.invariant.0 (omega arith) (sym c.entry_ok.ensures.answer ∙ c.if-not-entry_ok.true); seen = λ z. clash z refl }

pub loop-e-preserved : goal.loop-e-preserved
loop-e-preserved c = (
  all_turn_skip _ _ _ _ c.loop-e.invariant.0 (omega arith)
      (sym c.entry_ok.ensures.answer ∙ c.if-not-entry_ok.false),
  c.entry_ok.ensures.seen c.if-not-entry_ok.false,
)

-- every entry passes
pub returns : goal.returns
returns c = record { answer = all_turn_end _ _ _ _ c.loop-e.invariant.0 (omega arith); seen = λ z. c.loop-e.invariant.1.none_later }
