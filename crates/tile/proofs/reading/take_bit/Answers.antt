-- `take_bit` meets its contract: one way for each kind of owner (TakingLaws). Assumes nothing.
use mathlib.Core.Path.{refl, sym, ◌∙◌}
use Prim.Native.Nat.{◌-◌, ◌/◌, ◌%◌}
use native.Mathlib.Omega.{arith}
use borrow.Author.Tests.{eqb-true, eqb-false, not-true, not-false}
use lib.ListN.{get_or}
use Rattle.lists.proofs.CaseLaws.{clash}
use Rattle.digits.proofs.WriteLaws.{raise_is}
use Rattle.routing.specs.LogicTile.{logic_tile}
use Rattle.ports.specs.Lengths.{max_positions}
use Rattle.codec.specs.Settings.{group_setting}
use Rattle.codec.proofs.FaultLaws.{group_code}
use Rattle.tile.proofs.TakingLaws.{taken_cell, taken_single, taken_group, refused_stray}
use Rattle.tile.proofs.reading.take_bit.Goals as goal

-- nothing claims it, or a cell does
pub returns-then-code-lt-FIELD_CODES : goal.returns-then-code-lt-FIELD_CODES
returns-then-code-lt-FIELD_CODES c =
    let args = c.args in
    let pre = c.requires in
    let code = c.from-code.ensures in
    record {
      yes = λ z. (let some = eqb-false _ 0 (not-true _ z) in taken_cell args.table.now args.bits.now args.settings.now args.p args.own.now pre.1 pre.3 pre.5
          (λ e. some (code ∙ e)) (omega arith));
      no = λ z. (let none = eqb-true _ 0 (not-false _ z) in refused_stray args.table.now args.bits.now args.settings.now args.p args.own.now pre.1 pre.3 pre.5 pre.0 pre.4
          (sym code ∙ none));
    }

-- a field or a passive bit
pub returns-then-code-lt-GROUP_CODES : goal.returns-then-code-lt-GROUP_CODES
returns-then-code-lt-GROUP_CODES c =
    let args = c.args in
    let pre = c.requires in
    record {
      yes = λ z. rw c.from-code.ensures (taken_single args.table.now args.bits.now args.settings.now args.p args.own.now pre.1 pre.3 pre.5
          (omega arith) (omega arith) pre.4);
      no = λ z. clash refl z;
    }

-- a group's bit
pub returns-else-code-lt-GROUP_CODES : goal.returns-else-code-lt-GROUP_CODES
returns-else-code-lt-GROUP_CODES c =
    let args = c.args in
    let pre = c.requires in
    let n = get_or args.own.now args.p 0 - group_code in
    record {
      yes = λ z. rw c.from-code.ensures (taken_group args.table.now args.bits.now args.settings.now args.p args.own.now pre.1 pre.3 pre.5
          (omega arith) pre.4 _ (raise_is 16 (group_setting logic_tile args.settings.now (n / max_positions)) (n % max_positions) (omega arith)));
      no = λ z. clash refl z;
    }
