-- `config::checks::write_checks` meets its contract: each return is one way through `write_answer`. Assumes nothing.
use mathlib.Core.Path.{sym, ap, ◌∙◌}
use Prim.Native.Nat.{ℕ, ◌+◌}
use native.Mathlib.Omega.{arith}
use borrow.Author.Tests.{eq-eqb}
use lib.ListN.{length}
use Rattle.lists.proofs.SearchLaws.{first_le}
use Rattle.ports.proofs.BlockLaws.{allowed_exact, tile_count_le}
use Rattle.routing.proofs.TableCheckLaws.{table_exact}
use Rattle.routing.specs.LogicTile.{logic_tile}
use Rattle.routing.specs.TableCheck.{breaks, faulty_part, part_count}
use Rattle.config.specs.Facts.{Checked}
use Rattle.config.proofs.EntryLaws.{lengths_exact, write_size, write_length, write_settings}
use Rattle.config.proofs.checks.write_checks.Goals as goal

-- W or H not 1 to 8
pub returns-then-not-is_allowed : goal.returns-then-not-is_allowed
returns-then-not-is_allowed c =
    let args = c.args in
    write_size args.s args.table.now args.settings.now args.bits (sym c.is_allowed.ensures ∙ c.if-not-is_allowed.true)

-- a length that is not exact
pub returns-then-not-lengths_ok : goal.returns-then-not-lengths_ok
returns-then-not-lengths_ok c =
    let args = c.args in
    let table = args.table.now in
    let size = (allowed_exact args.s).0 (sym c.is_allowed.ensures ∙ c.if-not-is_allowed.false) in
    write_length args.s table args.settings.now args.bits size (sym c.lengths_ok.ensures ∙ c.if-not-lengths_ok.true)

pub check_settings-requires : goal.check_settings-requires
check_settings-requires c =
    let args = c.args in
    let size = (allowed_exact args.s).0 (sym c.is_allowed.ensures ∙ c.if-not-is_allowed.false) in
    let lengths = (lengths_exact args.s (length args.table.now) args.bits (length args.settings.now)).0 (sym c.lengths_ok.ensures ∙ c.if-not-lengths_ok.false) in
    let few = tile_count_le args.s size in
    (few, lengths.table_long, lengths.settings_long)

-- grounds 3 and 9
pub returns : goal.returns
returns c =
    let args = c.args in
    let size = (allowed_exact args.s).0 (sym c.is_allowed.ensures ∙ c.if-not-is_allowed.false) in
    let lengths = (lengths_exact args.s (length args.table.now) args.bits (length args.settings.now)).0 (sym c.lengths_ok.ensures ∙ c.if-not-lengths_ok.false) in
    c.check_settings.ensures ∙ write_settings args.s args.table.now args.settings.now args.bits size lengths
