-- `checks::check_settings` meets its contract, ground by ground: the table, then the settings. Assumes nothing.
use Rattle.std.specs.Prelude.{Ok, Err}
use Rattle.config.proofs.SettingsLaws.{settings_table, settings_bitless, settings_later}
use Rattle.routing.specs.LogicTile.{logic_tile}
use Rattle.routing.specs.TableCheck.{faulty_part, part_count}
use Rattle.routing.proofs.PartSearch.{broken_some, broken_none}
use Rattle.routing.proofs.TableCheckLaws.{table_exact}
use Rattle.refusal.specs.declared.Refusal.TheVariants.{Table}
use borrow.Author.Tests.{ne_eqb}
use native.Mathlib.Omega.{arith}
use mathlib.Core.Path.{◌≡◌, sym, ap, ◌∙◌}
use Rattle.lists.proofs.BelowLaws.{below_some, below_none}
use Rattle.config.specs.Blocks.{bitless_tile}
use Prim.Native.Nat.{ℕ}
use Rattle.config.proofs.checks.check_settings.Goals as goal

pub overflow_cast-result : goal.overflow_cast-result
overflow_cast-result c =
    let part = broken_some logic_tile c.args.table.now c.in-Some.part c.in-Some.ensures in
    omega (arith, c.type_inv.table 68, part.1)

-- a table that breaks a rule
pub returns-in-Some : goal.returns-in-Some
returns-in-Some c =
    let a = c.args in
    let t = a.table.now in
    let part = broken_some logic_tile t c.in-Some.part c.in-Some.ensures in
    ap (λ (p : ℕ). Err (Table p)) part.0
    ∙ settings_table t a.settings.now a.n (Ok tt) (ne_eqb (faulty_part logic_tile t) (part_count logic_tile t) (λ q. absurd (omega (arith, part.0, part.1, q))))

pub bitless_tile-requires : goal.bitless_tile-requires
bitless_tile-requires c =
    let t = c.args.table.now in
    (c.requires.0, (table_exact logic_tile t c.requires.1).0 (broken_none logic_tile t c.in_default.ensures), c.requires.2)

-- a tile whose settings no bits have
pub returns-in-Some-bitless_tile : goal.returns-in-Some-bitless_tile
returns-in-Some-bitless_tile c =
    let a = c.args in
    let found = below_some a.n (bitless_tile a.table.now a.settings.now a.n) c.in-Some-bitless_tile.tile (sym c.in-Some-bitless_tile.ensures) in
    settings_bitless a.table.now a.settings.now a.n (Ok tt) (broken_none logic_tile a.table.now c.in_default.ensures) _ found.0 (omega (arith, found.0, found.1))

-- neither
pub returns : goal.returns
returns c =
    let a = c.args in
    settings_later a.table.now a.settings.now a.n (Ok tt) (broken_none logic_tile a.table.now c.in_default.ensures) (below_none a.n (bitless_tile a.table.now a.settings.now a.n) (sym c.in_default-bitless_tile.ensures))
