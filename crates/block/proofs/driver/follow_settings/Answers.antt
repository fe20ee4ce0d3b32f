-- `driver::follow_settings` meets its contract: the table keeps the rules, and some bits have the settings, so they are routed. Assumes nothing.
use Rattle.std.proofs.lemmas.Result.{err_from_is_err_and}
use Rattle.block.proofs.DriverLaws.{settings_are}
use Rattle.block.proofs.RoutedLaws.{routed_of_fit}
use Rattle.block.specs.Drivers.{port_answer}
use Rattle.config.proofs.SettingsLaws.{settings_no, settings_yes, settings_shows}
use Rattle.routing.proofs.TableCheckLaws.{table_exact}
use Rattle.routing.specs.LogicTile.{logic_tile}
use Rattle.ports.proofs.BlockLaws.{tiles_le}
use Rattle.ports.specs.Block.{tiles}
use Rattle.std.specs.Prelude.{Ok}
use mathlib.Core.Path.{sym, ◌∙◌}
use Rattle.block.proofs.driver.follow_settings.Goals as goal

-- grounds 3 and 9
pub returns-in_err-check_settings : goal.returns-in_err-check_settings
returns-in_err-check_settings c =
    let a = c.args in
    let later = port_answer a.b a.table.now a.st.now a.tile a.port in
    let p = err_from_is_err_and c.from_residual.result c.from_residual.ensures.1 in
    rw (p.1, p.2) (settings_no a.table.now a.st.now (tiles a.b) later _ (sym c.check_settings.ensures ∙ c.in_err-check_settings.was)
    ∙ settings_are a.b a.table.now a.st.now a.tile a.port)

pub follow_port-requires : goal.follow_port-requires
follow_port-requires c =
    let a = c.args in
    let t = a.table.now in
    let few = tiles_le a.b c.requires.sized.0 in
    let shown = settings_shows t a.st.now (tiles a.b) (Ok tt) tt (sym c.check_settings.ensures ∙ c.in_ok-check_settings.was) in
    let rules = (table_exact logic_tile t c.requires.sized.1).0 shown.0 in
    (routed_of_fit a.b t a.st.now c.requires.sized.0 rules c.requires.sized.2 shown.1, c.requires.wires_len.0, c.requires.wires_len.1, c.requires.wires_len.2)

-- the answer for settings that some bits have
pub returns : goal.returns
returns c =
    let a = c.args in
    c.follow_port.ensures
    ∙ settings_yes a.table.now a.st.now (tiles a.b) (port_answer a.b a.table.now a.st.now a.tile a.port) (sym c.check_settings.ensures ∙ c.in_ok-check_settings.was)
    ∙ settings_are a.b a.table.now a.st.now a.tile a.port
