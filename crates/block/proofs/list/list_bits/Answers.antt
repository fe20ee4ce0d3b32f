-- `list::list_bits` meets its contract: the table keeps the rules, the bits decode, and the settings that they read to are routed. Assumes nothing.
use Rattle.refusal.specs.Grounds.{answer_number}
use Rattle.block.proofs.BuildingLaws.{bits_table, bits_undecodable, bits_list}
use Rattle.block.proofs.RoutedLaws.{routed_of_read}
use Rattle.block.specs.Building.{list_answer}
use Rattle.equations.specs.Settling.{block_list}
use Rattle.equations.specs.Routed.{Routed}
use Rattle.routing.proofs.TableCheckLaws.{table_exact}
use Rattle.routing.proofs.PartSearch.{broken_some, broken_none}
use Rattle.lists.proofs.BelowLaws.{below_some, below_none}
use borrow.Author.Rules.{rules}
use Rattle.routing.specs.LogicTile.{logic_tile}
use Rattle.config.specs.Blocks.{fault_place, tiles_of}
use Rattle.ports.proofs.BlockLaws.{tiles_le}
use Rattle.ports.specs.Block.{tiles}
use Rattle.refusal.specs.Memory.{output}
use native.Mathlib.Omega.{arith}
use mathlib.Core.List.{List}
use mathlib.Core.Path.{refl, sym, ap, ◌∙◌, subst}
use Prim.Native.Nat.{ℕ, ◌*◌}
use Rattle.block.proofs.list.list_bits.Goals as goal

pub overflow_cast-result : goal.overflow_cast-result
overflow_cast-result c =
    let table = c.args.table.now in
    let part = broken_some logic_tile table c.in-Some.part c.in-Some.ensures.part in
    omega (arith, c.type_inv.table 68, part.1)

-- the table breaks a rule
pub returns-in-Some : goal.returns-in-Some
returns-in-Some c =
    let B = c.args.b in
    let table = c.args.table.now in
    let part = broken_some logic_tile table c.in-Some.part c.in-Some.ensures.part in
    record { answer = bits_table B table c.args.bits.now _ part.0 (λ e. absurd (omega (arith, part.1))); list = refl }

pub read_block-requires : goal.read_block-requires
read_block-requires c =
    let table = c.args.table.now in
    let B = c.args.b in
    let passes = broken_none logic_tile table c.in_default.ensures.part in
    let rules = (table_exact logic_tile table c.requires.build_long.table_long).0 passes in
    let few = tiles_le B c.requires.sized in
    (few, rules, c.check_table.ensures.map passes, c.requires.build_long.bits_long, c.requires.build_long.settings_long)

-- a tile cannot be decoded
pub returns-in-Some-read_block : goal.returns-in-Some-read_block
returns-in-Some-read_block c =
    let table = c.args.table.now in
    let B = c.args.b in
    let bits = c.args.bits.now in
    let passes = broken_none logic_tile table c.in_default.ensures.part in
    let found = below_some (864 * tiles B) (fault_place table (tiles_of bits) (tiles B)) c.in-Some-read_block.place (sym c.in-Some-read_block.ensures.place) in
    record { answer = bits_undecodable B table bits passes _ found.0 (omega (arith, found.0, found.1)); list = refl }

pub list_settings-requires : goal.list_settings-requires
list_settings-requires c =
    let table = c.args.table.now in
    let B = c.args.b in
    let bits = c.args.bits.now in
    let passes = broken_none logic_tile table c.in_default.ensures.part in
    let rules = (table_exact logic_tile table c.requires.build_long.table_long).0 passes in
    let pass = below_none (864 * tiles B) (fault_place table (tiles_of bits) (tiles B)) (sym c.in_default-read_block.ensures.place) in
    let read = c.read_block.ensures.settings (search rules) in
    record { routed = subst (λ (s : List ℕ). Routed B table s) (sym read) (routed_of_read B table bits c.requires.sized rules pass); room_long = c.requires.build_long.room_long }

-- the answer for the settings that were read
pub returns : goal.returns
returns c =
    let table = c.args.table.now in
    let B = c.args.b in
    let bits = c.args.bits.now in
    let list = c.args.list.now in
    let passes = broken_none logic_tile table c.in_default.ensures.part in
    let pass = below_none (864 * tiles B) (fault_place table (tiles_of bits) (tiles B)) (sym c.in_default-read_block.ensures.place) in
    let read = c.read_block.ensures.settings (search rules) in
    record { answer = c.list_settings.ensures.answer ∙ ap (list_answer B table) read ∙ bits_list B table bits passes pass; list = c.list_settings.ensures.list ∙ ap (λ (s : List ℕ). output (answer_number c.list_settings.result) list (block_list B table s)) read }
