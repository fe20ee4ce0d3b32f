-- `blocks::compare_bits` meets its contract: the table keeps the rules, both blocks decode, and the settings that they read to are compared. Assumes
-- nothing.
use Rattle.refusal.specs.Grounds.{answer_number}
use mathlib.Core.Path.{refl, sym, ap₂, ◌∙◌}
use mathlib.Core.List.{List}
use Prim.Native.Nat.{ℕ, ◌*◌}
use native.Mathlib.Omega.{arith}
use lib.ListN.{length}
use Rattle.refusal.specs.Memory.{output}
use Rattle.ports.specs.Block.{tile_count}
use Rattle.ports.proofs.BlockLaws.{tile_count_le}
use Rattle.routing.specs.LogicTile.{logic_tile}
use Rattle.routing.proofs.TableCheckLaws.{table_exact}
use Rattle.routing.proofs.PartSearch.{broken_some, broken_none}
use Rattle.lists.proofs.BelowLaws.{below_some, below_none}
use borrow.Author.Rules.{rules}
use Rattle.config.specs.Blocks.{fault_place, tiles_of}
use Rattle.compare.specs.Entry.{rows_answer, rows_list}
use Rattle.compare.proofs.EntryLaws.{bits_table, bits_first, bits_second, bits_rows}
use Rattle.compare.proofs.blocks.compare_bits.Goals as goal

pub overflow_cast-result : goal.overflow_cast-result
overflow_cast-result c =
    let part = broken_some logic_tile c.args.table.now c.in-Some.part c.in-Some.ensures.part in
    omega (arith, c.type_inv.table 68, part.1)

-- the table breaks a rule
pub returns-in-Some : goal.returns-in-Some
returns-in-Some c =
    let S = c.args.s in
    let table = c.args.table.now in
    let part = broken_some logic_tile table c.in-Some.part c.in-Some.ensures.part in
    record {
      answer = bits_table S table c.args.first.now c.args.second.now (length c.args.list.now) _ part.0 (λ e. absurd (omega (arith, part.1)));
      list = refl;
    }

pub read_block-requires : goal.read_block-requires
read_block-requires c =
    let S = c.args.s in
    let table = c.args.table.now in
    let passes = broken_none logic_tile table c.in_default.ensures.part in
    let rules = (table_exact logic_tile table c.requires.compare_long.table_long).0 passes in (
      tile_count_le S c.requires.allowed,
      rules,
      c.check_table.ensures.map passes,
      c.requires.compare_long.first_long,
      c.requires.compare_long.before_long,
    )

-- a tile of the first block cannot be decoded
pub returns-in-Some-read_block : goal.returns-in-Some-read_block
returns-in-Some-read_block c =
    let S = c.args.s in
    let table = c.args.table.now in
    let first = c.args.first.now in
    let passes = broken_none logic_tile table c.in_default.ensures.part in
    let found = below_some (864 * tile_count S) (fault_place table (tiles_of first) (tile_count S)) c.in-Some-read_block.place (sym c.in-Some-read_block.ensures.place) in
    record { answer = bits_first S table first c.args.second.now (length c.args.list.now) passes _ found.0 (omega (arith, found.0, found.1)); list = refl }

pub read_block-requires-2 : goal.read_block-requires-2
read_block-requires-2 c =
    let S = c.args.s in
    let table = c.args.table.now in
    let passes = broken_none logic_tile table c.in_default.ensures.part in
    let rules = (table_exact logic_tile table c.requires.compare_long.table_long).0 passes in (
      tile_count_le S c.requires.allowed,
      rules,
      c.check_table.ensures.map passes,
      c.requires.compare_long.second_long,
      c.requires.compare_long.after_long,
    )

-- a tile of the second cannot
pub returns-in-Some-read_block-2 : goal.returns-in-Some-read_block-2
returns-in-Some-read_block-2 c =
    let S = c.args.s in
    let table = c.args.table.now in
    let first = c.args.first.now in
    let second = c.args.second.now in
    let passes = broken_none logic_tile table c.in_default.ensures.part in
    let clean = below_none (864 * tile_count S) (fault_place table (tiles_of first) (tile_count S)) (sym c.in_default-read_block.ensures.place) in
    let found = below_some (864 * tile_count S) (fault_place table (tiles_of second) (tile_count S)) c.in-Some-read_block-2.place (sym c.in-Some-read_block-2.ensures.place) in
    record { answer = bits_second S table first second (length c.args.list.now) passes clean _ found.0 (omega (arith, found.0, found.1)); list = refl }

-- the answer for the settings that were read
pub returns : goal.returns
returns c =
    let S = c.args.s in
    let table = c.args.table.now in
    let first = c.args.first.now in
    let second = c.args.second.now in
    let list = length c.args.list.now in
    let passes = broken_none logic_tile table c.in_default.ensures.part in
    let clean = below_none (864 * tile_count S) (fault_place table (tiles_of first) (tile_count S)) (sym c.in_default-read_block.ensures.place) in
    let clean' = below_none (864 * tile_count S) (fault_place table (tiles_of second) (tile_count S)) (sym c.in_default-read_block-2.ensures.place) in
    let old = c.read_block.ensures.settings (search rules) in
    let new = c.read_block-2.ensures.settings (search rules) in
    let r = c.list_settings.result in
    record {
      answer = c.list_settings.ensures.answer ∙ ap₂ (λ (x y : List ℕ). rows_answer x y (tile_count S) list) old new
          ∙ bits_rows S table first second list passes clean clean';
      list = c.list_settings.ensures.list
          ∙ ap₂ (λ (x y : List ℕ). output (answer_number r) c.args.list.now (rows_list x y (tile_count S) list)) old new;
    }
