-- `config::checks::read_checks` meets its contract: each return is one way through `read_answer`, and the last has read all tiles into the front of the
-- room. Assumes nothing.
use mathlib.Core.Path.{refl, sym, ap, ◌∙◌}
use borrow.Author.Rules.{rules}
use Rattle.lists.proofs.BelowLaws.{below_some, below_none}
use Prim.Native.Nat.{ℕ, ◌+◌, ◌*◌}
use native.Mathlib.Omega.{arith}
use borrow.Author.Tests.{eq-eqb}
use lib.ListN.{length, drop}
use lib.Seq.{take_at}
use Rattle.lists.proofs.SearchLaws.{first_le}
use Rattle.ports.proofs.BlockLaws.{allowed_exact, tile_count_le}
use Rattle.ports.specs.Block.{tile_count}
use Rattle.routing.proofs.TableCheckLaws.{table_exact}
use Rattle.routing.proofs.PartSearch.{broken_some, broken_none}
use Rattle.routing.specs.LogicTile.{logic_tile}
use Rattle.routing.specs.TableCheck.{breaks, faulty_part, part_count}
use Rattle.config.specs.Blocks.{fault_place, tiles_of}
use Rattle.config.specs.Facts.{Checked}
use Rattle.config.proofs.EntryLaws.{lengths_exact, read_size, read_length, read_table, read_undecodable, read_done}
use Rattle.config.proofs.BlocksLaws.{front_length}
use Rattle.config.proofs.PassedLaws.{refused_not_done}
use Rattle.config.proofs.checks.read_checks.Goals as goal

-- W or H not 1 to 8
pub returns-then-not-is_allowed : goal.returns-then-not-is_allowed
returns-then-not-is_allowed c =
    let args = c.args in
    record { answer = read_size args.s args.table.now args.bits.now args.settings (sym c.is_allowed.ensures ∙ c.if-not-is_allowed.true); room = λ e. refused_not_done e }

-- a length that is not exact
pub returns-then-not-lengths_ok : goal.returns-then-not-lengths_ok
returns-then-not-lengths_ok c =
    let args = c.args in
    let table = args.table.now in
    let size = (allowed_exact args.s).0 (sym c.is_allowed.ensures ∙ c.if-not-is_allowed.false) in
    record { answer = read_length args.s table args.bits.now args.settings size (sym c.lengths_ok.ensures ∙ c.if-not-lengths_ok.true); room = λ e. refused_not_done e }

pub overflow_cast-result : goal.overflow_cast-result
overflow_cast-result c =
    let table = c.args.table.now in
    let part = broken_some logic_tile table c.in-Some.part c.in-Some.ensures.part in
    omega (arith, c.type_inv.table 68, part.1)

-- a table that breaks a rule
pub returns-in-Some : goal.returns-in-Some
returns-in-Some c =
    let args = c.args in
    let table = args.table.now in
    let size = (allowed_exact args.s).0 (sym c.is_allowed.ensures ∙ c.if-not-is_allowed.false) in
    let lengths = (lengths_exact args.s (length table) (length args.bits.now) args.settings).0 (sym c.lengths_ok.ensures ∙ c.if-not-lengths_ok.false) in
    let part = broken_some logic_tile table c.in-Some.part c.in-Some.ensures.part in
    record { answer = read_table args.s table args.bits.now args.settings size lengths _ part.0 (λ e. absurd (omega (arith, part.1))); room = λ e. refused_not_done e }

pub slice_bounds-room-end : goal.slice_bounds-room-end
slice_bounds-room-end c =
    let args = c.args in
    let table = args.table.now in
    let size = (allowed_exact args.s).0 (sym c.is_allowed.ensures ∙ c.if-not-is_allowed.false) in
    let lengths = (lengths_exact args.s (length table) (length args.bits.now) args.settings).0 (sym c.lengths_ok.ensures ∙ c.if-not-lengths_ok.false) in
    let few = tile_count_le args.s size in
    omega (arith, lengths.settings_long, c.requires)

pub slice_bounds-room-end-2 : goal.slice_bounds-room-end-2
slice_bounds-room-end-2 c =
    let args = c.args in
    let table = args.table.now in
    let size = (allowed_exact args.s).0 (sym c.is_allowed.ensures ∙ c.if-not-is_allowed.false) in
    let lengths = (lengths_exact args.s (length table) (length args.bits.now) args.settings).0 (sym c.lengths_ok.ensures ∙ c.if-not-lengths_ok.false) in
    let few = tile_count_le args.s size in
    sym (front_length (tile_count args.s) args.settings args.room.now few lengths.settings_long c.requires)

pub read_block-requires : goal.read_block-requires
read_block-requires c =
    let args = c.args in
    let table = args.table.now in
    let size = (allowed_exact args.s).0 (sym c.is_allowed.ensures ∙ c.if-not-is_allowed.false) in
    let lengths = (lengths_exact args.s (length table) (length args.bits.now) args.settings).0 (sym c.lengths_ok.ensures ∙ c.if-not-lengths_ok.false) in
    let passes = broken_none logic_tile table c.in_default.ensures.part in
    let rules = (table_exact logic_tile table lengths.table_long).0 passes in
    let few = tile_count_le args.s size in
    (few, rules, c.check_table.ensures.map passes, lengths.bits_long, front_length (tile_count args.s) args.settings args.room.now few lengths.settings_long c.requires ∙ lengths.settings_long)

-- a tile that cannot be decoded
pub returns-in-Some-read_block : goal.returns-in-Some-read_block
returns-in-Some-read_block c =
    let args = c.args in
    let table = args.table.now in
    let size = (allowed_exact args.s).0 (sym c.is_allowed.ensures ∙ c.if-not-is_allowed.false) in
    let lengths = (lengths_exact args.s (length table) (length args.bits.now) args.settings).0 (sym c.lengths_ok.ensures ∙ c.if-not-lengths_ok.false) in
    let passes = broken_none logic_tile table c.in_default.ensures.part in
    let rules = (table_exact logic_tile table lengths.table_long).0 passes in
    let checked : Checked args.s table (length args.bits.now) args.settings = record { size = size; lengths = lengths; rules = rules } in
    let found = below_some (864 * tile_count args.s) (fault_place table (tiles_of args.bits.now) (tile_count args.s)) c.in-Some-read_block.place (sym c.in-Some-read_block.ensures.place) in
    record { answer = read_undecodable args.s table args.bits.now args.settings checked _ found.0 (omega (arith, found.0, found.1)); room = λ e. refused_not_done e }

-- none of these
pub returns : goal.returns
returns c =
    let args = c.args in
    let table = args.table.now in
    let size = (allowed_exact args.s).0 (sym c.is_allowed.ensures ∙ c.if-not-is_allowed.false) in
    let lengths = (lengths_exact args.s (length table) (length args.bits.now) args.settings).0 (sym c.lengths_ok.ensures ∙ c.if-not-lengths_ok.false) in
    let passes = broken_none logic_tile table c.in_default.ensures.part in
    let rules = (table_exact logic_tile table lengths.table_long).0 passes in
    let checked : Checked args.s table (length args.bits.now) args.settings = record { size = size; lengths = lengths; rules = rules } in
    let part = c.read_block.new.settings in
    let few = tile_count_le args.s size in
    let long = c.read_block.auto.settings ∙ front_length (tile_count args.s) args.settings args.room.now few lengths.settings_long c.requires in
    let pass = below_none (864 * tile_count args.s) (fault_place table (tiles_of args.bits.now) (tile_count args.s)) (sym c.in_default-read_block.ensures.place) in
    record { answer = read_done args.s table args.bits.now args.settings checked _ refl pass; room = λ e. take_at part (drop args.settings args.room.now) args.settings long ∙ c.read_block.ensures.settings (search rules) }
