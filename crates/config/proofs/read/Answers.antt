-- `config::read` meets its contract: a no of the checks is handed on with the settings as they were, a yes copies what the checks have read. What the
-- answer says follows from both by `read_says`. Assumes nothing.
use mathlib.Core.Path.{sym, ap, ◌∙◌}
use native.Mathlib.Omega.{arith}
use lib.ListN.{length}
use Rattle.ports.proofs.BlockLaws.{tile_count_le}
use Rattle.ports.specs.Block.{tile_count}
use Rattle.config.proofs.KeptLaws.{output_not_done}
use Rattle.config.specs.Blocks.{decoded, tiles_of}
use Rattle.config.proofs.BlocksLaws.{decoded_length}
use Rattle.config.proofs.MeaningLaws.{read_says}
use Rattle.config.proofs.PassedLaws.{read_passed}
use borrow.Author.Rules.{rules}
use Rattle.config.proofs.read.Goals as goal

-- a no
pub returns-in_err-read_checks-clause-says : goal.returns-in_err-read_checks-clause-says
returns-in_err-read_checks-clause-says c =
    let args = c.args in
    let kept = output_not_done args.settings.now (decoded args.table.now (tiles_of args.bits.now) (tile_count args.s)) _ (search rules) in
    read_says args.s args.table.now args.bits.now args.settings.now _ _ (search rules) kept

pub slice_bounds-room-end : goal.slice_bounds-room-end
slice_bounds-room-end c =
    let args = c.args in
    let answer = sym c.in_ok-read_checks.was ∙ c.read_checks.ensures.answer in
    let passed = read_passed args.s args.table.now args.bits.now (length args.settings.now) (sym answer) in
    let few = tile_count_le args.s passed.size in
    omega (arith, passed.lengths.settings_long, c.read_checks.auto.room, c.settings_room-room.ensures)

pub slice_bounds-copy_from_slice-end : goal.slice_bounds-copy_from_slice-end
slice_bounds-copy_from_slice-end c =
    let args = c.args in
    let answer = sym c.in_ok-read_checks.was ∙ c.read_checks.ensures.answer in
    let passed = read_passed args.s args.table.now args.bits.now (length args.settings.now) (sym answer) in
    let read = c.read_checks.ensures.room c.in_ok-read_checks.was in
    let long = ap length read ∙ decoded_length args.table.now args.bits.now (tile_count args.s) ∙ sym passed.lengths.settings_long in
    sym long

pub copy_from_slice-requires : goal.copy_from_slice-requires
copy_from_slice-requires c =
    let args = c.args in
    let answer = sym c.in_ok-read_checks.was ∙ c.read_checks.ensures.answer in
    let passed = read_passed args.s args.table.now args.bits.now (length args.settings.now) (sym answer) in
    let read = c.read_checks.ensures.room c.in_ok-read_checks.was in
    let long = ap length read ∙ decoded_length args.table.now args.bits.now (tile_count args.s) ∙ sym passed.lengths.settings_long in
    sym long

-- a yes
pub returns : goal.returns
returns c =
    let args = c.args in
    let answer = sym c.in_ok-read_checks.was ∙ c.read_checks.ensures.answer in
    let passed = read_passed args.s args.table.now args.bits.now (length args.settings.now) (sym answer) in
    let written = c.copy_from_slice.ensures.after ∙ c.read_checks.ensures.room c.in_ok-read_checks.was in
    record { answer = answer; settings = written; says = read_says args.s args.table.now args.bits.now args.settings.now _ _ answer written }
