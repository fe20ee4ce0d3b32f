-- `config::write` meets its contract: a no of the checks is handed on with the bits as they were, a yes encodes the block. What the answer
-- says follows from both by `write_says`. Assumes nothing.
use mathlib.Core.Path.{sym, ◌∙◌}
use native.Mathlib.Omega.{arith}
use lib.ListN.{length}
use Rattle.ports.proofs.BlockLaws.{tile_count_le}
use Rattle.ports.specs.Block.{tile_count}
use Rattle.config.specs.Blocks.{encoded}
use Rattle.config.proofs.MeaningLaws.{write_says}
use Rattle.config.proofs.KeptLaws.{output_not_done}
use Rattle.config.proofs.PassedLaws.{write_passed, write_fit}
use borrow.Author.Rules.{rules}
use Rattle.config.proofs.write.Goals as goal

-- a no
pub returns-in_err-write_checks-clause-says : goal.returns-in_err-write_checks-clause-says
returns-in_err-write_checks-clause-says c =
    let args = c.args in
    let kept = output_not_done args.bits.now (encoded args.table.now args.settings.now (tile_count args.s)) _ (search rules) in
    write_says args.s args.table.now args.settings.now args.bits.now _ _ (search rules) kept

pub overflow_mul-s : goal.overflow_mul-s
overflow_mul-s c =
    let args = c.args in
    let done = sym c.write_checks.ensures ∙ c.in_ok-write_checks.was in
    let passed = write_passed args.s args.table.now args.settings.now (length args.bits.now) done in
    let few = tile_count_le args.s passed.size in
    omega arith

pub encode_block-requires : goal.encode_block-requires
encode_block-requires c =
    let args = c.args in
    let done = sym c.write_checks.ensures ∙ c.in_ok-write_checks.was in
    let passed = write_passed args.s args.table.now args.settings.now (length args.bits.now) done in
    let few = tile_count_le args.s passed.size in
    (few, passed.rules, passed.lengths.settings_long, passed.lengths.bits_long, write_fit args.s args.table.now args.settings.now (length args.bits.now) done)

-- a yes
pub returns : goal.returns
returns c =
    let args = c.args in
    let answer = sym c.in_ok-write_checks.was ∙ c.write_checks.ensures in
    let written = c.encode_block.ensures in
    record { answer = answer; bits = written; says = write_says args.s args.table.now args.settings.now args.bits.now _ _ answer written }
