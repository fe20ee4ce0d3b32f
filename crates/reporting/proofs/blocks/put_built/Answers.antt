-- `blocks::put_built` meets its contract: what building answered decides which lines. Assumes nothing.
use Rattle.block.specs.Lengths.{room_lent, build_lent}
use Rattle.reporting.proofs.SizeLaws.{small_tiles}
use Rattle.texts.proofs.PutsLaws.{puts_line}
use Rattle.reporting.proofs.BlockLaws.{refused_lines, listed_lines, listed_decodable}
use Rattle.block.specs.Meaning.{BuildSays}
use Rattle.block.proofs.LengthLaws.{build_long_exact}
use mathlib.Core.Path.{◌∙◌, subst}
use Rattle.reporting.proofs.blocks.put_built.Goals as goal

pub put_accepted-requires : goal.put_accepted-requires
put_accepted-requires c =
    let says = subst (BuildSays c.args.b c.args.table.now c.args.bits.now (build_lent c.args.table.now c.args.bits.now c.args.settings.now (room_lent c.args.list.now c.args.wires.now c.args.sources.now c.args.rows.now c.args.marks.now c.args.queue.now))) c.in-Ok.is c.build-built.ensures.says in
    record {
      sized = (says.0.size, small_tiles c.args.b c.requires.small.0, says.0.rules, listed_decodable _ _ _ _ _ c.build-built.ensures.answer ((build_long_exact c.args.b (build_lent c.args.table.now c.args.bits.now c.args.settings.now (room_lent c.args.list.now c.args.wires.now c.args.sources.now c.args.rows.now c.args.marks.now c.args.queue.now))).1 c.requires.build_long) c.in-Ok.rows_listed c.in-Ok.is);
      bits_len = (
        c.requires.build_long.bits_long,
        c.build-built.auto.settings ∙ c.requires.build_long.settings_long,
        c.build-built.auto.wires ∙ c.requires.build_long.room_long.wires_long,
        c.build-built.auto.sources ∙ c.requires.build_long.room_long.sources_long,
        c.requires.small.1,
      );
    }

pub returns-in-Err : goal.returns-in-Err
returns-in-Err c = let all_clauses = puts_line _ _ _ _ _ _ (refused_lines _ _ _ _ _ c.build-built.ensures.answer ((build_long_exact c.args.b (build_lent c.args.table.now c.args.bits.now c.args.settings.now (room_lent c.args.list.now c.args.wires.now c.args.sources.now c.args.rows.now c.args.marks.now c.args.queue.now))).1 c.requires.build_long) c.in-Err.r c.in-Err.is) (c.put_refusal.ensures.next, c.put_refusal.ensures.out) in record { next = all_clauses.0; out = all_clauses.1 }

pub returns-in-Ok : goal.returns-in-Ok
returns-in-Ok c = let all_clauses = puts_line _ _ _ _ _ _ (listed_lines _ _ _ _ _ c.build-built.ensures.answer ((build_long_exact c.args.b (build_lent c.args.table.now c.args.bits.now c.args.settings.now (room_lent c.args.list.now c.args.wires.now c.args.sources.now c.args.rows.now c.args.marks.now c.args.queue.now))).1 c.requires.build_long) c.in-Ok.rows_listed c.in-Ok.is) (c.put_accepted.ensures.next, c.put_accepted.ensures.out) in record { next = all_clauses.0; out = all_clauses.1 }
