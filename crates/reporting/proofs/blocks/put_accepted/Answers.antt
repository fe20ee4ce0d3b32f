-- `blocks::put_accepted` meets its contract: the settings that were read are routed, and their sources are the map. Assumes nothing.
use Rattle.texts.proofs.PutsLaws.{Puts}
use Rattle.reporting.specs.Report.{lines_of, accepted_lines}
use Rattle.block.proofs.RoutedLaws.{routed_of_read}
use Rattle.equations.specs.Sources.{sources_of}
use Rattle.equations.specs.Routed.{Routed}
use Rattle.ports.specs.Block.{tiles}
use mathlib.Core.Path.{sym, subst}
use Rattle.reporting.proofs.blocks.put_accepted.Goals as goal

pub find_sources-requires : goal.find_sources-requires
find_sources-requires c =
    (subst (λ st. Routed c.args.b c.args.table.now st) (sym c.decode_block.ensures) (routed_of_read c.args.b c.args.table.now c.args.bits.now c.requires.sized.0 c.requires.sized.2 c.requires.sized.3), c.fill_wires.ensures, c.requires.bits_len.3)

pub returns : goal.returns
unfolding accepted_lines
returns c = let all_clauses = subst (λ st. Puts 0 (lines_of (sources_of c.args.b c.args.table.now st) st (tiles c.args.b)) c.args.out.now c.put_lines.result c.put_lines.new.out) c.decode_block.ensures (subst (λ so. Puts 0 (lines_of so c.decode_block.new.settings (tiles c.args.b)) c.args.out.now c.put_lines.result c.put_lines.new.out) c.find_sources.ensures.sources (c.put_lines.ensures.next, c.put_lines.ensures.out)) in record { next = all_clauses.0; out = all_clauses.1 }
