-- `lines::is_spelt` meets its contract: the line is compared with the one that is spelt. Assumes nothing.
use mathlib.Core.Path.{ap, ◌∙◌}
use native.Mathlib.Omega.{arith}
use borrow.Author.Tests.{le-leb}
use Rattle.texts.specs.Lines.{same}
use Rattle.texts.proofs.SameLaws.{same_eq}
use Rattle.texts.proofs.PutsLaws.{spelt_take}
use Rattle.texts.proofs.DecimalLaws.{decimal_length}
use Rattle.asc.specs.Spelling.{tile_line}
use Rattle.asc.proofs.SpellingLaws.{tile_line_length}
use Rattle.asc.proofs.lines.is_spelt.Goals as goal

pub put_tile_line-n-requires : goal.put_tile_line-n-requires
put_tile_line-n-requires c =
    (omega arith, omega arith, omega (arith, tile_line_length c.args.x c.args.y, decimal_length c.args.x, decimal_length c.args.y))

pub returns : goal.returns
returns c =
    let spelt = spelt_take (tile_line c.args.x c.args.y) _ c.put_tile_line-n.result c.put_tile_line-n.new.out (c.put_tile_line-n.ensures.next, c.put_tile_line-n.ensures.out) in
    rw (le-leb c.args.x 255 (let z = c.if-x-gt255.false in z), le-leb c.args.y 255 (let z = c.if-y-gt255.false in z))
    (c.eq.ensures ∙ same_eq c.args.line.now _ ∙ ap (same c.args.line.now) spelt)
