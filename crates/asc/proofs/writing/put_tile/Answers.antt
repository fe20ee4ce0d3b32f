-- `writing::put_tile` meets its contract: the line and the sixteen rows. Assumes nothing.
use native.Mathlib.Omega.{arith}
use lib.ListN.{length-append}
use Rattle.texts.proofs.PutsLaws.{puts_two}
use Rattle.asc.specs.Site.{area_of}
use Rattle.asc.specs.Content.{rows_text, head_text}
use Rattle.asc.proofs.AreaLaws.{sized_of, tiles_few}
use Rattle.asc.proofs.LengthLaws.{rows_text_length}
use Rattle.asc.proofs.writing.put_tile.Goals as goal

pub put_rows-requires : goal.put_rows-requires
put_rows-requires c =
    let a = area_of c.args.site in
    let few = tiles_few a (sized_of a c.args.site.is_sized) in
    let long = length-append (head_text a c.args.t) (rows_text c.args.bits.now c.args.t) in
    let rows = rows_text_length c.args.bits.now c.args.t in
    (omega arith, omega arith, omega (arith, c.put_head-next.auto.out))

pub returns : goal.returns
returns c =
    let puts =
    puts_two c.args.at (head_text (area_of c.args.site) c.args.t) (rows_text c.args.bits.now c.args.t) c.args.out.now c.put_head-next.result c.put_rows.result
    c.put_head-next.new.out c.put_rows.new.out (c.put_head-next.ensures.next, c.put_head-next.ensures.out) (c.put_rows.ensures.next, c.put_rows.ensures.out) c.requires.2 in
    record { next = puts.0; out = puts.1 }
