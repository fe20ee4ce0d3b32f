-- `writing::put_file` meets its contract. Invariant: .device and the tiles before t are put (`TilesPut`). Assumes nothing.
use mathlib.Core.Path.{◌∙◌}
use native.Mathlib.Omega.{arith}
use Rattle.texts.proofs.PutsLaws.{puts_again}
use Rattle.asc.specs.Site.{area_of}
use Rattle.asc.specs.Content.{device_text}
use Rattle.asc.proofs.WriteLaws.{tiles_start, tiles_room, tiles_fit, tiles_turn, tiles_end}
use Rattle.asc.proofs.LengthLaws.{text_length_long}
use Rattle.asc.proofs.writing.put_file.Goals as goal

pub put-next-requires : goal.put-next-requires
put-next-requires c = omega (arith, text_length_long (area_of c.args.site))

pub loop-t-init : goal.loop-t-init
loop-t-init c =
    tiles_start (area_of c.args.site) c.args.bits.now c.put-next.new.out c.put-next.result c.put-next.new.out (c.put-next.auto.out ∙ c.requires.1) (puts_again device_text c.args.text.now c.put-next.result c.put-next.new.out (c.put-next.ensures.next, c.put-next.ensures.out))

pub put_tile-next-requires : goal.put_tile-next-requires
put_tile-next-requires c =
    (omega arith, c.requires.0, (let f = tiles_fit _ _ _ _ _ _ c.loop-t.invariant (omega arith) in let o = tiles_room _ _ _ _ _ _ c.loop-t.invariant in omega arith))

pub loop-t-preserved : goal.loop-t-preserved
loop-t-preserved c =
    tiles_turn _ _ _ _ _ _ c.loop-t.invariant (omega arith) _ _ (c.put_tile-next.ensures.next, c.put_tile-next.ensures.out)

pub returns : goal.returns
returns c = tiles_end _ _ _ _ _ _ c.loop-t.invariant (omega arith)
