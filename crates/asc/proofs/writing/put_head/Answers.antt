-- `writing::put_head` meets its contract: the line and its line feed. Assumes nothing.
use Prim.Native.Nat.{ℕ, ◌+◌, ◌≤◌}
use mathlib.Core.Path.{ap, subst}
use mathlib.Core.List.{List}
use native.Mathlib.Omega.{arith}
use lib.ListN.{length, length-append}
use Rattle.texts.specs.Pieces.{line_end}
use Rattle.texts.proofs.PutsLaws.{puts_two}
use Rattle.asc.specs.Site.{area_of}
use Rattle.asc.specs.Spelling.{tile_line}
use Rattle.asc.proofs.WriteLaws.{head_is}
use Rattle.asc.proofs.writing.put_head.Goals as goal

pub put_tile_line-next-requires : goal.put_tile_line-next-requires
put_tile_line-next-requires c =
    let p = c.place-x.result in
    let head = head_is (area_of c.args.site) c.args.t p.0 p.1 c.place-x.ensures.across c.place-x.ensures.up in
    (c.place-x.ensures.few.0, c.place-x.ensures.few.1, omega (arith, ap length head, length-append (tile_line p.0 p.1) line_end))

pub put-requires : goal.put-requires
put-requires c =
    let p = c.place-x.result in
    let head = head_is (area_of c.args.site) c.args.t p.0 p.1 c.place-x.ensures.across c.place-x.ensures.up in
    omega (arith, ap length head, length-append (tile_line p.0 p.1) line_end, c.put_tile_line-next.auto.out)

pub returns : goal.returns
returns c =
    let p = c.place-x.result in
    let head = head_is (area_of c.args.site) c.args.t p.0 p.1 c.place-x.ensures.across c.place-x.ensures.up in
    let puts =
    puts_two c.args.at (tile_line p.0 p.1) line_end c.args.out.now c.put_tile_line-next.result c.put.result c.put_tile_line-next.new.out c.put.new.out
    (c.put_tile_line-next.ensures.next, c.put_tile_line-next.ensures.out) (c.put.ensures.next, c.put.ensures.out) (subst (λ (l : List ℕ). c.args.at + length l ≤ length c.args.out.now) head c.requires.1) in
    record { next = rw head puts.0; out = rw head puts.1 }
