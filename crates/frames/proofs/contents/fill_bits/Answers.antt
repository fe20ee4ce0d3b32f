-- `contents::fill_bits` meets its contract. Invariant: the first t parts are the tiles' bytes, and the length is the old one. Assumes nothing.
use Rattle.ports.specs.Lengths.{tile_bytes}
use Rattle.frames.proofs.BoundLaws.{size_at_le, size_digits_le}
use Rattle.frames.specs.Lines.{size_digits}
use Rattle.frames.specs.Input.{tiles_from}
use Rattle.frames.specs.Contents.{bytes_of_tile, bits_of}
use Rattle.texts.specs.Hex.{pair_at}
use Rattle.lists.proofs.PartLaws.{part_code_length, put_length, joined_step, joined_end}
use Rattle.lists.specs.Parts.{joined}
use Rattle.lists.specs.Tables.{tabulate}
use borrow.Author.Rules.{rules}
use native.Mathlib.Omega.{arith}
use Prim.Native.Nat.{◌+◌, ◌*◌, ◌≤◌}
use mathlib.Core.Path.{◌≡◌, ap, ◌∙◌}
use Rattle.frames.proofs.contents.fill_bits.Goals as goal

pub loop-t-init : goal.loop-t-init
unfolding joined
loop-t-init c = search rules

pub fill_tile-requires : goal.fill_tile-requires
fill_tile-requires c =
    let from_le : c.count_groups-found.result.end + c.size_digits.result ≤ 1312280 =
    let s = c.args.s.now in
    omega (arith, c.count_groups-found.ensures.end, c.size_digits.ensures, size_at_le s, size_digits_le s c.count_groups-found.result.end) in
    let from = from_le in
    (omega arith, part_code_length tile_bytes c.loop-t.t c.args.n c.loop-t.bits c.loop-t.invariant.1 (omega arith))

pub loop-t-preserved : goal.loop-t-preserved
loop-t-preserved c =
    let from_is : c.count_groups-found.result.end + c.size_digits.result + 1 ≡ tiles_from c.args.s.now =
    let s = c.args.s.now in
    let same = c.size_digits.ensures ∙ ap (size_digits s) c.count_groups-found.ensures.end in
    omega (arith, c.count_groups-found.ensures.end, same) in
    let args = c.args in
    let s = args.s.now in
    let t = c.loop-t.t in
    let bits = c.loop-t.bits in
    let part = c.fill_tile.new.tile in
    let long = c.fill_tile.auto.tile ∙ part_code_length tile_bytes t args.n bits c.loop-t.invariant.1 (omega arith) in
    let same = c.fill_tile.ensures ∙ ap (λ a. tabulate (λ j. pair_at s (a + 219 * t + 2 + 2 * j)) 0 tile_bytes) from_is in (
      omega arith,
      put_length tile_bytes t bits part (omega arith) long ∙ c.loop-t.invariant.1,
      joined_step tile_bytes (bytes_of_tile s) t bits part (omega arith) long c.loop-t.invariant.2 same (tile_bytes * (t + 1)) (omega arith),
    )

pub returns : goal.returns
unfolding bits_of
returns c =
    joined_end (bytes_of_tile c.args.s.now) c.loop-t.t _ (tile_bytes * c.loop-t.t) c.loop-t.bits c.loop-t.invariant.2 (omega arith) (omega arith)
