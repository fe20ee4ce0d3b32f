-- `config::blocks::decode_block` meets its contract. Invariant: the first t parts of the settings are those that were decoded, and the length
-- is the old one. Assumes nothing.
use mathlib.Core.Path.{ap, ◌∙◌}
use Prim.Native.Nat.{◌+◌, ◌*◌}
use native.Mathlib.Omega.{arith}
use borrow.Author.Rules.{rules}
use lib.ListN.{take, drop}
use Rattle.lists.proofs.PartLaws.{part_size, part_code_length, put_length, joined_step}
use Rattle.lists.specs.Parts.{joined}
use Rattle.ports.specs.Lengths.{tile_numbers, settings_length}
use Rattle.codec.specs.Bits.{bit_at}
use Rattle.codec.specs.Decode.{decode}
use Rattle.config.specs.Blocks.{decoded_at, tiles_of}
use Rattle.config.proofs.blocks.decode_block.Goals as goal

pub loop-t-init : goal.loop-t-init
unfolding joined
loop-t-init c = search rules

pub loop-t-preserved : goal.loop-t-preserved
unfolding decoded_at
loop-t-preserved c =
    let args = c.args in
    let t = c.loop-t.t in
    let table = args.table.now in
    let bits = args.bits.now in
    let settings = c.loop-t.settings in
    let part = c.decode_tile.new.settings in
    let long = c.decode_tile.auto.settings ∙ part_code_length settings_length t args.n settings c.loop-t.invariant.1 (omega arith) in
    let same = c.decode_tile.ensures ∙ ap (λ x. decode table (bit_at (take x (drop (tile_numbers * t) bits)))) (part_size tile_numbers t) in
    (omega arith, put_length settings_length t settings part (omega arith) long ∙ c.loop-t.invariant.1, joined_step settings_length (decoded_at table (tiles_of bits)) t settings part (omega arith) long c.loop-t.invariant.2 same (settings_length * (t + 1)) (omega arith))
