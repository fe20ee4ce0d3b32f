-- `config::blocks::encode_block` meets its contract. Invariant: the first t parts of the bits are those that were encoded, and the length is
-- the old one. Assumes nothing.
use mathlib.Core.Path.{ap, ◌∙◌}
use Prim.Native.Nat.{◌+◌, ◌*◌}
use native.Mathlib.Omega.{arith}
use borrow.Author.Rules.{rules}
use lib.ListN.{take, drop}
use Rattle.lists.proofs.PartLaws.{part_size, part_code_length, put_length, joined_step}
use Rattle.lists.specs.Parts.{joined}
use Rattle.ports.specs.Lengths.{tile_numbers, settings_length}
use Rattle.codec.specs.Encode.{encode}
use Rattle.config.specs.Blocks.{encoded_at}
use Rattle.config.proofs.blocks.encode_block.Goals as goal

pub loop-t-init : goal.loop-t-init
unfolding joined
loop-t-init c = search rules

pub loop-t-preserved : goal.loop-t-preserved
unfolding encoded_at
loop-t-preserved c =
    let args = c.args in
    let t = c.loop-t.t in
    let table = args.table.now in
    let settings = args.settings.now in
    let bits = c.loop-t.bits in
    let part = c.encode_tile.new.bits in
    let long = c.encode_tile.auto.bits ∙ part_code_length tile_numbers t args.n bits c.loop-t.invariant.1 (omega arith) in
    let same = c.encode_tile.ensures ∙ ap (λ x. encode table (take x (drop (settings_length * t) settings))) (part_size settings_length t) in
    (omega arith, put_length tile_numbers t bits part (omega arith) long ∙ c.loop-t.invariant.1, joined_step tile_numbers (encoded_at table settings) t bits part (omega arith) long c.loop-t.invariant.2 same (tile_numbers * (t + 1)) (omega arith))
