-- `config::bit_count` meets its contract: one ground after another, and then the bits of the tile's own part. Assumes nothing.
use Rattle.std.specs.Prelude.{Ok}
use mathlib.Core.Path.{sym, ap, ◌∙◌}
use Prim.Native.Nat.{ℕ, ◌*◌}
use lib.ListN.{take, drop}
use Rattle.lists.proofs.PartLaws.{part_size}
use Rattle.ports.proofs.BlockLaws.{allowed_exact}
use Rattle.ports.specs.Lengths.{tile_numbers}
use Rattle.codec.specs.Bits.{bit_count, bit_at}
use Rattle.config.proofs.BitCountLaws.{count_size, count_length, count_range, count_set}
use Rattle.config.proofs.bit_count.Goals as goal

-- W or H not 1 to 8
pub returns-then-not-is_allowed : goal.returns-then-not-is_allowed
returns-then-not-is_allowed c =
    let args = c.args in
    count_size args.s args.bits.now args.tile (sym c.is_allowed.ensures ∙ c.if-not-is_allowed.true)

-- a length that is not exact
pub returns-then-bits-bits_length : goal.returns-then-bits-bits_length
returns-then-bits-bits_length c =
    let args = c.args in
    let size = (allowed_exact args.s).0 (sym c.is_allowed.ensures ∙ c.if-not-is_allowed.false) in
    count_length args.s args.bits.now args.tile size (λ e. c.if-bits-bits_length.true (e ∙ sym c.bits_length.ensures))

-- no such tile
pub returns-then-n-t : goal.returns-then-n-t
returns-then-n-t c =
    let args = c.args in
    let size = (allowed_exact args.s).0 (sym c.is_allowed.ensures ∙ c.if-not-is_allowed.false) in
    count_range args.s args.bits.now args.tile size (c.if-bits-bits_length.false ∙ c.bits_length.ensures) c.if-n-t.true

-- the count
pub returns : goal.returns
returns c =
    let args = c.args in
    let size = (allowed_exact args.s).0 (sym c.is_allowed.ensures ∙ c.if-not-is_allowed.false) in
    let bits = args.bits.now in
    let tile = args.tile in
    let counted = c.count_bits.ensures ∙ ap (λ (x : ℕ). bit_count (bit_at (take x (drop (tile_numbers * tile) bits)))) (part_size tile_numbers tile) in
    ap Ok counted ∙ count_set args.s args.bits.now args.tile size (c.if-bits-bits_length.false ∙ c.bits_length.ensures) c.if-n-t.false
