-- `moved_bit` meets its contract: a bit at a place below ten is below 2 ^ 10. Assumes nothing.
use mathlib.Core.Path.{ap}
use Prim.Native.Nat.{ℕ, ◌*◌, ◌%◌, ◌+◌, ◌/◌, ◌^◌, ◌<◌}
use native.Mathlib.Omega.{arith}
use lib.Bits.{bit_and}
use lib.Pow.{pow_mono, shl_lt, shl_exact}
use Rattle.digits.proofs.MaskLaws.{and_one}
use Rattle.codec.proofs.cells.moved_bit.Goals as goal

pub returns : goal.returns
returns c =
    let two : bit_and (c.args.value / 2 ^ c.args.j) 1 < 2 ^ 1 = omega (arith, and_one (c.args.value / 2 ^ c.args.j)) in
    let below = shl_lt 1 c.args.k two in
    let exact = shl_exact 1 c.args.k 64 two (omega arith) in
    let past = pow_mono {i = 1 + c.args.k} {j = 10} (omega arith) in
    let moved = ap (λ (b : ℕ). (b * 2 ^ c.args.k) % 2 ^ 64) c.from.ensures in
    record { is = moved; small = omega (arith, moved, below, exact, past) }
