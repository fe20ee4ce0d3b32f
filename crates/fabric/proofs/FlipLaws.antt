-- The lowest bit flipped, as arithmetic and as an exclusive or. Main law: `xor_flip`.
use Prim.Native.Nat.{ℕ, ◌+◌, ◌%◌, ◌≤◌, ◌<◌}
use mathlib.Core.Path.{◌≡◌}
use native.Mathlib.Omega.{arith}
use lib.Bits.{bit_xor}
use Rattle.digits.proofs.MaskLaws.{xor_one}
use Rattle.fabric.specs.Span.{flip}

pub flip_flip : (k : ℕ) → flip (flip k) ≡ k
unfolding flip
flip_flip k = omega arith

-- flipping keeps a number below an even bound
pub flip_lt : (m : ℕ) {k : ℕ} → m % 2 ≡ 0 → k < m → flip k < m
unfolding flip
flip_lt m e h = omega arith

pub flip_le : (k : ℕ) → flip k ≤ k + 1
unfolding flip
flip_le k = omega arith

pub xor_flip : (k : ℕ) → bit_xor k 1 ≡ flip k
unfolding flip
xor_flip k = xor_one k
