-- `half` meets its contract: a shift and a mask of n ones, by the laws of `halved`. Assumes nothing.
use Rattle.cell.proofs.HalvesLaws.{halved_mask, halved_among}
use Rattle.digits.specs.Digits.{digit}
use mathlib.Core.Path.{ap, ◌∙◌}
use native.Mathlib.Omega.{arith}
use Prim.Native.Nat.{ℕ}
use Rattle.cell.proofs.logic.half.Goals as goal

pub returns : goal.returns
returns c =
    let left = halved_mask c.args.bits c.args.choice c.args.n (omega arith) in
    record { is = left; among = λ i h. ap (λ (x : ℕ). digit x i) left ∙ halved_among c.args.bits c.args.choice c.args.n i h }
