-- The language's count of ones is the count of the set digits. Main law: `ones_count`.
use mathlib.Core.Path.{◌≡◌, refl, sym, ap, ap₂, ◌∙◌, subst}
use mathlib.Core.Bool.{cond}
use Prim.Native.Nat.{ℕ, zero, suc, ◌+◌, ◌/◌, ◌%◌, ◌^◌, ◌<◌}
use native.Mathlib.Omega.{arith}
use native.Mathlib.Nat.{mod-lt}
use lib.Dec.{eqb}
use lib.Count.{ones, ones_cat}
use lib.Pow.{split, pow_pos, shr_lt}
use Rattle.lists.specs.Search.{count_below}
use Rattle.lists.proofs.CountLaws.{count_ext}
use Rattle.digits.specs.Digits.{is_set}
use Rattle.digits.proofs.DigitLaws.{digit_mod}

-- a number below 2 has itself as its count
ones_bit : (d : ℕ) → d < 2 → ones d ≡ cond (eqb (d % 2) 1) 1 0
unfolding ones
ones_bit zero h = refl
ones_bit (suc zero) h = refl
ones_bit (suc (suc d)) h = absurd (omega arith)

pub ones_count : (k b : ℕ) → b < 2 ^ k → ones b ≡ count_below (is_set b) k
unfolding count_below ones
ones_count zero b h = ap ones (let e : b ≡ 0 = omega arith in e)
ones_count (suc k) b h =
    let top : b / 2 ^ k < 2 = shr_lt 1 k (subst (λ (x : ℕ). b < 2 ^ x) (let e : suc k ≡ 1 + k = omega arith in e) h) in
    ap ones (sym (split b k)) ∙ ones_cat k (b / 2 ^ k) (b % 2 ^ k) (mod-lt b (pow_pos k))
    ∙ ap₂ (λ (x y : ℕ). x + y) (ones_bit (b / 2 ^ k) top)
    (ones_count k (b % 2 ^ k) (mod-lt b (pow_pos k)) ∙ count_ext (is_set (b % 2 ^ k)) (is_set b) k (λ j l. ap (λ (x : ℕ). eqb x 1) (digit_mod b k j l)))
