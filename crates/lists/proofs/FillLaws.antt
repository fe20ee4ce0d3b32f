-- A list after `xs[a..e].fill(0)`, as a goal has it, with k for e - a: zeros from a on, below e, and what was elsewhere. Main laws: `zeroed_is`,
-- `zeroed_length`; `zeroed_front`, `zeroed_mid`, `zeroed_after`; `zeroed_back`, after `xs[a..].fill(0)`.
use mathlib.Core.Path.{◌≡◌, ap, ◌∙◌}
use mathlib.Core.List.{List, ◌++◌}
use mathlib.Core.Logic.{⊎_elim}
use Prim.Native.Nat.{ℕ, ◌+◌, ◌-◌, ◌<◌, ◌≤◌}
use native.Mathlib.Omega.{arith}
use borrow.Rule.Slice.PartMut.{put_mid, mid_of}
use lib.ListN.{length, get_or, take, drop, length-append, length-take, length-drop, get_or-append, get_or-eq_default}
use lib.Seq.{get_or-take, get_or-append-add, get_or-drop, drop-drop, length-take-le}
use Rattle.lists.specs.Tables.{zeros}
use Rattle.lists.proofs.CaseLaws.{lt_or_le}
use Rattle.lists.proofs.TableLaws.{zeros_length, zeros_at}

module _ (xs tail : List ℕ) (a k : ℕ) (l : a + k ≤ length xs) (is : tail ≡ zeros (length (mid_of a k xs))) where
  many : length (mid_of a k xs) ≡ k
  many = omega (arith, length-take k (drop a xs), length-drop a xs)

  pub zeroed_is : put_mid a k xs tail ≡ take a xs ++ (zeros k ++ drop (a + k) xs)
  zeroed_is = rw (is, many) (ap (λ (t : List ℕ). take a xs ++ (zeros k ++ t)) (drop-drop k a xs))

  at : (p : ℕ) → get_or (put_mid a k xs tail) p 0 ≡ get_or (take a xs ++ (zeros k ++ drop (a + k) xs)) p 0
  at p = ap (λ (t : List ℕ). get_or t p 0) zeroed_is

  front_length : length (take a xs) ≡ a
  front_length = length-take-le a xs (omega arith)

  pub zeroed_length : length (put_mid a k xs tail) ≡ length xs
  zeroed_length =
      ap length zeroed_is
      ∙ omega (arith, length-append (take a xs) (zeros k ++ drop (a + k) xs), length-append (zeros k) (drop (a + k) xs), front_length, zeros_length k, length-drop (a + k) xs)

  pub zeroed_front : (p : ℕ) → p < a → get_or (put_mid a k xs tail) p 0 ≡ get_or xs p 0
  zeroed_front p h = at p ∙ get_or-append (take a xs) (zeros k ++ drop (a + k) xs) 0 p (omega (arith, front_length)) ∙ get_or-take a xs p 0 h

  behind : (p : ℕ) → a ≤ p → get_or (put_mid a k xs tail) p 0 ≡ get_or (zeros k ++ drop (a + k) xs) (p - a) 0
  behind p h =
      at p
      ∙ ap (λ (q : ℕ). get_or (take a xs ++ (zeros k ++ drop (a + k) xs)) q 0) (let e : p ≡ length (take a xs) + (p - a) = omega (arith, front_length) in e)
      ∙ get_or-append-add (take a xs) (zeros k ++ drop (a + k) xs) (p - a) 0

  pub zeroed_mid : (p : ℕ) → a ≤ p → p < a + k → get_or (put_mid a k xs tail) p 0 ≡ 0
  zeroed_mid p h b = behind p h ∙ get_or-append (zeros k) (drop (a + k) xs) 0 (p - a) (omega (arith, zeros_length k)) ∙ zeros_at k (p - a)

  pub zeroed_after : (p : ℕ) → a + k ≤ p → get_or (put_mid a k xs tail) p 0 ≡ get_or xs p 0
  zeroed_after p h =
      behind p (omega arith)
      ∙ ap (λ (q : ℕ). get_or (zeros k ++ drop (a + k) xs) q 0) (let e : p - a ≡ length (zeros k) + (p - (a + k)) = omega (arith, zeros_length k) in e)
      ∙ get_or-append-add (zeros k) (drop (a + k) xs) (p - (a + k)) 0 ∙ get_or-drop (a + k) xs (p - (a + k)) 0
      ∙ ap (λ (q : ℕ). get_or xs q 0) (let e : a + k + (p - (a + k)) ≡ p = omega arith in e)

-- zeros up to the end
pub zeroed_back : (xs tail : List ℕ) (a k : ℕ) → a + k ≡ length xs → tail ≡ zeros (length (mid_of a k xs)) → (p : ℕ) → a ≤ p
    → get_or (put_mid a k xs tail) p 0 ≡ 0
zeroed_back xs tail a k e is p h =
    ⊎_elim (λ (b : p < a + k). zeroed_mid xs tail a k (omega arith) is p h b)
    (λ (b : a + k ≤ p). zeroed_after xs tail a k (omega arith) is p b ∙ get_or-eq_default xs 0 (omega arith)) (lt_or_le p (a + k))
