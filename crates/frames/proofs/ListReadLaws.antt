-- Lists of numbers and entries, as many as a count says: what is read, written again, is what stands there. Main laws: `fours_read`, `twos_read`, `entries_read_lem`, `counted`; `quads_fit`,
-- `pairs_fit`, `entries_fit`: what is read fits its digits.
use Prim.Native.Nat.{ℕ, ◌+◌, ◌*◌, ◌<◌, ◌≤◌}
use mathlib.Core.Path.{◌≡◌, refl, sym, ap, ◌∙◌}
use mathlib.Core.List.{List}
use native.Mathlib.Omega.{arith}
use native.Mathlib.Nat.{zero-add}
use lib.ListN.{length}
use Rattle.lists.specs.Tables.{tabulate}
use Rattle.lists.proofs.TableLaws.{tabulate_length}
use Rattle.texts.specs.Each.{each, Each}
use Rattle.texts.specs.Hex.{two, four, pair_at, quad_at}
use Rattle.frames.specs.Frames.{Entry, entry_digits, Fits2, Fits4, EntryFits}
use Rattle.texts.proofs.EachLaws.{holds_tabulate}
use Rattle.texts.proofs.HexLaws.{pair_lt, quad_lt}
use Rattle.texts.proofs.StandsLaws.{Spans, spans_append, spans_to, spans_from}
use Rattle.texts.proofs.ReadingLaws.{Digits, two_spans, four_spans, each_spans}

-- the entry that is read
abbrev pub entry_read : List ℕ → ℕ → Entry
entry_read s at = record { pattern = pair_at s at; source = quad_at s (at + 2) }

pub entry_spans : (s : List ℕ) (a b : ℕ) → Digits s a b → (i : ℕ) → a ≤ i → i + 6 ≤ b → Spans s i (entry_digits (entry_read s i)) (i + 6)
entry_spans s a b ds i from l =
    spans_to (spans_append (two_spans s a b ds i from (omega arith)) (four_spans s a b ds (i + 2) (omega arith) (omega arith))) refl (omega arith)

abbrev pub quads_read : List ℕ → ℕ → ℕ → List ℕ
quads_read s at n = tabulate (λ k. quad_at s (at + 4 * k)) 0 n

abbrev pub pairs_read : List ℕ → ℕ → ℕ → List ℕ
pairs_read s at n = tabulate (λ k. pair_at s (at + 2 * k)) 0 n

abbrev pub entries_read : List ℕ → ℕ → ℕ → List Entry
entries_read s at n = tabulate (λ k. entry_read s (at + 6 * k)) 0 n

-- pieces from the first on
each_read : {A : Type 0} (s : List ℕ) (f : A → List ℕ) (g : ℕ → A) (w p n : ℕ) → ((k : ℕ) → k < n → Spans s (p + w * k) (f (g k)) (p + w * k + w))
    → Spans s p (each f (tabulate g 0 n)) (p + w * n)
each_read s f g w p n h =
    spans_to (spans_from (each_spans s f g w p 0 n (λ k a b. h k (omega arith))) (let e : p + w * 0 ≡ p = omega arith in e)) refl (ap (λ (k : ℕ). p + w * k) (zero-add n))

module _ (s : List ℕ) (a b : ℕ) (ds : Digits s a b) (p n : ℕ) (from : a ≤ p) where
  pub fours_read : p + 4 * n ≤ b → Spans s p (each four (quads_read s p n)) (p + 4 * n)
  fours_read l = each_read s four (λ k. quad_at s (p + 4 * k)) 4 p n (λ k lk. four_spans s a b ds (p + 4 * k) (omega arith) (omega arith))

  pub twos_read : p + 2 * n ≤ b → Spans s p (each two (pairs_read s p n)) (p + 2 * n)
  twos_read l = each_read s two (λ k. pair_at s (p + 2 * k)) 2 p n (λ k lk. two_spans s a b ds (p + 2 * k) (omega arith) (omega arith))

  pub entries_read_lem : p + 6 * n ≤ b → Spans s p (each entry_digits (entries_read s p n)) (p + 6 * n)
  entries_read_lem l = each_read s entry_digits (λ k. entry_read s (p + 6 * k)) 6 p n (λ k lk. entry_spans s a b ds (p + 6 * k) (omega arith) (omega arith))

module _ (s : List ℕ) (p n : ℕ) where
  pub quads_fit : Each Fits4 (quads_read s p n)
  quads_fit = holds_tabulate Fits4 (λ k. quad_at s (p + 4 * k)) 0 n (λ k _ _. quad_lt s (p + 4 * k))

  pub pairs_fit : Each Fits2 (pairs_read s p n)
  pairs_fit = holds_tabulate Fits2 (λ k. pair_at s (p + 2 * k)) 0 n (λ k _ _. pair_lt s (p + 2 * k))

  pub entries_fit : Each EntryFits (entries_read s p n)
  entries_fit = holds_tabulate EntryFits (λ k. entry_read s (p + 6 * k)) 0 n (λ k _ _. (pair_lt s (p + 6 * k), quad_lt s (p + 6 * k + 2)))

-- a count and the list that it counts: the count's digits are those of the list's length
pub counted : {A : Type 0} (s : List ℕ) (f : ℕ → A) (p n a b : ℕ) → n ≡ pair_at s p → Digits s a b → a ≤ p → p + 2 ≤ b → Spans s p (two (length (tabulate f 0 n))) (p + 2)
counted s f p n a b e ds from l = spans_to (two_spans s a b ds p from l) (ap two (sym (tabulate_length f 0 n ∙ e))) refl
