-- The patterns that a table's check has marked. Main laws: `mark_start`, `mark_none`, `mark_more`; `mark_again`, `mark_new`: an entry's pattern is the
-- first of its kind exactly if it does not have the mark of its group. Assumes nothing.
use mathlib.Core.Path.{◌≡◌, refl, sym, ap, ◌∙◌}
use mathlib.Core.Logic.{◌≢◌, ⊎_elim}
use mathlib.Core.Bool.{false}
use mathlib.Core.List.{List}
use Prim.Native.Nat.{ℕ, ◌+◌, ◌^◌, ◌<◌, ◌≤◌}
use native.Mathlib.Omega.{arith}
use native.Mathlib.Nat.{lt_of_lt_of_le}
use native.Mathlib.Numerals.{add-one}
use borrow.Author.Tests.{eq-eqb, ne_eqb}
use lib.Dec.{eqb}
use lib.ListN.{length, get_or, set, replicate, length-set, length-replicate, get_or-replicate}
use lib.Pow.{pow_mono}
use lib.Seq.{get_or-set_same, get_or-set_other}
use Rattle.lists.specs.Search.{all_from, some_below}
use Rattle.lists.proofs.CaseLaws.{cases, clash, eq_or_ne}
use Rattle.lists.proofs.SearchLaws.{first_at, first_before}
use Rattle.lists.proofs.SomeLaws.{some_is, some_true, some_last}
use Rattle.lists.proofs.GrowingSearch.{or_false}
use Rattle.routing.specs.TileKind.{TileKind}
use Rattle.routing.specs.Table.{entry_count, pattern_at, has_pattern, entry_of}
use Rattle.routing.specs.Marks.{MarkedBefore, Marked}

-- a pattern of at most eight positions is one of 256
pub pattern_lt : {w v : ℕ} → w ≤ 8 → v < 2 ^ w → v < 256
pattern_lt {w} l h = lt_of_lt_of_le h (pow_mono {i = w} {j = 8} l)

-- no group has passed yet
pub mark_start : (seen : List ℕ) → seen ≡ replicate 256 0 → MarkedBefore 0 seen
mark_start seen e = record {
  long = ap length e ∙ length-replicate {A = ℕ} 256 0;
  low = λ v l. (let z : get_or seen v 0 ≡ 0 = ap (λ (x : List ℕ). get_or x v 0) e ∙ get_or-replicate {A = ℕ} 256 v 0 0 l in omega arith);
}

-- no entry of group g has passed yet
pub mark_none : (K : TileKind) (table : List ℕ) (g : ℕ) (seen : List ℕ) → MarkedBefore g seen → Marked K table g 0 seen
unfolding all_from
mark_none K table g seen h = record {
  none_later = record { long = h.long; low = λ v l. (let a = h.low v l in omega arith) };
  marks = λ v l. ne_eqb (get_or seen v 0) (g + 1) (λ q. (let a = h.low v l in omega arith));
}

module _ (K : TileKind) (table : List ℕ) (g e : ℕ) (seen : List ℕ) (S : Marked K table g e seen) (l : pattern_at K table g e < 256) where
  abbrev v : ℕ
  v = pattern_at K table g e

  -- an earlier entry has the pattern
  pub mark_again : get_or seen (pattern_at K table g e) 0 ≡ g + 1 → entry_of K table g (pattern_at K table g e) ≢ e
  mark_again t q =
      let f = some_is (has_pattern K table g v) e (sym (S.marks v l) ∙ eq-eqb (get_or seen v 0) (g + 1) t) in
      absurd (clash f.2 (first_before (has_pattern K table g v) 0 (entry_count K table g) f.0 (omega arith) (omega arith)))

  -- none has
  pub mark_new : e < entry_count K table g → get_or seen (pattern_at K table g e) 0 ≢ g + 1 → entry_of K table g (pattern_at K table g e) ≡ e
  mark_new h t =
      let new : some_below (has_pattern K table g v) e ≡ false = sym (S.marks v l) ∙ ne_eqb (get_or seen v 0) (g + 1) t in
      first_at (has_pattern K table g v) e (entry_count K table g) h (eq-eqb v v refl)
      (λ k a. ⊎_elim (λ p. clash (some_true (has_pattern K table g v) e k a p) new) (λ p. p) (cases (has_pattern K table g v k)))

  -- one entry more
  pub mark_more : Marked K table g (e + 1) (set seen (pattern_at K table g e) (g + 1))
  mark_more = record {
    none_later = record {
      long = length-set seen v (g + 1) ∙ S.none_later.long;
      low = λ w a. ⊎_elim (low_here w) (low_away w a) (eq_or_ne w v);
    };
    marks = λ w a. ⊎_elim (here w) (away w a) (eq_or_ne w v);
  }
    where
      set_here : (w : ℕ) → w ≡ v → get_or (set seen v (g + 1)) w 0 ≡ g + 1
      set_here w q = rw q (get_or-set_same seen v (g + 1) 0 (omega (arith, S.none_later.long)))

      set_away : (w : ℕ) → w ≢ v → get_or (set seen v (g + 1)) w 0 ≡ get_or seen w 0
      set_away w n = get_or-set_other seen v w (g + 1) 0 n

      low_here : (w : ℕ) → w ≡ v → get_or (set seen v (g + 1)) w 0 ≤ g + 1
      low_here w q = let t = set_here w q in omega arith

      low_away : (w : ℕ) → w < 256 → w ≢ v → get_or (set seen v (g + 1)) w 0 ≤ g + 1
      low_away w a n = let t = set_away w n in let b = S.none_later.low w a in omega arith

      here : (w : ℕ) → w ≡ v → eqb (get_or (set seen v (g + 1)) w 0) (g + 1) ≡ some_below (has_pattern K table g w) (e + 1)
      here w q = eq-eqb _ _ (set_here w q) ∙ sym (some_true (has_pattern K table g w) (e + 1) e (omega arith) (eq-eqb v w (sym q)))

      away : (w : ℕ) → w < 256 → w ≢ v → eqb (get_or (set seen v (g + 1)) w 0) (g + 1) ≡ some_below (has_pattern K table g w) (e + 1)
      away w a n =
          let old : eqb (get_or (set seen v (g + 1)) w 0) (g + 1) ≡ some_below (has_pattern K table g w) e =
          ap (λ (x : ℕ). eqb x (g + 1)) (set_away w n) ∙ S.marks w a in
          let not_this : has_pattern K table g w e ≡ false = ne_eqb v w (λ q. n (sym q)) in
          let more : some_below (has_pattern K table g w) (e + 1) ≡ some_below (has_pattern K table g w) e =
          ap (some_below (has_pattern K table g w)) (add-one e) ∙ some_last (has_pattern K table g w) e ∙ rw not_this (or_false (some_below (has_pattern K table g w) e)) in
          old ∙ sym more
