-- Marks: what is read after one is set, and how many are not set. Main laws: `listed_set_same`, `-other`, `-kept`; `unmarked_mark`;
-- `only_listed_list`, `only_listed_wait`.
use mathlib.Core.Path.{◌≡◌, refl, sym, ap, ◌∙◌}
use mathlib.Core.Bool.{true, false, cond}
use mathlib.Core.Logic.{⊎_elim, ◌≢◌}
use mathlib.Core.List.{List, [], ◌∷◌}
use Prim.Native.Nat.{ℕ, zero, suc, ◌<◌, ◌≤◌}
use native.Mathlib.Nat.{le_of_suc-le-suc}
use native.Mathlib.Omega.{arith}
use borrow.Author.Tests.{eq-eqb, ne_eqb, eqb-true, not-false}
use lib.Dec.{eqb}
use lib.ListN.{length, get_or, set, length-map, get_or-map, get_or-eq_default}
use lib.Seq.{get_or-set_same, get_or-set_other, map-set_same}
use Rattle.lists.specs.Tables.{zeros}
use Rattle.lists.proofs.CaseLaws.{cases, clash, eq_or_ne, lt_or_le}
use Rattle.lists.proofs.TableLaws.{zeros_at}
use Rattle.netlist.specs.Marks.{listed, unmarked, only_listed}

module _ (m : List ℕ) (w : ℕ) where
  pub listed_true : get_or m w 0 ≢ 0 → listed m w ≡ true
  listed_true h = rw (ne_eqb _ _ h)

  pub listed_false : get_or m w 0 ≡ 0 → listed m w ≡ false
  listed_false h = rw (eq-eqb _ _ h)

  pub unlisted_zero : listed m w ≡ false → get_or m w 0 ≡ 0
  unlisted_zero e = eqb-true _ _ (not-false _ e)

  -- past the marks nothing is marked
  pub listed_past : length m ≤ w → listed m w ≡ false
  listed_past l = listed_false (get_or-eq_default m 0 l)

  pub listed_lt : listed m w ≡ true → w < length m
  listed_lt t = ⊎_elim (λ (l : w < length m). l) (λ (l : length m ≤ w). clash t (listed_past l)) (lt_or_le w (length m))

  pub listed_set_same : w < length m → listed (set m w 1) w ≡ true
  listed_set_same l = rw (get_or-set_same m w 1 0 l)

  pub listed_set_other : (v : ℕ) → v ≢ w → listed (set m w 1) v ≡ listed m v
  listed_set_other v ne = rw (get_or-set_other m w v 1 0 ne)

  pub listed_set_kept : (v : ℕ) → w < length m → listed m v ≡ true → listed (set m w 1) v ≡ true
  listed_set_kept v l e = ⊎_elim (λ (q : v ≡ w). rw q (listed_set_same l)) (λ ne. listed_set_other v ne ∙ e) (eq_or_ne v w)

  -- what is not marked afterwards was not before, and is another
  pub unlisted_set_before : (v : ℕ) → w < length m → listed (set m w 1) v ≡ false → (v ≢ w) × (listed m v ≡ false)
  unlisted_set_before v l e =
      let ne : v ≢ w = λ q. clash (listed_set_same l) (rw q at e) in
      (ne, sym (listed_set_other v ne) ∙ e)

pub zeros_unlisted : (n v : ℕ) → listed (zeros n) v ≡ false
zeros_unlisted n v = listed_false (zeros n) v (zeros_at n v)

-- ---- how many are not marked

-- a mark is one less
pub unmarked_mark : (m : List ℕ) (w x : ℕ) → w < length m → get_or m w 0 ≡ 0 → 0 < x → suc (unmarked (set m w x)) ≡ unmarked m
unmarked_mark [] w x l e p = absurd (omega arith)
unmarked_mark (y ∷ m) zero zero l e p = absurd (omega arith)
unmarked_mark (zero ∷ m) zero (suc x) l e p = refl
unmarked_mark (suc y ∷ m) zero (suc x) l e p = absurd (omega arith)
unmarked_mark (zero ∷ m) (suc w) x l e p = ap suc (unmarked_mark m w x (le_of_suc-le-suc l) e p)
unmarked_mark (suc y ∷ m) (suc w) x l e p = unmarked_mark m w x (le_of_suc-le-suc l) e p

pub unmarked_set : (m : List ℕ) (w : ℕ) → w < length m → get_or m w 0 ≡ 0 → suc (unmarked (set m w 1)) ≡ unmarked m
unmarked_set m w l e = unmarked_mark m w 1 l e (omega arith)

-- a mark changed leaves no more
pub unmarked_set_le : (m : List ℕ) (w x : ℕ) → 0 < x → unmarked (set m w x) ≤ unmarked m
unmarked_set_le [] w x p = omega arith
unmarked_set_le (y ∷ m) zero zero p = absurd (omega arith)
unmarked_set_le (zero ∷ m) zero (suc x) p = omega arith
unmarked_set_le (suc y ∷ m) zero (suc x) p = omega arith
unmarked_set_le (zero ∷ m) (suc w) x p = let h = unmarked_set_le m w x p in omega arith
unmarked_set_le (suc y ∷ m) (suc w) x p = unmarked_set_le m w x p

pub unmarked_le : (m : List ℕ) → unmarked m ≤ length m
unmarked_le [] = omega arith
unmarked_le (zero ∷ m) = let h = unmarked_le m in omega arith
unmarked_le (suc x ∷ m) = let h = unmarked_le m in omega arith

pub unmarked_zeros : (n : ℕ) → unmarked (zeros n) ≡ n
unmarked_zeros zero = refl
unmarked_zeros (suc n) = ap suc (unmarked_zeros n)

-- none unmarked: all are listed
pub unmarked_none : (m : List ℕ) (w : ℕ) → unmarked m ≡ 0 → w < length m → listed m w ≡ true
unmarked_none m w z l = ⊎_elim (λ q. q) (λ q. absurd (let h = unmarked_set m w l (unlisted_zero m w q) in omega arith)) (cases (listed m w))

-- ---- marks that say more of wires that are not listed

module _ (m : List ℕ) where
  pub only_listed_length : length (only_listed m) ≡ length m
  unfolding only_listed
  only_listed_length = length-map m _

  pub only_listed_at : (w : ℕ) → get_or (only_listed m) w 0 ≡ cond (eqb (get_or m w 0) 1) 1 0
  unfolding only_listed
  only_listed_at w = get_or-map (λ (x : ℕ). cond (eqb x 1) 1 0) m w 0

  pub only_listed_one : (w : ℕ) → get_or m w 0 ≡ 1 → get_or (only_listed m) w 0 ≡ 1
  only_listed_one w e = only_listed_at w ∙ rw (eq-eqb _ _ e)

  pub only_listed_zero : (w : ℕ) → get_or m w 0 ≢ 1 → get_or (only_listed m) w 0 ≡ 0
  only_listed_zero w ne = only_listed_at w ∙ rw (ne_eqb _ _ ne)

  pub only_listed_true : (w : ℕ) → get_or m w 0 ≡ 1 → listed (only_listed m) w ≡ true
  only_listed_true w e = let h = only_listed_one w e in listed_true (only_listed m) w (λ z. absurd (omega arith))

  pub only_listed_false : (w : ℕ) → get_or m w 0 ≢ 1 → listed (only_listed m) w ≡ false
  only_listed_false w ne = listed_false (only_listed m) w (only_listed_zero w ne)

  -- the test in one equation
  pub listed_only : (w : ℕ) → listed (only_listed m) w ≡ eqb (get_or m w 0) 1
  listed_only w =
      ⊎_elim (λ e. only_listed_true w e ∙ sym (eq-eqb _ _ e)) (λ ne. only_listed_false w ne ∙ sym (ne_eqb _ _ ne)) (eq_or_ne (get_or m w 0) 1)

  -- a wire that is not listed may remember anything
  pub only_listed_wait : (d v : ℕ) → get_or m d 0 ≢ 1 → v ≢ 1 → only_listed (set m d v) ≡ only_listed m
  unfolding only_listed
  only_listed_wait d v old new = map-set_same (λ (x : ℕ). cond (eqb x 1) 1 0) m d v 0 (rw (ne_eqb _ _ old, ne_eqb _ _ new))

pub only_listed_list : (m : List ℕ) (w : ℕ) → only_listed (set m w 1) ≡ set (only_listed m) w 1
unfolding only_listed
only_listed_list [] w = refl
only_listed_list (x ∷ m) zero = refl
only_listed_list (x ∷ m) (suc w) = ap (λ (t : List ℕ). cond (eqb x 1) 1 0 ∷ t) (only_listed_list m w)

pub only_listed_zeros : (n : ℕ) → only_listed (zeros n) ≡ zeros n
unfolding only_listed
only_listed_zeros zero = refl
only_listed_zeros (suc n) = ap (λ (t : List ℕ). 0 ∷ t) (only_listed_zeros n)
