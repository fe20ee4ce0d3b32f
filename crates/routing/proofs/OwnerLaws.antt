-- Claims on positions and the map of their owners, over any slots. Main laws: `owner_is`; `once_of_free`; `owned_start`, `owned_claim`,
-- `owned_skip`: the map filled slot by slot. Assumes nothing.
use mathlib.Core.Path.{◌≡◌, refl, sym, ap, ◌∙◌, subst}
use mathlib.Core.Logic.{◌≢◌, ⊎_elim}
use mathlib.Core.Bool.{true, false}
use mathlib.Core.List.{List}
use Prim.Native.Nat.{ℕ, zero, suc, ◌+◌, ◌<◌, ◌≤◌}
use native.Mathlib.Omega.{arith}
use borrow.Author.Tests.{eq-eqb, lt-ltb, le-ltb, eqb-true}
use lib.Dec.{eqb}
use lib.ListN.{length, get_or, set, length-set}
use lib.Seq.{get_or-set_same, get_or-set_other}
use Rattle.lists.specs.Search.{first}
use Rattle.lists.specs.Tables.{zeros}
use Rattle.lists.proofs.CaseLaws.{cases, clash, cond_true, lt_or_le, eq_or_ne}
use Rattle.lists.proofs.SearchLaws.{first_at, first_none, first_true, first_before}
use Rattle.lists.proofs.TableLaws.{zeros_length, zeros_at}
use Rattle.routing.specs.Slots.{Slots, claims, owner_in, owner, Once, owner_code, Owned}

-- ---- claims

module _ (S : Slots) (p s : ℕ) where
  pub claims_it : S.used s ≡ true → S.at s ≡ p → claims S p s ≡ true
  claims_it u e = rw (u, eq-eqb (S.at s) p e)

  pub claims_used : claims S p s ≡ true → S.used s ≡ true
  claims_used c = (cond_true (S.used s) (eqb (S.at s) p) c).0

  pub claims_at : claims S p s ≡ true → S.at s ≡ p
  claims_at c = eqb-true (S.at s) p (cond_true (S.used s) (eqb (S.at s) p) c).1

  -- a slot that cannot claim p does not
  pub claims_not : (S.used s ≡ true → S.at s ≢ p) → claims S p s ≡ false
  claims_not n = ⊎_elim (λ c. absurd (n (claims_used c) (claims_at c))) (λ c. c) (cases (claims S p s))

-- ---- owners

-- the owner of a claimed position is the slot that claims it
pub owner_is : (S : Slots) → Once S → (s : ℕ) → s < S.count → S.used s ≡ true → owner S (S.at s) ≡ s
owner_is S once s h u =
    first_at (claims S (S.at s)) s S.count h (claims_it S (S.at s) s u refl)
    (λ k l. claims_not S (S.at s) k (λ v e. omega (arith, once k s (omega arith) h v u e)))

module _ (S : Slots) where
  code_owned : (m p : ℕ) → owner_in S m p < m → owner_code S m p ≡ owner_in S m p + 1
  code_owned m p h = rw (lt-ltb (owner_in S m p) m h)

  code_unowned : (m p : ℕ) → m ≤ owner_in S m p → owner_code S m p ≡ 0
  code_unowned m p h = rw (le-ltb (owner_in S m p) m h)

  -- no slot before m claims p: its code is 0
  pub code_zero : (m p : ℕ) → ((s : ℕ) → s < m → claims S p s ≡ false) → owner_code S m p ≡ 0
  code_zero m p none = code_unowned m p (omega (arith, first_none (claims S p) m none))

  -- and the other way
  pub code_free : (m p : ℕ) → owner_code S m p ≡ 0 → (s : ℕ) → s < m → claims S p s ≡ false
  code_free m p z s h =
      ⊎_elim
      (λ (l : owner_in S m p < m). absurd (omega (arith, code_owned m p l)))
      (λ (l : m ≤ owner_in S m p). first_before (claims S p) 0 m s (omega arith) (omega arith))
      (lt_or_le (owner_in S m p) m)

  -- a slot that does not claim p changes nothing there
  code_suc : (m p : ℕ) → claims S p m ≡ false → owner_code S (m + 1) p ≡ owner_code S m p
  code_suc m p f = ⊎_elim owned unowned (lt_or_le (owner_in S m p) m)
    where
      owned : owner_in S m p < m → owner_code S (m + 1) p ≡ owner_code S m p
      owned l =
          let e : owner_in S (m + 1) p ≡ owner_in S m p =
          first_at (claims S p) (owner_in S m p) (m + 1) (omega arith) (first_true (claims S p) 0 m (omega arith))
          (λ k a. first_before (claims S p) 0 m k (omega arith) a) in
          rw (e, lt-ltb (owner_in S m p) (m + 1) (omega arith), lt-ltb (owner_in S m p) m l)

      unowned : m ≤ owner_in S m p → owner_code S (m + 1) p ≡ owner_code S m p
      unowned l =
          let z : owner_code S m p ≡ 0 = code_unowned m p l in
          code_zero (m + 1) p
          (λ k a. ⊎_elim (λ (b : k < m). code_free m p z k b) (λ (b : m ≤ k). subst (λ (x : ℕ). claims S p x ≡ false) (let w : m ≡ k = omega arith in w) f) (lt_or_le k m))
          ∙ sym z

  -- every used slot finds its position free: none is claimed twice
  pub once_of_free : ((s : ℕ) → s < S.count → S.used s ≡ true → owner_code S s (S.at s) ≡ 0) → Once S
  once_of_free free s r hs hr us ur e =
      ⊎_elim (λ (l : s < r). twice s r l hr us ur e)
      (λ (l : r ≤ s). ⊎_elim (λ (m : r < s). sym (twice r s m hs ur us (sym e))) (λ (m : s ≤ r). omega arith) (lt_or_le r s)) (lt_or_le s r)
    where
      twice : (a b : ℕ) → a < b → b < S.count → S.used a ≡ true → S.used b ≡ true → S.at a ≡ S.at b → a ≡ b
      twice a b l h ua ub q = clash (claims_it S (S.at b) a ua q) (code_free b (S.at b) (free b h ub) a l)

-- ---- the ownership map

module _ (positions : ℕ) (S : Slots) where
  pub owned_start : (own : List ℕ) → own ≡ zeros positions → Owned positions S 0 own
  unfolding first
  owned_start own e = record {
    map_long = ap length e ∙ zeros_length positions;
    map_at = λ p h. subst (λ (l : List ℕ). get_or l p 0 ≡ 0) (sym e) (zeros_at positions p);
  }

  module _ (m : ℕ) (own : List ℕ) (O : Owned positions S m own) where
    -- a used slot that finds its position free claims it
    pub owned_claim : S.used m ≡ true → S.at m < positions → get_or own (S.at m) 0 ≡ 0 → Owned positions S (m + 1) (set own (S.at m) (m + 1))
    owned_claim u l z = record {
      map_long = length-set own (S.at m) (m + 1) ∙ O.map_long;
      map_at = λ q h. ⊎_elim (here q h) (away q h) (eq_or_ne q (S.at m));
    }
      where
        mine : owner_in S (m + 1) (S.at m) ≡ m
        mine =
            first_at (claims S (S.at m)) m (m + 1) (omega arith) (claims_it S (S.at m) m u refl)
            (λ k a. code_free S m (S.at m) (sym (O.map_at (S.at m) l) ∙ z) k a)

        here : (q : ℕ) → q < positions → q ≡ S.at m → get_or (set own (S.at m) (m + 1)) q 0 ≡ owner_code S (m + 1) q
        here q h e =
            rw e
            (get_or-set_same own (S.at m) (m + 1) 0 (omega (arith, O.map_long))
            ∙ sym (code_owned S (m + 1) (S.at m) (omega (arith, mine)) ∙ ap (λ (x : ℕ). x + 1) mine))

        away : (q : ℕ) → q < positions → q ≢ S.at m → get_or (set own (S.at m) (m + 1)) q 0 ≡ owner_code S (m + 1) q
        away q h n = get_or-set_other own (S.at m) q (m + 1) 0 n ∙ O.map_at q h ∙ sym (code_suc S m q (claims_not S q m (λ v e. n (sym e))))

    -- a slot that is not used leaves the map as it is
    pub owned_skip : S.used m ≡ false → Owned positions S (m + 1) own
    owned_skip u = record { map_long = O.map_long; map_at = λ q h. O.map_at q h ∙ sym (code_suc S m q (rw u refl)) }

  -- and so do many
  pub owned_skips : (m n : ℕ) (own : List ℕ) → ((s : ℕ) → m ≤ s → s < m + n → S.used s ≡ false) → Owned positions S m own → Owned positions S (m + n) own
  owned_skips m zero own off O = subst (λ (x : ℕ). Owned positions S x own) (let e : m ≡ m + 0 = omega arith in e) O
  owned_skips m (suc n) own off O =
      subst (λ (x : ℕ). Owned positions S x own) (let e : m + 1 + n ≡ m + suc n = omega arith in e)
      (owned_skips (m + 1) n own (λ s a b. off s (omega arith) (omega arith)) (owned_skip m own O (off m (omega arith) (omega arith))))
