-- A position of a part, held against all that was claimed before it. Main laws: `position_exact`, `places_exact`: the computed test and the rule;
-- `position_out`, `-taken`, `-free`, `-claimed`: what the ownership map says of it, and the map with it. Assumes nothing.
use mathlib.Core.Path.{◌≡◌, sym, ◌∙◌, subst}
use mathlib.Core.Logic.{◌≢◌, ◌↔◌}
use mathlib.Core.Bool.{true, false}
use mathlib.Core.List.{List}
use Prim.Native.Nat.{ℕ, ◌+◌, ◌<◌, ◌≤◌}
use native.Mathlib.Omega.{arith}
use borrow.Author.Tests.{eq-eqb, ne_eqb, lt-ltb, le-ltb, ltb-true, eqb-true}
use lib.Dec.{eqb, ltb}
use lib.ListN.{get_or, set}
use Rattle.lists.specs.Search.{all_from}
use Rattle.lists.proofs.SearchLaws.{all_at, all_of}
use Rattle.lists.proofs.CaseLaws.{clash, and_left, and_right, and_true, and_false_left, and_false_right}
use Rattle.routing.specs.TileKind.{TileKind}
use Rattle.routing.specs.Slots.{slot_at, slot_used, slots_of, owner_code, Owned}
use Rattle.routing.specs.Rules.{PositionRules}
use Rattle.routing.specs.TableCheck.{position_ok}
use Rattle.routing.proofs.OwnerLaws.{claims_it, claims_not, code_zero, code_free, owned_claim}

module _ (K : TileKind) (table : List ℕ) (from k : ℕ) where
  -- position k of the part, and the test that no slot before it claims it
  abbrev here : ℕ
  here = slot_at K table (from + k)

  abbrev code : ℕ
  code = owner_code (slots_of K table) (from + k) here

  pub position_unclaimed : position_ok K table from k ≡ true → code ≡ 0
  unfolding position_ok
  position_unclaimed h = eqb-true code 0 (and_right (ltb here K.positions) (eqb code 0) h)

  position_keeps : position_ok K table from k ≡ true → PositionRules K table from k
  unfolding position_ok
  position_keeps h = record {
    below = ltb-true here K.positions (and_left (ltb here K.positions) (eqb code 0) h);
    unclaimed = λ s l u e. clash (claims_it (slots_of K table) here s u e) (code_free (slots_of K table) (from + k) here (position_unclaimed h) s l);
  }

  -- no slot before a position that keeps the rules claims it
  pub position_free_code : PositionRules K table from k → code ≡ 0
  position_free_code P = code_zero (slots_of K table) (from + k) here (λ s l. claims_not (slots_of K table) here s (λ u e. P.unclaimed s l u e))

  position_passes : PositionRules K table from k → position_ok K table from k ≡ true
  unfolding position_ok
  position_passes P = and_true (lt-ltb here K.positions P.below) (eq-eqb code 0 (position_free_code P))

  pub position_exact : (position_ok K table from k ≡ true) ↔ PositionRules K table from k
  position_exact = (position_keeps, position_passes)

  -- ---- the turns of claiming: the position is p, and `own` is the map of all slots before it

  module _ (p : ℕ) (at : slot_at K table (from + k) ≡ p) where
    pub position_out : K.positions ≤ p → position_ok K table from k ≡ false
    unfolding position_ok
    position_out h = and_false_left (ltb here K.positions) (eqb code 0) (le-ltb here K.positions (omega arith))

    module _ (own : List ℕ) (O : Owned K.positions (slots_of K table) (from + k) own) (h : p < K.positions) where
      own_code : get_or own p 0 ≡ code
      own_code = rw at (O.map_at p h)

      pub position_taken : get_or own p 0 ≢ 0 → position_ok K table from k ≡ false
      unfolding position_ok
      position_taken n = and_false_right (ltb here K.positions) (eqb code 0) (ne_eqb code 0 (λ z. n (own_code ∙ z)))

      pub position_free : get_or own p 0 ≡ 0 → position_ok K table from k ≡ true
      unfolding position_ok
      position_free z = and_true (lt-ltb here K.positions (omega arith)) (eq-eqb code 0 (sym own_code ∙ z))

      pub position_claimed : slot_used K table (from + k) ≡ true → get_or own p 0 ≡ 0
          → Owned K.positions (slots_of K table) (from + (k + 1)) (set own p (from + k + 1))
      position_claimed u z =
          subst (λ (x : ℕ). Owned K.positions (slots_of K table) x (set own p (from + k + 1))) (let w : from + k + 1 ≡ from + (k + 1) = omega arith in w)
          (subst (λ (q : ℕ). Owned K.positions (slots_of K table) (from + k + 1) (set own q (from + k + 1))) at
          (owned_claim K.positions (slots_of K table) (from + k) own O u (omega arith) (rw at z)))

-- the first n positions of a part
pub places_exact : (K : TileKind) (table : List ℕ) (from n : ℕ)
    → (all_from (position_ok K table from) 0 n ≡ true) ↔ ((k : ℕ) → k < n → PositionRules K table from k)
places_exact K table from n = (
  λ h k l. (position_exact K table from k).0 (all_at (position_ok K table from) 0 n k h (omega arith) (omega arith)),
  λ P. all_of (position_ok K table from) 0 n (λ k a b. (position_exact K table from k).1 (P k (omega arith))),
)
