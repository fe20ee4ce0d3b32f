-- An entry of a group, and the computed test of it: `entry-..` are the ways through the test, `entry_facts` what an entry that passes has.
-- Assumes nothing.
use mathlib.Core.Path.{◌≡◌}
use mathlib.Core.Logic.{◌≢◌}
use mathlib.Core.Bool.{true, false, not}
use mathlib.Core.List.{List}
use Prim.Native.Nat.{ℕ, ◌%◌, ◌*◌, ◌^◌, ◌<◌, ◌≤◌}
use native.Mathlib.Nat.{one-mul, mod-eq_of_lt}
use borrow.Author.Tests.{eq-eqb, ne_eqb, lt-ltb, le-ltb, ltb-true, eqb-true, eqb-false, not-true}
use lib.Dec.{eqb, ltb}
use lib.Pow.{pow-lt}
use Rattle.lists.proofs.CaseLaws.{and_left, and_right}
use Rattle.routing.specs.TileKind.{TileKind}
use Rattle.routing.specs.Table.{width_of, pattern_at, source_at, entry_of}
use Rattle.routing.specs.TableCheck.{entry_ok}

-- `1 << k` at sixteen bits
pub one_shifted : (k : ℕ) → k < 16 → (1 * 2 ^ k) % 2 ^ 16 ≡ 2 ^ k
one_shifted k h = rw (one-mul (2 ^ k), mod-eq_of_lt (pow-lt h))

module _ (K : TileKind) (table : List ℕ) (g : ℕ) where
  module _ (e : ℕ) where
    pub entry_zero : pattern_at K table g e ≡ 0 → false ≡ entry_ok K table g e
    unfolding entry_ok
    entry_zero z = rw (eq-eqb (pattern_at K table g e) 0 z)

    module _ (n : pattern_at K table g e ≢ 0) where
      pub entry_wide : 2 ^ width_of K table g ≤ pattern_at K table g e → false ≡ entry_ok K table g e
      unfolding entry_ok
      entry_wide h = rw (ne_eqb (pattern_at K table g e) 0 n, le-ltb (pattern_at K table g e) (2 ^ width_of K table g) h)

      module _ (h : pattern_at K table g e < 2 ^ width_of K table g) where
        pub entry_again : entry_of K table g (pattern_at K table g e) ≢ e → false ≡ entry_ok K table g e
        unfolding entry_ok
        entry_again q =
            rw (
              ne_eqb (pattern_at K table g e) 0 n,
              lt-ltb (pattern_at K table g e) (2 ^ width_of K table g) h,
              ne_eqb (entry_of K table g (pattern_at K table g e)) e q,
            )

        pub entry_new : entry_of K table g (pattern_at K table g e) ≡ e → K.is_source (source_at K table g e) ≡ entry_ok K table g e
        unfolding entry_ok
        entry_new q =
            rw (
              ne_eqb (pattern_at K table g e) 0 n,
              lt-ltb (pattern_at K table g e) (2 ^ width_of K table g) h,
              eq-eqb (entry_of K table g (pattern_at K table g e)) e q,
            )

  -- what an entry that passes has
  pub record EntryFacts (e : ℕ) : Type 0 where
    pub nonzero : pattern_at K table g e ≢ 0
    pub fits : pattern_at K table g e < 2 ^ width_of K table g
    pub found : entry_of K table g (pattern_at K table g e) ≡ e
    pub source : K.is_source (source_at K table g e) ≡ true

  pub entry_facts : (e : ℕ) → entry_ok K table g e ≡ true → EntryFacts e
  unfolding entry_ok
  entry_facts e h =
      let t = and_right (not (eqb (pattern_at K table g e) 0)) _ h in
      let u = and_right (ltb (pattern_at K table g e) (2 ^ width_of K table g)) _ t in
      record {
        nonzero = eqb-false _ _ (not-true (eqb (pattern_at K table g e) 0) (and_left (not (eqb (pattern_at K table g e) 0)) _ h));
        fits = ltb-true _ _ (and_left (ltb (pattern_at K table g e) (2 ^ width_of K table g)) _ t);
        found = eqb-true _ _ (and_left (eqb (entry_of K table g (pattern_at K table g e)) e) _ u);
        source = and_right (eqb (entry_of K table g (pattern_at K table g e)) e) _ u;
      }
