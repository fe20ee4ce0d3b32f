-- The pass over the switches that finds each wire's source and the lowest wire with two switches: one switch more. Main laws: `sourced_start`,
-- `sourced_skip` (it is off), `sourced_new` (the first on its wire), `sourced_lower`, `sourced_higher` (a second one), `sourced_end`.
use Prim.Native.Nat.{ℕ, suc, ◌+◌, ◌≤◌, ◌<◌}
use mathlib.Core.Path.{◌≡◌, refl, sym, ◌∙◌, ap}
use mathlib.Core.Bool.{true, false, ◌&&◌, ◌||◌}
use mathlib.Core.Logic.{◌⊎◌, inl, inr, ⊎_elim, ◌≢◌}
use mathlib.Core.List.{List}
use native.Mathlib.Omega.{arith}
use lib.Dec.{eqb, ltb}
use lib.ListN.{get_or, set, length-set}
use lib.Seq.{get_or-set_same, get_or-set_other}
use borrow.Author.Tests.{eq-eqb, ne_eqb, lt-ltb, le-ltb}
use Rattle.lists.specs.Search.{first}
use Rattle.lists.specs.Tables.{zeros}
use Rattle.lists.proofs.CaseLaws.{lt_or_le, eq_or_ne, and_false_left, and_false_right}
use Rattle.lists.proofs.SearchLaws.{first_none, first_ext}
use Rattle.lists.proofs.TableLaws.{tabulate_is, zeros_length, zeros_at}
use Rattle.ports.specs.declared.size.Block.{Block}
use Rattle.ports.specs.Lengths.{ports}
use Rattle.equations.specs.Switches.{switches, enabled, target, origin}
use Rattle.equations.specs.WireRows.{ends_on, driver_in}
use Rattle.equations.specs.Sources.{source_in, sources_of, contended_in, contended_wire, Sourced}
use Rattle.lists.proofs.GrowingSearch.{grow_old, grow_hit, grow_miss, or_false, more_lower, more_higher}

module _ (B : Block) (t st : List ℕ) where
  -- ---- where switch s ends

  ends_off : (s w : ℕ) → enabled B t st s ≡ false → ends_on B t st w s ≡ false
  unfolding ends_on
  ends_off s w e = rw e

  ends_apart : (s w : ℕ) → target B t s ≢ w → ends_on B t st w s ≡ false
  unfolding ends_on
  ends_apart s w ne = and_false_right (enabled B t st s) _ (ne_eqb _ _ ne)

  ends_here : (s : ℕ) → enabled B t st s ≡ true → ends_on B t st (target B t s) s ≡ true
  unfolding ends_on
  ends_here s e = rw (e, eq-eqb (target B t s) (target B t s) refl)

  -- ---- the source of w

  module _ (s w : ℕ) where
    -- it does not change where switch s does not end on w, or comes too late
    source_off : ends_on B t st w s ≡ false → source_in B t st (suc s) w ≡ source_in B t st s w
    unfolding source_in
    source_off e =
        ⊎_elim
        (λ (l : driver_in B t st s w < s).
        rw (grow_old (ends_on B t st w) s l, lt-ltb (driver_in B t st s w) s l, lt-ltb (driver_in B t st s w) (suc s) (omega arith)))
        (λ (l : s ≤ driver_in B t st s w). rw (grow_miss (ends_on B t st w) s l e, le-ltb (driver_in B t st s w) s l, le-ltb (suc s) (suc s) (omega arith)))
        (lt_or_le (driver_in B t st s w) s)

    source_late : driver_in B t st s w < s → source_in B t st (suc s) w ≡ source_in B t st s w
    unfolding source_in
    source_late l = rw (grow_old (ends_on B t st w) s l, lt-ltb (driver_in B t st s w) s l, lt-ltb (driver_in B t st s w) (suc s) (omega arith))

    source_new : s ≤ driver_in B t st s w → ends_on B t st w s ≡ true → source_in B t st (suc s) w ≡ origin B t st s + 1
    unfolding source_in
    source_new l e = rw (grow_hit (ends_on B t st w) s l e, lt-ltb s (suc s) (omega arith))

    -- a 0 says that there is none yet
    pub source_none : source_in B t st s w ≡ 0 → s ≤ driver_in B t st s w
    unfolding source_in
    source_none e =
        ⊎_elim
        (λ (l : driver_in B t st s w < s).
        let z : origin B t st (driver_in B t st s w) + 1 ≡ 0 = rw (lt-ltb (driver_in B t st s w) s l) at e in absurd (omega arith)) (λ l. l)
        (lt_or_le (driver_in B t st s w) s)

    pub source_some : source_in B t st s w ≢ 0 → driver_in B t st s w < s
    unfolding source_in
    source_some ne =
        ⊎_elim (λ l. l) (λ (l : s ≤ driver_in B t st s w). absurd (ne (rw (le-ltb (driver_in B t st s w) s l)))) (lt_or_le (driver_in B t st s w) s)

    contended_kept : ends_on B t st w s && ltb (driver_in B t st s w) s ≡ false → contended_in B t st (suc s) w ≡ contended_in B t st s w
    unfolding contended_in
    contended_kept e = rw e (or_false (contended_in B t st s w))

  -- ---- the pass

  pub sourced_start : Sourced B t st 0 (zeros (ports B)) (ports B)
  unfolding source_in contended_in first
  sourced_start = record {
    long = zeros_length (ports B);
    found = λ w l. zeros_at (ports B) w;
    lowest_is = sym (first_none (contended_in B t st 0) (ports B) (λ k l. refl));
  }

  module _ (s low : ℕ) (x : List ℕ) (h : Sourced B t st s x low) where
    -- a group that is off, or that the table does not have
    pub sourced_skip : enabled B t st s ≡ false → Sourced B t st (suc s) x low
    sourced_skip e = record {
      long = h.long;
      found = λ w l. h.found w l ∙ sym (source_off s w (ends_off s w e));
      lowest_is = h.lowest_is ∙ first_ext _ _ (ports B) (λ w l. sym (contended_kept s w (and_false_left (ends_on B t st w s) _ (ends_off s w e))));
    }

    -- an enabled switch that ends on u
    module _ (u : ℕ) (e : enabled B t st s ≡ true) (is : u ≡ target B t s) (lu : u < ports B) where
      on_u : ends_on B t st u s ≡ true
      on_u = rw is (ends_here s e)

      off_u : (w : ℕ) → w ≢ u → ends_on B t st w s ≡ false
      off_u w ne = ends_apart s w (λ q. ne (sym q ∙ sym is))

      pub sourced_new : (v : ℕ) → get_or x u 0 ≡ 0 → v ≡ origin B t st s + 1 → Sourced B t st (suc s) (set x u v) low
      sourced_new v z q = record {
        long = length-set x u v ∙ h.long;
        found = λ w l.
            ⊎_elim (λ (k : w ≡ u). rw k (get_or-set_same x u v 0 (let g = h.long in omega arith) ∙ q ∙ sym (source_new s u late on_u)))
            (λ ne. get_or-set_other x u w v 0 ne ∙ h.found w l ∙ sym (source_off s w (off_u w ne))) (eq_or_ne w u);
        lowest_is = h.lowest_is ∙ first_ext _ _ (ports B) (λ w l. sym (contended_kept s w (none w (eq_or_ne w u))));
      }
        where
          late : s ≤ driver_in B t st s u
          late = source_none s u (sym (h.found u lu) ∙ z)

          none : (w : ℕ) → (w ≡ u) ⊎ (w ≢ u) → ends_on B t st w s && ltb (driver_in B t st s w) s ≡ false
          none w (inl k) = rw k (and_false_right (ends_on B t st u s) _ (le-ltb (driver_in B t st s u) s late))
          none w (inr ne) = and_false_left (ends_on B t st w s) _ (off_u w ne)

      -- a second switch on u
      module _ (nz : get_or x u 0 ≢ 0) where
        early : driver_in B t st s u < s
        early = source_some s u (λ z. nz (h.found u lu ∙ z))

        contends : (w : ℕ) → contended_in B t st (suc s) w ≡ contended_in B t st s w || eqb u w
        unfolding contended_in
        contends w =
            ⊎_elim (λ (k : w ≡ u). rw (k, on_u, lt-ltb (driver_in B t st s u) s early, eq-eqb u u refl))
            (λ ne. rw (off_u w ne, ne_eqb u w (λ q. ne (sym q)))) (eq_or_ne w u)

        again : (low' : ℕ) → low' ≡ first (λ w. contended_in B t st s w || eqb u w) 0 (ports B) → Sourced B t st (suc s) x low'
        again low' q = record {
          long = h.long;
          found = λ w lw.
              h.found w lw ∙ sym (⊎_elim (λ (k : w ≡ u). rw k (source_late s u early)) (λ ne. source_off s w (off_u w ne)) (eq_or_ne w u));
          lowest_is = q ∙ first_ext _ _ (ports B) (λ w l. sym (contends w));
        }

        pub sourced_lower : u < low → Sourced B t st (suc s) x u
        sourced_lower l = again u (let b = h.lowest_is in sym (more_lower (contended_in B t st s) (ports B) u lu (omega arith)))

        pub sourced_higher : low ≤ u → Sourced B t st (suc s) x low
        sourced_higher l = again low (let b = h.lowest_is in b ∙ sym (more_higher (contended_in B t st s) (ports B) u lu (omega arith)))

    pub sourced_end : s ≡ switches B → (low ≡ contended_wire B t st) × (x ≡ sources_of B t st)
    unfolding contended_wire sources_of
    sourced_end e = (
      h.lowest_is ∙ ap (λ (k : ℕ). first (contended_in B t st k) 0 (ports B)) e,
      tabulate_is (source_in B t st (switches B)) 0 (ports B) x h.long (λ w l. h.found w l ∙ ap (λ (k : ℕ). source_in B t st k w) e),
    )
