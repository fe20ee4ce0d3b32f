-- What the pass over the switches computes. Main laws: `contended_exact`, `contended_none_exact` (ground 5: the lowest wire with two enabled
-- switches, or none), `rows_from_sources` (the rows by the map of sources are the rows by definition).
use Prim.Native.Nat.{ℕ, zero, suc, ◌+◌, ◌-◌, ◌≤◌, ◌<◌}
use mathlib.Core.Path.{◌≡◌, refl, sym, ◌∙◌, ap, subst}
use mathlib.Core.Bool.{true}
use mathlib.Core.Logic.{⊎_elim, ◌↔◌}
use mathlib.Core.List.{List}
use native.Mathlib.Omega.{arith}
use native.Mathlib.Nat.{eq-or-lt_of_le, le_of_suc-le-suc, le_antisymm}
use lib.ListN.{get_or}
use borrow.Author.Tests.{ne_eqb, lt-ltb, le-ltb, ltb-true}
use Rattle.lists.specs.Search.{first}
use Rattle.lists.proofs.CaseLaws.{clash, lt_or_le, and_left, and_right, or_is, or_right}
use Rattle.lists.proofs.SearchLaws.{first_true, first_before, first_le}
use Rattle.lists.proofs.TableLaws.{tabulate_zero}
use Rattle.lists.proofs.PartLaws.{joined_ext}
use Rattle.ports.specs.declared.size.Block.{Block}
use Rattle.ports.specs.Lengths.{ports}
use Rattle.netlist.specs.Rows.{numbers_of}
use Rattle.equations.specs.Switches.{switches, origin, Contention, NoContention, LowestContention}
use Rattle.equations.specs.Routed.{Routed}
use Rattle.equations.specs.WireRows.{ends_on, driver_in, row_of, wire_rows}
use Rattle.equations.specs.Sources.{row_from, rows_from, source_in, sources_of, contended_in, contended_wire}
use Rattle.equations.proofs.SwitchLaws.{ends_of, ends_on_true, target_lt}

module _ (B : Block) (t st : List ℕ) where
  -- ---- two of the first m switches

  contended_two : (m w : ℕ) → contended_in B t st m w ≡ true
      → (s : ℕ) × (r : ℕ) × (s < r) × (r < m) × (ends_on B t st w s ≡ true) × (ends_on B t st w r ≡ true)
  unfolding contended_in
  contended_two zero w e = clash e refl
  contended_two (suc m) w e =
      ⊎_elim
      (λ f. let r = contended_two m w f in (r.0, r.1, r.2, (let l = r.3 in omega arith), r.4, r.5))
      (λ f.
      let l = ltb-true _ _ (and_right (ends_on B t st w m) _ f) in
      (driver_in B t st m w, m, l, omega arith, first_true (ends_on B t st w) 0 m (omega arith), and_left (ends_on B t st w m) _ f))
      (or_is (contended_in B t st m w) _ e)

  two_contended : (m w s r : ℕ) → s < r → r < m → ends_on B t st w s ≡ true → ends_on B t st w r ≡ true → contended_in B t st m w ≡ true
  unfolding contended_in
  two_contended zero w s r l k a b = absurd (omega arith)
  two_contended (suc m) w s r l k a b =
      ⊎_elim
      (λ (e : r ≡ m).
      let d : driver_in B t st m w < m =
      ⊎_elim (λ g. g) (λ (g : m ≤ driver_in B t st m w). clash a (first_before (ends_on B t st w) 0 m s (omega arith) (omega arith)))
      (lt_or_le (driver_in B t st m w) m) in
      or_right (contended_in B t st m w) _ (rw (← e, b) (rw e (lt-ltb _ _ d))))
      (λ (g : r < m). rw (two_contended m w s r l g a b)) (eq-or-lt_of_le (le_of_suc-le-suc k))

  -- ---- contention

  contended_true : (w : ℕ) → Contention B t st w → contended_in B t st (switches B) w ≡ true
  contended_true w (s, r, a, b, ne) =
      ⊎_elim (λ (l : s < r). two_contended (switches B) w s r l b.within (ends_on_true B t st w s a) (ends_on_true B t st w r b))
      (λ (l : r ≤ s).
      ⊎_elim (λ (e : r ≡ s). absurd (ne (sym e)))
      (λ (k : r < s). two_contended (switches B) w r s k a.within (ends_on_true B t st w r b) (ends_on_true B t st w s a)) (eq-or-lt_of_le l))
      (lt_or_le s r)

  contended_of : (w : ℕ) → contended_in B t st (switches B) w ≡ true → Contention B t st w
  contended_of w e =
      let f = contended_two (switches B) w e in
      let l = f.2 in
      let k = f.3 in
      (f.0, f.1, ends_of B t st w f.0 (omega arith) f.4, ends_of B t st w f.1 k f.5, λ q. absurd (omega arith))

  abbrev lowest : ℕ
  lowest = first (contended_in B t st (switches B)) 0 (ports B)

  module _ (ok : Routed B t st) where
    contention_lt : (w : ℕ) → Contention B t st w → w < ports B
    contention_lt w c = let a = c.2 in subst (λ (u : ℕ). u < ports B) a.onto (target_lt B t st ok c.0 a.within a.on)

    not_below : (w : ℕ) → Contention B t st w → lowest ≤ w
    not_below w c =
        ⊎_elim (λ (l : w < lowest). clash (contended_true w c) (first_before (contended_in B t st (switches B)) 0 (ports B) w (omega arith) l)) (λ l. l)
        (lt_or_le w lowest)

    -- ground 5: the computed wire is the lowest with two enabled switches ..
    pub contended_exact : (w : ℕ) → LowestContention B t st w ↔ ((w < ports B) × (contended_wire B t st ≡ w))
    unfolding contended_wire
    contended_exact w = (to, from)
      where
        at_lowest : lowest < ports B → Contention B t st lowest
        at_lowest l = contended_of lowest (first_true (contended_in B t st (switches B)) 0 (ports B) (omega arith))

        to : LowestContention B t st w → (w < ports B) × (lowest ≡ w)
        to h =
            let l = contention_lt w h.here in
            let b = not_below w h.here in
            (l, le_antisymm b (h.least lowest (at_lowest (omega arith))))

        from : (w < ports B) × (lowest ≡ w) → LowestContention B t st w
        from (l, e) = record {
          here = subst (λ (u : ℕ). Contention B t st u) e (at_lowest (omega arith));
          least = λ v c. let b = not_below v c in omega arith;
        }

    -- .. and the number of ports exactly if there is none
    pub contended_none_exact : NoContention B t st ↔ (contended_wire B t st ≡ ports B)
    unfolding contended_wire
    contended_none_exact = (to, from)
      where
        to : NoContention B t st → lowest ≡ ports B
        to free =
            let b = first_le (contended_in B t st (switches B)) 0 (ports B) in
            ⊎_elim
            (λ (l : lowest < ports B).
            absurd (free lowest (contended_of lowest (first_true (contended_in B t st (switches B)) 0 (ports B) (omega arith)))))
            (λ (l : ports B ≤ lowest). omega arith) (lt_or_le lowest (ports B))

        from : lowest ≡ ports B → NoContention B t st
        from e w c = let l = contention_lt w c in let b = not_below w c in absurd (omega arith)

  -- ---- the rows by the map of sources

  pub row_from_sources : (w : ℕ) → w < ports B → row_from B st (sources_of B t st) w ≡ row_of B t st w
  unfolding row_from row_of source_in sources_of
  row_from_sources w l =
      let at = tabulate_zero (source_in B t st (switches B)) 0 (ports B) w l in
      let s = driver_in B t st (switches B) w in
      ⊎_elim
      (λ (d : driver_in B t st (switches B) w < switches B).
      let k : get_or (sources_of B t st) w 0 ≡ origin B t st s + 1 = at ∙ rw (lt-ltb s (switches B) d) in
      let m : origin B t st s + 1 - 1 ≡ origin B t st s = omega arith in
      rw (k, lt-ltb s (switches B) d, ne_eqb (origin B t st s + 1) 0 (λ z. absurd (omega arith)), m))
      (λ (d : switches B ≤ driver_in B t st (switches B) w).
      let k : get_or (sources_of B t st) w 0 ≡ 0 = at ∙ rw (le-ltb s (switches B) d) in
      rw (k, le-ltb s (switches B) d))
      (lt_or_le (driver_in B t st (switches B) w) (switches B))

  pub rows_from_sources : rows_from B st (sources_of B t st) ≡ wire_rows B t st
  unfolding wire_rows
  rows_from_sources =
      joined_ext (λ w. numbers_of (row_from B st (sources_of B t st) w)) (λ w. numbers_of (row_of B t st w)) (ports B)
      (λ w l. ap numbers_of (row_from_sources w l))
