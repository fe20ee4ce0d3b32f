-- Following the map of sources is following the enabled switches. Main laws: `goes_leads`, and without contention `leads_goes`; `leads_depends`:
-- a ring of switches is a loop.
use Prim.Native.Nat.{ℕ, zero, suc, ◌+◌, ◌<◌, ◌≤◌}
use mathlib.Core.Path.{◌≡◌, refl, sym, ◌∙◌, subst}
use mathlib.Core.Logic.{inl, inr, ⊎_elim}
use mathlib.Core.List.{List}
use native.Mathlib.Omega.{arith}
use lib.ListN.{length, get_or}
use borrow.Author.Tests.{lt-ltb, le-ltb}
use Rattle.lists.proofs.CaseLaws.{lt_or_le}
use Rattle.lists.proofs.TableLaws.{tabulate_length, tabulate_zero, tabulate_past}
use Rattle.ports.specs.declared.size.Block.{Block}
use Rattle.ports.specs.Lengths.{ports}
use Rattle.fabric.specs.Wire.{wire_of}
use Rattle.fabric.proofs.WireLaws.{wire_idempotent}
use Rattle.equations.specs.Switches.{switches, origin, Ends, NoContention}
use Rattle.equations.specs.Equations.{ReadsWire, switch_reads, Depends, reads, via}
use Rattle.equations.specs.WireRows.{driver}
use Rattle.equations.specs.Sources.{source_in, sources_of}
use Rattle.equations.specs.Routed.{Routed}
use Rattle.equations.proofs.SwitchLaws.{driver_ends, driver_is, target_lt, origin_port, origin_lt}
use Rattle.drivers.specs.Following.{Leads, lead, on, Comes, Bounded}
use Rattle.drivers.proofs.WalkLaws.{Goes, step, further, Gets}

module _ (B : Block) (t st : List ℕ) where
  -- ---- a ring is a loop

  depends_reads : {w m d : ℕ} → Depends B t st w m → ReadsWire B t st m d → Depends B t st w d
  depends_reads (reads r) h = via r (reads h)
  depends_reads (via r g) h = via r (depends_reads g h)

  ends_reads : {w : ℕ} (s : ℕ) → Ends B t st s w → ReadsWire B t st w (origin B t st s)
  ends_reads s h = subst (λ (x : ℕ). ReadsWire B t st x (origin B t st s)) h.onto (switch_reads s h.within h.on)

  pub leads_depends : {w d : ℕ} → Leads B t st w d → Depends B t st w d
  leads_depends (lead s h) = reads (ends_reads s h)
  leads_depends (on s g h) = depends_reads (leads_depends g) (ends_reads s h)

  -- ---- the map of sources

  pub sources_length : length (sources_of B t st) ≡ ports B
  unfolding sources_of
  sources_length = tabulate_length (source_in B t st (switches B)) 0 (ports B)

  source_at_lem : (w : ℕ) → w < ports B → get_or (sources_of B t st) w 0 ≡ source_in B t st (switches B) w
  unfolding sources_of
  source_at_lem w l = tabulate_zero (source_in B t st (switches B)) 0 (ports B) w l

  source_past : (w : ℕ) → ports B ≤ w → get_or (sources_of B t st) w 0 ≡ 0
  unfolding sources_of
  source_past w l = tabulate_past (source_in B t st (switches B)) 0 0 (ports B) w l

  -- what stands in the map comes from a switch
  pub source_ends : (w d : ℕ) → get_or (sources_of B t st) w 0 ≡ suc d → (s : ℕ) × Ends B t st s w × (origin B t st s ≡ d)
  unfolding source_in
  source_ends w d e =
      ⊎_elim
      (λ (l : w < ports B).
      ⊎_elim
      (λ (k : driver B t st w < switches B).
      let q : origin B t st (driver B t st w) + 1 ≡ suc d = rw (lt-ltb (driver B t st w) (switches B) k) at (sym (source_at_lem w l) ∙ e) in
      (driver B t st w, driver_ends B t st w k, omega arith))
      (λ (k : switches B ≤ driver B t st w).
      let q : 0 ≡ suc d = rw (le-ltb (driver B t st w) (switches B) k) at (sym (source_at_lem w l) ∙ e) in absurd (omega arith))
      (lt_or_le (driver B t st w) (switches B)))
      (λ (l : ports B ≤ w). let q : 0 ≡ suc d = sym (source_past w l) ∙ e in absurd (omega arith)) (lt_or_le w (ports B))

  pub goes_leads : {w d : ℕ} → Goes (sources_of B t st) w d → Leads B t st w d
  goes_leads {w} {d} (step e) = let f = source_ends w d e in subst (λ (x : ℕ). Leads B t st w x) f.2 (lead f.0 f.1)
  goes_leads {w} {d} (further {m = m} g e) = let f = source_ends m d e in subst (λ (x : ℕ). Leads B t st w x) f.2 (on f.0 (goes_leads g) f.1)

  pub gets_comes : {w d : ℕ} → Gets (sources_of B t st) w d → Comes B t st w d
  gets_comes (inl e) = inl e
  gets_comes (inr g) = inr (goes_leads g)

  module _ (ok : Routed B t st) where
    pub sources_bounded : Bounded (sources_of B t st)
    sources_bounded w = go (get_or (sources_of B t st) w 0) refl
      where
        go : (n : ℕ) → get_or (sources_of B t st) w 0 ≡ n → n ≤ length (sources_of B t st)
        go zero e = omega arith
        go (suc d) e =
            let f = source_ends w d e in
            let l = origin_lt B t st ok f.0 f.1.within f.1.on in
            let q = f.2 in
            let n = sources_length in
            omega arith

    -- it leads from wires to wires
    source_own : (w d : ℕ) → get_or (sources_of B t st) w 0 ≡ suc d → wire_of B d ≡ d
    unfolding origin
    source_own w d e =
        let f = source_ends w d e in
        subst (λ (x : ℕ). wire_of B x ≡ x) f.2 (wire_idempotent B _ (origin_port B t st ok f.0 f.1.within f.1.on))

    pub gets_own : {w d : ℕ} → wire_of B w ≡ w → Gets (sources_of B t st) w d → wire_of B d ≡ d
    gets_own {w} {d} own (inl e) = subst (λ (x : ℕ). wire_of B x ≡ x) e own
    gets_own {w} {d} own (inr (step e)) = source_own w d e
    gets_own {w} {d} own (inr (further {m = m} g e)) = source_own m d e

    module _ (free : NoContention B t st) where
      -- every switch stands in the map
      pub ends_source : (s w : ℕ) → Ends B t st s w → get_or (sources_of B t st) w 0 ≡ suc (origin B t st s)
      unfolding source_in
      ends_source s w h =
          let d = driver_is B t st w free s h in
          let l = h.within in
          let lw : w < ports B = subst (λ (x : ℕ). x < ports B) h.onto (target_lt B t st ok s h.within h.on) in
          source_at_lem w lw ∙ rw (d, lt-ltb s (switches B) l) (let q : origin B t st s + 1 ≡ suc (origin B t st s) = omega arith in q)

      pub leads_goes : {w d : ℕ} → Leads B t st w d → Goes (sources_of B t st) w d
      leads_goes (lead s h) = step (ends_source s _ h)
      leads_goes (on s g h) = further (leads_goes g) (ends_source s _ h)

      pub comes_gets : {w d : ℕ} → Comes B t st w d → Gets (sources_of B t st) w d
      comes_gets (inl e) = inl e
      comes_gets (inr g) = inr (leads_goes g)
