-- Following a driver: the computed answer is the one by the switches, and there is no other. Main laws: `driven_exact`, `driven_unique`; `no_ring`.
use Prim.Native.Nat.{ℕ, zero, suc, ◌≤◌, ◌<◌}
use mathlib.Core.Path.{◌≡◌, refl, sym, ◌∙◌, ap}
use mathlib.Core.Bool.{true}
use mathlib.Core.Logic.{inl, inr, ⊎_elim, ◌↔◌}
use mathlib.Core.List.{List}
use native.Mathlib.Omega.{arith}
use native.Mathlib.Nat.{le_antisymm}
use lib.ListN.{length, get_or}
use Rattle.lists.specs.Tables.{zeros}
use Rattle.lists.proofs.CaseLaws.{clash, lt_or_le}
use Rattle.lists.proofs.SearchLaws.{first_true, first_before}
use Rattle.ports.specs.declared.size.Block.{Block}
use Rattle.ports.specs.Lengths.{ports}
use Rattle.fabric.specs.Wire.{wire_of}
use Rattle.netlist.specs.Marks.{listed}
use Rattle.equations.specs.declared.drives.Drive.{Drive}
use Rattle.equations.specs.declared.drives.Drive.TheVariants.{Nothing, Low, High, CellOut, CellLout, CellCout, CarryMux}
use Rattle.equations.specs.Switches.{NoSwitch, NoContention, origin}
use Rattle.equations.specs.Equations.{NoLoop}
use Rattle.equations.specs.Drives.{drive_of}
use Rattle.equations.specs.Sources.{sources_of}
use Rattle.equations.specs.Routed.{Routed}
use Rattle.drivers.specs.declared.follow.Driver.{Driver}
use Rattle.drivers.specs.declared.follow.Driver.TheVariants.{Ring}
use Rattle.drivers.specs.declared.follow.Trace.{Trace}
use Rattle.drivers.specs.declared.follow.Trace.TheVariants.{End, Again}
use Rattle.drivers.specs.Following.{Bounded, Leads, Comes, DrivenBy, at_end_lem, in_ring, end_driver, traced, traced_marks, ring_lowest, trace_driver, driver_of}
use Rattle.drivers.proofs.WalkLaws.{Goes, Gets, goes_gets, gets_goes, gets_gets, gets_linear, ring_back, ring_goes_on, ring_or_end, end_unique}
use Rattle.drivers.proofs.Walking.{Walked, walk_whole}
use Rattle.drivers.proofs.LeadLaws.{leads_depends, sources_length, source_ends, sources_bounded, goes_leads, gets_comes, gets_own, ends_source, leads_goes, comes_gets}
use Rattle.drivers.proofs.StandingLaws.{stands_at, stands_drive}

-- ---- the lowest place of a ring of the map

-- r is the lowest place of a ring that the walk from w runs into
pub record InRing (s : List ℕ) (w r : ℕ) : Type 0 where
  pub came : Gets s w r
  pub ring : Goes s r r
  pub least : (v : ℕ) → Goes s r v → r ≤ v

module _ (s : List ℕ) (fits : Bounded s) where
  -- the marks of a walk from a place of a ring are the ring
  ring_marks : (u : ℕ) → u < length s → Goes s u u → (v : ℕ) → (listed (traced_marks s (suc (length s)) (zeros (length s)) u) v ≡ true) ↔ Gets s u v
  ring_marks u l ring v = go (traced s (suc (length s)) (zeros (length s)) u) (walk_whole s fits u l)
    where
      go : (r : Trace) → Walked s u (traced_marks s (suc (length s)) (zeros (length s)) u) r
          → (listed (traced_marks s (suc (length s)) (zeros (length s)) u) v ≡ true) ↔ Gets s u v
      go (End x) h = absurd (ring_goes_on s ring h.0 h.1)
      go (Again x) h = (h.2 v, h.3 v)

  pub ring_lowest_lem : {w u : ℕ} → u < length s → Gets s w u → Goes s u u → InRing s w (ring_lowest s u)
  ring_lowest_lem {w} {u} l came ring =
      let low = ring_lowest s u in
      let under : (v : ℕ) → Gets s u v → low ≤ v = λ v g.
      ⊎_elim (λ (k : v < low). clash ((ring_marks u l ring v).1 g) (first_before (listed (traced_marks s (suc (length s)) (zeros (length s)) u)) 0 (length s) v (omega arith) k))
      (λ k. k) (lt_or_le v low) in
      let on_ring : Gets s u low = (ring_marks u l ring low).0
      (first_true (listed (traced_marks s (suc (length s)) (zeros (length s)) u)) 0 (length s) (let a = under u (inl refl) in omega arith)) in
      record {
        came = gets_gets s came on_ring;
        ring = goes_gets s (ring_back s ring on_ring) on_ring;
        least = λ v g. under v (inr (gets_goes s on_ring g));
      }

-- two rings that one walk runs into are one
ring_unique : (s : List ℕ) {w a b : ℕ} → InRing s w a → InRing s w b → a ≡ b
ring_unique s {w} {a} {b} p q = le_antisymm (p.least b both.0) (q.least a both.1)
  where
    both : Goes s a b × Goes s b a
    both =
        ⊎_elim
        (λ h. let g = ring_back s p.ring h in (goes_gets s p.ring h, g))
        (λ h. let g = ring_back s q.ring h in (g, goes_gets s q.ring h)) (gets_linear s p.came q.came)

end_no_ring : (v : ℕ) (d : Drive) (u : ℕ) → end_driver v d ≡ Ring u → ⊥
end_no_ring v Nothing u e = let z : ◌≡◌ {A = ℕ} 0 1 = cc in omega arith
end_no_ring v Low u e = let z : ◌≡◌ {A = ℕ} 0 1 = cc in omega arith
end_no_ring v High u e = let z : ◌≡◌ {A = ℕ} 0 1 = cc in omega arith
end_no_ring v (CellOut T i) u e = let z : ◌≡◌ {A = ℕ} 0 1 = cc in omega arith
end_no_ring v (CellLout T i) u e = let z : ◌≡◌ {A = ℕ} 0 1 = cc in omega arith
end_no_ring v (CellCout T i) u e = let z : ◌≡◌ {A = ℕ} 0 1 = cc in omega arith
end_no_ring v (CarryMux T) u e = let z : ◌≡◌ {A = ℕ} 0 1 = cc in omega arith

module _ (B : Block) (t st : List ℕ) (ok : Routed B t st) (free : NoContention B t st) where
  abbrev sources : List ℕ
  sources = sources_of B t st

  ends_free : (u : ℕ) → get_or sources u 0 ≡ 0 → NoSwitch B t st u
  ends_free u z s h = let q : suc (origin B t st s) ≡ 0 = sym (ends_source B t st ok free s u h) ∙ z in absurd (omega arith)

  -- "Following a driver from a tile's port ends at an open wire, a constant, a cell, or reports a ring."
  pub driven_exact : (w : ℕ) → w < ports B → wire_of B w ≡ w → DrivenBy B t st w (driver_of B sources w)
  unfolding driver_of
  driven_exact w l own =
      go (traced sources (suc (length sources)) (zeros (length sources)) w) (walk_whole sources fits w (let n = sources_length B t st in omega arith))
    where
      fits : Bounded sources
      fits = sources_bounded B t st ok

      go : (r : Trace) → Walked sources w (traced_marks sources (suc (length sources)) (zeros (length sources)) w) r → DrivenBy B t st w (trace_driver B sources r)
      go (End u) h =
          at_end_lem u _ (gets_comes B t st h.0) (ends_free u h.1)
          (stands_at B t st u (let n = sources_length B t st in let k = h.2 in omega arith) (gets_own B t st ok own h.0) (ends_free u h.1))
      go (Again u) h =
          let r = ring_lowest_lem sources fits h.4 h.0 h.1 in
          in_ring _ (gets_comes B t st r.came) (goes_leads B t st r.ring) (λ v g. r.least v (leads_goes B t st ok free g))

  source_none : (u : ℕ) → NoSwitch B t st u → get_or sources u 0 ≡ 0
  source_none u none = go (get_or sources u 0) refl
    where
      go : (n : ℕ) → get_or sources u 0 ≡ n → n ≡ 0
      go zero e = refl
      go (suc d) e = let f = source_ends B t st u d e in absurd (none f.0 f.1)

  abbrev gets : {w u : ℕ} → Comes B t st w u → Gets sources w u
  gets came = comes_gets B t st ok free came

  in_ring_of : {w u : ℕ} → Comes B t st w u → Leads B t st u u → ((v : ℕ) → Leads B t st u v → u ≤ v) → InRing sources w u
  in_ring_of came ring least =
      record { came = gets came; ring = leads_goes B t st ok free ring; least = λ v g. least v (goes_leads B t st g) }

  -- it ends in one way
  pub driven_unique : {w : ℕ} {a b : Driver} → DrivenBy B t st w a → DrivenBy B t st w b → a ≡ b
  driven_unique (at_end_lem u d came none at) (at_end_lem v e also stop there) =
      let same : u ≡ v = end_unique sources (gets came) (source_none u none) (gets also) (source_none v stop) in
      stands_drive B t st at ∙ ap (λ (x : ℕ). end_driver x (drive_of B x)) same ∙ sym (stands_drive B t st there)
  driven_unique (at_end_lem u d came none at) (in_ring v also ring least) =
      absurd (ring_or_end sources (gets also) (leads_goes B t st ok free ring) (gets came) (source_none u none))
  driven_unique (in_ring u came ring least) (at_end_lem v e also stop there) =
      absurd (ring_or_end sources (gets came) (leads_goes B t st ok free ring) (gets also) (source_none v stop))
  driven_unique (in_ring u came ring least) (in_ring v also back lowest) =
      ap Ring (ring_unique sources (in_ring_of came ring least) (in_ring_of also back lowest))

  -- without a loop it reports no ring
  pub no_ring : NoLoop B t st → {w : ℕ} {d : Driver} → DrivenBy B t st w d → (u : ℕ) → d ≡ Ring u → ⊥
  no_ring straight (at_end_lem v d came none at) u e = end_no_ring v (drive_of B v) u (sym (stands_drive B t st at) ∙ e)
  no_ring straight (in_ring v came ring least) u e = straight v (leads_depends B t st ring)
