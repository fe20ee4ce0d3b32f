-- The two ends of an enabled switch, the search for the switch that drives a wire, and that none ends where a cell does. Main laws:
-- `driver_ends`, `driver_none`, `driver_is`, `cell_free`.
use Prim.Native.Nat.{ℕ, ◌-◌, ◌%◌, ◌≤◌, ◌<◌}
use mathlib.Core.Path.{◌≡◌, refl, sym, ◌∙◌, ap}
use mathlib.Core.Bool.{true, false}
use mathlib.Core.Logic.{inr, ⊎_elim, ◌≢◌}
use mathlib.Core.List.{List}
use native.Mathlib.Omega.{arith}
use lib.Dec.{ltb}
use borrow.Author.Tests.{eq-eqb, eqb-true, eqb-false, ltb-true, le-ltb, not-true}
use Rattle.lists.proofs.CaseLaws.{clash, lt_or_le, eq_or_ne, and_left, and_right, and_true}
use Rattle.lists.proofs.SearchLaws.{first_true, first_before}
use Rattle.ports.specs.declared.size.Block.{Block}
use Rattle.ports.specs.Block.{tiles, port_of}
use Rattle.ports.specs.Lengths.{ports, ports_per_tile}
use Rattle.fabric.specs.Wire.{wire_of}
use Rattle.ports.proofs.BlockLaws.{port_of_lt}
use Rattle.fabric.proofs.WireLaws.{wire_within, wire_idempotent}
use Rattle.routing.specs.LogicTile.{logic_tile, is_destination, is_source}
use Rattle.routing.specs.Table.{group_count, destination_of, source_at}
use Rattle.equations.specs.declared.drives.Drive.{Drive}
use Rattle.equations.specs.Tiles.{group_of}
use Rattle.equations.specs.Switches.{tile_of, group_in, switches, enabled, target, origin, Ends, NoSwitch, NoContention}
use Rattle.equations.specs.Routed.{Routed}
use Rattle.equations.specs.Drives.{drive_of}
use Rattle.equations.specs.WireRows.{ends_on, driver}
use Rattle.equations.proofs.DriveLaws.{drive_wire}
use Rattle.equations.proofs.PortKindLaws.{no_destination}
use Rattle.equations.proofs.RoleLaws.{role_all, of_cell, role_no_end}

-- ---- destinations and sources are ports of a tile

destination_lt : (q : ℕ) → is_destination q ≡ true → q < ports_per_tile
destination_lt q e =
    ⊎_elim (λ l. l) (λ (l : ports_per_tile ≤ q). clash e (no_destination q (omega arith) (inr (omega arith)))) (lt_or_le q ports_per_tile)

source_lt : (q : ℕ) → is_source q ≡ true → q < ports_per_tile
unfolding is_source
source_lt q e =
    ⊎_elim (λ l. l)
    (λ (l : ports_per_tile ≤ q). clash {b = false} (rw (le-ltb q 372 (omega arith), le-ltb q ports_per_tile l) at e) refl) (lt_or_le q ports_per_tile)

-- ---- an enabled switch

module _ (B : Block) (t st : List ℕ) where
  -- the table has its group, and the group is at an entry
  pub enabled_group : (s : ℕ) → enabled B t st s ≡ true → group_in s < group_count logic_tile t
  unfolding enabled
  enabled_group s e = ltb-true _ _ (and_left (ltb (group_in s) (group_count logic_tile t)) _ e)

  pub enabled_on : (s : ℕ) → enabled B t st s ≡ true → group_of st (tile_of s) (group_in s) ≢ 0
  unfolding enabled
  enabled_on s e = eqb-false _ _ (not-true _ (and_right (ltb (group_in s) (group_count logic_tile t)) _ e))

  pub switch_tile : (s : ℕ) → s < switches B → tile_of s < tiles B
  switch_tile s l = omega arith

  -- `ends_on` is the test of `Ends`
  pub ends_of : (w s : ℕ) → s < switches B → ends_on B t st w s ≡ true → Ends B t st s w
  unfolding ends_on
  ends_of w s l e = record { within = l; on = and_left (enabled B t st s) _ e; onto = eqb-true _ _ (and_right (enabled B t st s) _ e) }

  pub ends_on_true : (w s : ℕ) → Ends B t st s w → ends_on B t st w s ≡ true
  unfolding ends_on
  ends_on_true w s h = and_true h.on (eq-eqb _ _ h.onto)

  -- ---- the search for a switch that ends on w

  module _ (w : ℕ) where
    pub driver_ends : driver B t st w < switches B → Ends B t st (driver B t st w) w
    driver_ends l = ends_of w _ l (first_true (ends_on B t st w) 0 (switches B) (omega arith))

    driver_before : (s : ℕ) → s < driver B t st w → ends_on B t st w s ≡ false
    driver_before s l = first_before (ends_on B t st w) 0 (switches B) s (omega arith) l

    pub driver_none : switches B ≤ driver B t st w → NoSwitch B t st w
    driver_none l s h = let i = h.within in clash (ends_on_true w s h) (driver_before s (omega arith))

    pub no_driver : NoSwitch B t st w → switches B ≤ driver B t st w
    no_driver h = ⊎_elim (λ (l : driver B t st w < switches B). absurd (h _ (driver_ends l))) (λ l. l) (lt_or_le (driver B t st w) (switches B))

    -- without contention there is one only
    pub driver_is : NoContention B t st → (s : ℕ) → Ends B t st s w → driver B t st w ≡ s
    driver_is free s h =
        let i = h.within in
        ⊎_elim (λ (l : s < driver B t st w). clash (ends_on_true w s h) (driver_before s l))
        (λ (l : driver B t st w ≤ s).
        ⊎_elim (λ e. e) (λ ne. absurd (free w (driver B t st w, s, driver_ends (omega arith), h, ne))) (eq_or_ne (driver B t st w) s))
        (lt_or_le s (driver B t st w))

  -- ---- its two ends are wires of the block

  module _ (ok : Routed B t st) where
    module _ (s : ℕ) (l : s < switches B) (e : enabled B t st s ≡ true) where
      pub switch_destination : is_destination (destination_of logic_tile t (group_in s)) ≡ true
      switch_destination = ok.destinations (group_in s) (enabled_group s e)

      pub target_port : port_of (tile_of s) (destination_of logic_tile t (group_in s)) < ports B
      target_port = port_of_lt B (tile_of s) _ (switch_tile s l) (destination_lt _ switch_destination)

      pub origin_port : port_of (tile_of s) (source_at logic_tile t (group_in s) (group_of st (tile_of s) (group_in s) - 1)) < ports B
      origin_port =
          let g = enabled_group s e in
          let on = enabled_on s e in
          let u = ok.entries (tile_of s) (group_in s) (switch_tile s l) g in
          port_of_lt B (tile_of s) _ (switch_tile s l) (source_lt _ (ok.sources (group_in s) (group_of st (tile_of s) (group_in s) - 1) g (omega arith)))

      pub target_lt : target B t s < ports B
      unfolding target
      target_lt = wire_within B _ target_port

      pub target_own : wire_of B (target B t s) ≡ target B t s
      unfolding target
      target_own = wire_idempotent B _ target_port

      pub origin_lt : origin B t st s < ports B
      unfolding origin
      origin_lt = wire_within B _ origin_port

    -- ---- no switch ends where a cell does

    pub cell_free : (p : ℕ) (d : Drive) → p < ports B → drive_of B p ≡ d → of_cell d ≡ true → NoSwitch B t st (wire_of B p)
    unfolding target
    cell_free p d l e c s h =
        let q = destination_of logic_tile t (group_in s) in
        let k = target_port s h.within h.on in
        let lq = destination_lt _ (switch_destination s h.within h.on) in
        let m : port_of (tile_of s) (destination_of logic_tile t (group_in s)) % ports_per_tile ≡ destination_of logic_tile t (group_in s) = omega arith in
        let same : drive_of B (port_of (tile_of s) q) ≡ d = sym (drive_wire B _ k) ∙ ap (drive_of B) h.onto ∙ drive_wire B p l ∙ e in
        clash (switch_destination s h.within h.on) (role_no_end B _ q d c (rw (m, same) at (role_all B (port_of (tile_of s) q) k)))
