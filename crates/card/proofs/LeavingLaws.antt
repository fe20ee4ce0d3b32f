-- The computed marks of the leaving wires are those of LeavingWire. Main laws: `leaving_exact`, `leaving_length`. Assumes nothing.
use Prim.Native.Nat.{ℕ, zero, suc, ◌+◌, ◌*◌, ◌/◌, ◌%◌, ◌≤◌, ◌<◌}
use mathlib.Core.Path.{◌≡◌, sym, ap, subst, ◌∙◌}
use mathlib.Core.Bool.{true}
use mathlib.Core.Logic.{◌⊎◌, inl, inr, ⊎_elim, ◌↔◌}
use mathlib.Core.List.{List}
use native.Mathlib.Omega.{arith}
use native.Mathlib.Nat.{mul-le-mul_right, div-add-mod', mod-lt, div-lt_iff_lt-mul, eq-or-lt_of_le, le_of_suc-le-suc}
use borrow.Author.Tests.{eqb-true, eq-eqb, lt-ltb, le-ltb}
use lib.Arith.{digits_div, digits_mod}
use lib.Dec.{eqb}
use lib.ListN.{length, get_or}
use Rattle.lists.specs.Tables.{zeros}
use Rattle.lists.proofs.CaseLaws.{clash, lt_or_le}
use Rattle.lists.proofs.TableLaws.{zeros_length, tabulate_zero, tabulate_length}
use Rattle.ports.specs.declared.size.Block.{Block}
use Rattle.ports.specs.Block.{Sized, tiles, port_of}
use Rattle.ports.specs.Lengths.{ports}
use Rattle.fabric.specs.Joins.{Outside}
use Rattle.fabric.specs.Wire.{wire_of}
use Rattle.netlist.specs.Marks.{listed}
use Rattle.netlist.proofs.MarkLaws.{listed_true, listed_false, listed_lt, zeros_unlisted}
use Rattle.equations.specs.Switches.{switches, origin, Ends}
use Rattle.equations.specs.Routed.{Routed}
use Rattle.equations.specs.WireRows.{driver}
use Rattle.equations.specs.Sources.{source_in, sources_of}
use Rattle.equations.proofs.SwitchLaws.{driver_ends, driver_none, target_lt}
use Rattle.card.specs.Leaving.{Fails, sp4_h_east, sp4_h_west, sp4_v_south, sp4_v_north, sp4_right_east, sp4_right_west, sp12_h_east, sp12_h_west, sp12_v_south, sp12_v_north, GoesOut, LeavingWire}
use Rattle.card.specs.Marks.{mark_ports, west_marks, east_marks, south_marks, north_marks, tile_marks, exit_marks, leaving_marks}
use Rattle.card.proofs.MarkingLaws.{Marked, marked_none, marked_both, marked_as, marked_if, PortsOf, ports_marked, kept_only, kept_all, kept_length}

-- ---- which side a tile outside is on

module _ (B : Block) (x y : ℕ) where
  west_out : x ≡ 0 → Outside B x (y + 1)
  west_out e a b c d = absurd (omega arith)

  east_out : x + 1 ≡ B.w → Outside B (x + 2) (y + 1)
  east_out e a b c d = absurd (omega arith)

  south_out : y ≡ 0 → Outside B (x + 1) y
  south_out e a b c d = absurd (omega arith)

  north_out : y + 1 ≡ B.h → Outside B (x + 1) (y + 2)
  north_out e a b c d = absurd (omega arith)

  module _ (lx : x < B.w) (ly : y < B.h) where
    out_west : Outside B x (y + 1) → x ≡ 0
    out_west o = ⊎_elim (λ (l : 0 < x). absurd (o (omega arith) (omega arith) (omega arith) (omega arith))) (λ (l : x ≤ 0). omega arith) (lt_or_le 0 x)

    out_east : Outside B (x + 2) (y + 1) → x + 1 ≡ B.w
    out_east o =
        ⊎_elim (λ (l : x + 1 < B.w). absurd (o (omega arith) (omega arith) (omega arith) (omega arith))) (λ (l : B.w ≤ x + 1). omega arith) (lt_or_le (x + 1) B.w)

    out_south : Outside B (x + 1) y → y ≡ 0
    out_south o = ⊎_elim (λ (l : 0 < y). absurd (o (omega arith) (omega arith) (omega arith) (omega arith))) (λ (l : y ≤ 0). omega arith) (lt_or_le 0 y)

    out_north : Outside B (x + 1) (y + 2) → y + 1 ≡ B.h
    out_north o =
        ⊎_elim (λ (l : y + 1 < B.h). absurd (o (omega arith) (omega arith) (omega arith) (omega arith))) (λ (l : B.h ≤ y + 1). omega arith) (lt_or_le (y + 1) B.h)

-- ---- the ports of a tile that go out

module _ (B : Block) (T : ℕ) where
  abbrev x : ℕ
  x = T % B.w

  abbrev y : ℕ
  y = T / B.w

  -- wire w has a port of tile T that goes out
  abbrev pub TileOut : ℕ → Type 0
  TileOut w = (q : ℕ) × Fails B (T % B.w) (T / B.w) q × (wire_of B (port_of T q) ≡ w)

  abbrev West : ℕ → Type 0
  West w = (eqb (T % B.w) 0 ≡ true) × ((PortsOf B T 0 48 w ⊎ PortsOf B T 144 48 w) ⊎ PortsOf B T 240 24 w)

  abbrev East : ℕ → Type 0
  East w = (eqb (T % B.w + 1) B.w ≡ true) × ((PortsOf B T 48 48 w ⊎ PortsOf B T 192 48 w) ⊎ PortsOf B T 264 24 w)

  abbrev South : ℕ → Type 0
  South w = (eqb (T / B.w) 0 ≡ true) × (PortsOf B T 144 48 w ⊎ PortsOf B T 312 24 w)

  abbrev North : ℕ → Type 0
  North w = (eqb (T / B.w + 1) B.h ≡ true) × (PortsOf B T 96 48 w ⊎ PortsOf B T 288 24 w)

  module _ (l : T < tiles B) (m : List ℕ) (e : length m ≡ ports B) where
    west_marked : Marked West m (west_marks B T m)
    unfolding west_marks
    west_marked =
        let a = ports_marked B T 0 48 m l (omega arith) e in
        let b = ports_marked B T 144 48 (mark_ports B T 0 48 m) l (omega arith) (a.long ∙ e) in
        let c = ports_marked B T 240 24 _ l (omega arith) (b.long ∙ a.long ∙ e) in
        marked_if (eqb (T % B.w) 0) (marked_both (marked_both a b) c)

    east_marked : Marked East m (east_marks B T m)
    unfolding east_marks
    east_marked =
        let a = ports_marked B T 48 48 m l (omega arith) e in
        let b = ports_marked B T 192 48 (mark_ports B T 48 48 m) l (omega arith) (a.long ∙ e) in
        let c = ports_marked B T 264 24 _ l (omega arith) (b.long ∙ a.long ∙ e) in
        marked_if (eqb (T % B.w + 1) B.w) (marked_both (marked_both a b) c)

    south_marked : Marked South m (south_marks B T m)
    unfolding south_marks
    south_marked =
        let a = ports_marked B T 144 48 m l (omega arith) e in
        let b = ports_marked B T 312 24 _ l (omega arith) (a.long ∙ e) in
        marked_if (eqb (T / B.w) 0) (marked_both a b)

    north_marked : Marked North m (north_marks B T m)
    unfolding north_marks
    north_marked =
        let a = ports_marked B T 96 48 m l (omega arith) e in
        let b = ports_marked B T 288 24 _ l (omega arith) (a.long ∙ e) in
        marked_if (eqb (T / B.w + 1) B.h) (marked_both a b)

  abbrev Sides : ℕ → Type 0
  Sides w = ((West w ⊎ East w) ⊎ South w) ⊎ North w

  west_there : (w : ℕ) → West w → TileOut w
  west_there w (t, inl (inl (k, h, q))) = (_, sp4_h_west k h (west_out B x y (eqb-true x 0 t)), q)
  west_there w (t, inl (inr (k, h, q))) = (_, sp4_right_west k h (west_out B x y (eqb-true x 0 t)), q)
  west_there w (t, inr (k, h, q)) = (_, sp12_h_west k h (west_out B x y (eqb-true x 0 t)), q)

  east_there : (w : ℕ) → East w → TileOut w
  east_there w (t, inl (inl (k, h, q))) = (_, sp4_h_east k h (east_out B x y (eqb-true (x + 1) B.w t)), q)
  east_there w (t, inl (inr (k, h, q))) = (_, sp4_right_east k h (east_out B x y (eqb-true (x + 1) B.w t)), q)
  east_there w (t, inr (k, h, q)) = (_, sp12_h_east k h (east_out B x y (eqb-true (x + 1) B.w t)), q)

  south_there : (w : ℕ) → South w → TileOut w
  south_there w (t, inl (k, h, q)) = (_, sp4_v_south k h (south_out B x y (eqb-true y 0 t)), q)
  south_there w (t, inr (k, h, q)) = (_, sp12_v_south k h (south_out B x y (eqb-true y 0 t)), q)

  north_there : (w : ℕ) → North w → TileOut w
  north_there w (t, inl (k, h, q)) = (_, sp4_v_north k h (north_out B x y (eqb-true (y + 1) B.h t)), q)
  north_there w (t, inr (k, h, q)) = (_, sp12_v_north k h (north_out B x y (eqb-true (y + 1) B.h t)), q)

  sides_there : (w : ℕ) → Sides w → TileOut w
  sides_there w (inl (inl (inl p))) = west_there w p
  sides_there w (inl (inl (inr p))) = east_there w p
  sides_there w (inl (inr p)) = south_there w p
  sides_there w (inr p) = north_there w p

  module _ (lx : T % B.w < B.w) (ly : T / B.w < B.h) where
    sides_back : (w q : ℕ) → Fails B (T % B.w) (T / B.w) q → wire_of B (port_of T q) ≡ w → Sides w
    sides_back w q (sp4_h_east k h o) e = inl (inl (inr (eq-eqb (x + 1) B.w (out_east B x y lx ly o), inl (inl (k, h, e)))))
    sides_back w q (sp4_h_west k h o) e = inl (inl (inl (eq-eqb x 0 (out_west B x y lx ly o), inl (inl (k, h, e)))))
    sides_back w q (sp4_v_south k h o) e = inl (inr (eq-eqb y 0 (out_south B x y lx ly o), inl (k, h, e)))
    sides_back w q (sp4_v_north k h o) e = inr (eq-eqb (y + 1) B.h (out_north B x y lx ly o), inl (k, h, e))
    sides_back w q (sp4_right_east k h o) e = inl (inl (inr (eq-eqb (x + 1) B.w (out_east B x y lx ly o), inl (inr (k, h, e)))))
    sides_back w q (sp4_right_west k h o) e = inl (inl (inl (eq-eqb x 0 (out_west B x y lx ly o), inl (inr (k, h, e)))))
    sides_back w q (sp12_h_east k h o) e = inl (inl (inr (eq-eqb (x + 1) B.w (out_east B x y lx ly o), inr (k, h, e))))
    sides_back w q (sp12_h_west k h o) e = inl (inl (inl (eq-eqb x 0 (out_west B x y lx ly o), inr (k, h, e))))
    sides_back w q (sp12_v_south k h o) e = inl (inr (eq-eqb y 0 (out_south B x y lx ly o), inr (k, h, e)))
    sides_back w q (sp12_v_north k h o) e = inr (eq-eqb (y + 1) B.h (out_north B x y lx ly o), inr (k, h, e))

    tile_marked : T < tiles B → (m : List ℕ) → length m ≡ ports B → Marked TileOut m (tile_marks B T m)
    tile_marked l m e =
        let a = west_marked l m e in
        let b = east_marked l _ (a.long ∙ e) in
        let c = south_marked l _ (b.long ∙ a.long ∙ e) in
        let d = north_marked l _ (c.long ∙ b.long ∙ a.long ∙ e) in
        marked_as sides_there (λ w p. sides_back w p.0 p.1 p.2) (marked_both (marked_both (marked_both a b) c) d)

-- ---- all tiles

module _ (B : Block) (S : Sized B) where
  some : 0 < B.w
  some = S.w_some

  column_lt : (T : ℕ) → T % B.w < B.w
  column_lt T = mod-lt T some

  row_lt : (T : ℕ) → T < tiles B → T / B.w < B.h
  row_lt T l = (div-lt_iff_lt-mul some).1 l

  abbrev OutBelow : ℕ → ℕ → Type 0
  OutBelow n w = (T : ℕ) × (T < n) × TileOut B T w

  exits_marked : (n : ℕ) (m : List ℕ) → n ≤ tiles B → length m ≡ ports B → Marked (OutBelow n) m (exit_marks B n m)
  unfolding exit_marks
  exits_marked zero m l e = marked_none {P = OutBelow zero} m (λ w p. let z = p.1 in absurd (omega arith))
  exits_marked (suc n) m l e =
      let M = exits_marked n m (omega arith) e in
      let N = tile_marked B n (column_lt n) (row_lt n l) l (exit_marks B n m) (M.long ∙ e) in
      marked_as
      (λ w p. ⊎_elim (λ (r : OutBelow n w). let z = r.1 in (r.0, omega arith, r.2)) (λ (q : TileOut B n w). (n, omega arith, q)) p)
      (λ w p.
      ⊎_elim (λ (q : p.0 ≡ n). inr (subst (λ (T : ℕ). TileOut B T w) q p.2)) (λ (z : p.0 < n). inl (p.0, z, p.2))
      (eq-or-lt_of_le (le_of_suc-le-suc p.1)))
      (marked_both M N)

  out_goes : (w : ℕ) → OutBelow (tiles B) w → GoesOut B w
  out_goes w (T, l, (q, f, e)) = record {
    x = T % B.w;
    y = T / B.w;
    q = q;
    x_within = column_lt T;
    y_within = row_lt T l;
    fails = f;
    at = ap (λ (s : ℕ). wire_of B (port_of s q)) (div-add-mod' T B.w) ∙ e;
  }

  goes_out : (w : ℕ) → GoesOut B w → OutBelow (tiles B) w
  goes_out w G =
      let X = G.x in
      let Y = G.y in
      let lx = G.x_within in
      let m = mul-le-mul_right B.w G.y_within in (
        G.y * B.w + G.x,
        omega arith,
        (G.q, rw (digits_mod G.y {m = B.w} {r = G.x} lx, digits_div G.y {m = B.w} {r = G.x} lx) G.fails, G.at),
      )

  abbrev exits : List ℕ
  exits = exit_marks B (tiles B) (zeros (ports B))

  exits_all : Marked (OutBelow (tiles B)) (zeros (ports B)) (exit_marks B (tiles B) (zeros (ports B)))
  exits_all = exits_marked (tiles B) (zeros (ports B)) (omega arith) (zeros_length (ports B))

  pub exits_length : length (exit_marks B (tiles B) (zeros (ports B))) ≡ ports B
  exits_length = exits_all.long ∙ zeros_length (ports B)

  exit_exact : (w : ℕ) → (listed (exit_marks B (tiles B) (zeros (ports B))) w ≡ true) ↔ GoesOut B w
  exit_exact w = (
    λ h. ⊎_elim (λ z. clash z (zeros_unlisted (ports B) w)) (out_goes w) (exits_all.only w h),
    λ G. exits_all.all w (goes_out w G),
  )

-- ---- a switch ends where the map of sources has one

module _ (B : Block) (t st : List ℕ) where
  pub sources_length : length (sources_of B t st) ≡ ports B
  unfolding sources_of
  sources_length = tabulate_length (source_in B t st (switches B)) 0 (ports B)

  source_at_lem : (w : ℕ) → w < ports B → get_or (sources_of B t st) w 0 ≡ source_in B t st (switches B) w
  unfolding sources_of
  source_at_lem w l = tabulate_zero (source_in B t st (switches B)) 0 (ports B) w l

  sourced_ends : (w : ℕ) → w < ports B → listed (sources_of B t st) w ≡ true → (s : ℕ) × Ends B t st s w
  unfolding source_in
  sourced_ends w l h =
      ⊎_elim (λ (d : driver B t st w < switches B). (driver B t st w, driver_ends B t st w d))
      (λ (d : switches B ≤ driver B t st w). clash h (listed_false (sources_of B t st) w (source_at_lem w l ∙ rw (le-ltb (driver B t st w) (switches B) d))))
      (lt_or_le (driver B t st w) (switches B))

  ends_sourced : (w : ℕ) → w < ports B → (s : ℕ) → Ends B t st s w → listed (sources_of B t st) w ≡ true
  unfolding source_in
  ends_sourced w l s E =
      ⊎_elim
      (λ (d : driver B t st w < switches B).
      listed_true (sources_of B t st) w
      (λ z.
      let k = sym (source_at_lem w l ∙ rw (lt-ltb (driver B t st w) (switches B) d)) ∙ z in
      let c : origin B t st (driver B t st w) + 1 ≡ 0 = k in
      absurd (omega arith)))
      (λ (d : switches B ≤ driver B t st w). absurd (driver_none B t st w d s E)) (lt_or_le (driver B t st w) (switches B))

  pub leaving_length : Sized B → length (leaving_marks B t st) ≡ ports B
  unfolding leaving_marks
  leaving_length S = kept_length (listed (sources_of B t st)) _ _ ∙ exits_length B S

  module _ (ok : Routed B t st) where
    pub leaving_exact : (w : ℕ) → (listed (leaving_marks B t st) w ≡ true) ↔ LeavingWire B t st w
    unfolding leaving_marks
    leaving_exact w = (there, back)
      where
        S : Sized B
        S = ok.size

        there : listed (leaving_marks B t st) w ≡ true → LeavingWire B t st w
        there h =
            let k = kept_only (listed (sources_of B t st)) (length (exit_marks B (tiles B) (zeros (ports B)))) (exit_marks B (tiles B) (zeros (ports B))) w h in
            let l = listed_lt (exit_marks B (tiles B) (zeros (ports B))) w k.0 in
            let s = sourced_ends w (rw (exits_length B S) at l) (k.1 l) in
            record { goes_out = (exit_exact B S w).0 k.0; switch = s.0; ends = s.1 }

        back : LeavingWire B t st w → listed (leaving_marks B t st) w ≡ true
        back L =
            let E = L.ends in
            let l : w < ports B = subst (λ (v : ℕ). v < ports B) E.onto (target_lt B t st ok L.switch E.within E.on) in
            kept_all (listed (sources_of B t st)) (length (exit_marks B (tiles B) (zeros (ports B)))) (exit_marks B (tiles B) (zeros (ports B))) w
            ((exit_exact B S w).1 L.goes_out) (ends_sourced w l L.switch E)
