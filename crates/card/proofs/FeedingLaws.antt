-- The computed marks of the feeding wires are those of FeedingWire. Main laws: `feeding_exact`, `feeding_length`. Assumes nothing.
use Prim.Native.Nat.{ℕ, zero, suc, ◌+◌, ◌*◌, ◌/◌, ◌%◌, ◌≤◌, ◌<◌}
use mathlib.Core.Path.{◌≡◌, refl, sym, ap, subst, ◌∙◌}
use mathlib.Core.Bool.{true}
use mathlib.Core.Logic.{◌⊎◌, inl, inr, ⊎_elim, ◌↔◌}
use mathlib.Core.List.{List}
use native.Mathlib.Omega.{arith}
use native.Mathlib.Nat.{eq-or-lt_of_le, le_of_suc-le-suc}
use borrow.Author.Tests.{eqb-true, eq-eqb, ne_eqb}
use lib.Dec.{eqb}
use lib.ListN.{length}
use Rattle.ports.specs.declared.size.Block.{Block}
use Rattle.ports.specs.Block.{Sized, tiles, port_of}
use Rattle.ports.specs.Lengths.{ports}
use Rattle.ports.specs.PortIndex.{in_port, clk, cen, s_r}
use Rattle.ports.proofs.BlockLaws.{port_of_lt}
use Rattle.fabric.specs.Wire.{wire_of}
use Rattle.fabric.specs.Count.{wires}
use Rattle.fabric.proofs.WireLaws.{wire_within, wire_idempotent}
use Rattle.netlist.specs.declared.row.Row.{Row}
use Rattle.netlist.specs.Kinds.{lent_kind}
use Rattle.netlist.specs.Marks.{listed}
use Rattle.netlist.specs.Order.{order, AllListed}
use Rattle.netlist.proofs.MarkLaws.{listed_lt}
use Rattle.equations.specs.declared.drives.Drive.TheVariants.{Nothing, Low, High}
use Rattle.equations.specs.Tiles.{flop_on}
use Rattle.equations.specs.Switches.{NoContention}
use Rattle.equations.specs.Routed.{Routed}
use Rattle.equations.specs.Equations.{OpenWire, in_port_lem, clk_port, s_r_port, NoLoop}
use Rattle.equations.specs.Drives.{drive_of}
use Rattle.equations.specs.WireRows.{row_of, wire_rows}
use Rattle.equations.specs.Sources.{row_from, sources_of}
use Rattle.equations.specs.Settling.{block_list}
use Rattle.equations.proofs.DriveLaws.{drive_wire, cen_drive, zero_drive}
use Rattle.equations.proofs.SwitchLaws.{target_lt, target_own}
use Rattle.equations.proofs.RowReasons.{row_says}
use Rattle.equations.proofs.WireRowLaws.{graph, row_is, own_wire_lem, wire_own, rows_named}
use Rattle.equations.proofs.ChainLaws.{rows_closed, depends_equation, equation_depends}
use Rattle.equations.proofs.LoopLaws.{loop_exact}
use Rattle.equations.proofs.SettlingLaws.{count_wires}
use Rattle.equations.proofs.SourceLaws.{row_from_sources}
use Rattle.equations.proofs.InfluenceLaws.{lent_open, open_nothing, open_row}
use Rattle.card.specs.Cells.{flop_cell}
use Rattle.card.specs.Feeding.{FlipFlopWire, in_wire_lem, clk_wire, cen_wire, s_r_wire, Shown, leaves, clocked, FeedingWire}
use Rattle.card.specs.Marks.{flop_mark, flop_marks, leaving_marks, reach, open_from, feeding_marks}
use Rattle.card.proofs.MarkingLaws.{Marked, marked_none, marked_both, marked_as, marked_if, PortsOf, ports_marked, kept_only, kept_all, kept_length}
use Rattle.card.proofs.ReachLaws.{Comes, reach_length, reach_exact}
use Rattle.card.proofs.LeavingLaws.{leaving_length, leaving_exact}

-- ---- the wires of flip-flops

module _ (B : Block) (st : List ℕ) where
  -- cell c is a flip-flop, and wire w one of its
  abbrev OfCell : ℕ → ℕ → Type 0
  OfCell c w = (flop_cell st c ≡ true) × (PortsOf B (c / 8) (372 + 4 * (c % 8)) 4 w ⊎ PortsOf B (c / 8) clk 3 w)

  flop_marked : (c : ℕ) (m : List ℕ) → c < 8 * tiles B → length m ≡ ports B → Marked (OfCell c) m (flop_mark B st c m)
  unfolding flop_mark
  flop_marked c m l e =
      let T : c / 8 < tiles B = omega arith in
      let a = ports_marked B (c / 8) (372 + 4 * (c % 8)) 4 m T (omega arith) e in
      let b = ports_marked B (c / 8) clk 3 _ T (omega arith) (a.long ∙ e) in
      marked_if (flop_cell st c) (marked_both a b)

  abbrev CellsBelow : ℕ → ℕ → Type 0
  CellsBelow n w = (c : ℕ) × (c < n) × OfCell c w

  flops_marked : (n : ℕ) (m : List ℕ) → n ≤ 8 * tiles B → length m ≡ ports B → Marked (CellsBelow n) m (flop_marks B st n m)
  unfolding flop_marks
  flops_marked zero m l e = marked_none {P = CellsBelow zero} m (λ w p. let z = p.1 in absurd (omega arith))
  flops_marked (suc n) m l e =
      let M = flops_marked n m (omega arith) e in
      let N = flop_marked n (flop_marks B st n m) l (M.long ∙ e) in
      marked_as
      (λ w p. ⊎_elim (λ (r : CellsBelow n w). let z = r.1 in (r.0, omega arith, r.2)) (λ (q : OfCell n w). (n, omega arith, q)) p)
      (λ w p.
      ⊎_elim (λ (q : p.0 ≡ n). inr (subst (λ (c : ℕ). OfCell c w) q p.2)) (λ (z : p.0 < n). inl (p.0, z, p.2))
      (eq-or-lt_of_le (le_of_suc-le-suc p.1)))
      (marked_both M N)

  -- the three ports of a tile from clk on
  tile_wire : (T i k w : ℕ) → T < tiles B → i < 8 → flop_on st T i ≡ true → k < 3 → wire_of B (port_of T (clk + k)) ≡ w → FlipFlopWire B st w
  tile_wire T i zero w l h f z e = subst (FlipFlopWire B st) e (clk_wire T i l h f)
  tile_wire T i (suc zero) w l h f z e = subst (FlipFlopWire B st) e (cen_wire T i l h f)
  tile_wire T i (suc (suc zero)) w l h f z e = subst (FlipFlopWire B st) e (s_r_wire T i l h f)
  tile_wire T i (suc (suc (suc k))) w l h f z e = absurd (omega arith)

  cell_there : (w : ℕ) → CellsBelow (8 * tiles B) w → FlipFlopWire B st w
  unfolding flop_cell
  cell_there w (c, l, (f, inl (j, h, e))) = subst (FlipFlopWire B st) e (in_wire_lem (c / 8) (c % 8) j (omega arith) (omega arith) h f)
  cell_there w (c, l, (f, inr (k, h, e))) = tile_wire (c / 8) (c % 8) k w (omega arith) (omega arith) f h e

  module _ (T i : ℕ) (l : T < tiles B) (h : i < 8) where
    abbrev c : ℕ
    c = 8 * T + i

    tile_is : c / 8 ≡ T
    tile_is = omega arith

    cell_is : c % 8 ≡ i
    cell_is = omega arith

    of_cell_lem : (w : ℕ) → flop_on st T i ≡ true → PortsOf B T (372 + 4 * i) 4 w ⊎ PortsOf B T clk 3 w → CellsBelow (8 * tiles B) w
    unfolding flop_cell
    of_cell_lem w f p = (8 * T + i, omega arith, (rw (tile_is, cell_is) f, rw (tile_is, cell_is) p))

  cell_back : (w : ℕ) → FlipFlopWire B st w → CellsBelow (8 * tiles B) w
  cell_back w (in_wire_lem T i j l h k f) = of_cell_lem T i l h w f (inl (j, k, refl))
  cell_back w (clk_wire T i l h f) = of_cell_lem T i l h w f (inr (0, omega arith, refl))
  cell_back w (cen_wire T i l h f) = of_cell_lem T i l h w f (inr (1, omega arith, refl))
  cell_back w (s_r_wire T i l h f) = of_cell_lem T i l h w f (inr (2, omega arith, refl))

  pub clocked_marked : (m : List ℕ) → length m ≡ ports B → Marked (FlipFlopWire B st) m (flop_marks B st (8 * tiles B) m)
  clocked_marked m e = marked_as cell_there cell_back (flops_marked (8 * tiles B) m (omega arith) e)

  -- what is said of the wire of one of a flip-flop's ports
  clocked_port : {w : ℕ} → FlipFlopWire B st w → (p : ℕ) × (p < ports B) × (wire_of B p ≡ w) × ((drive_of B p ≡ Low) ⊎ (drive_of B p ≡ High))
  clocked_port (in_wire_lem T i j l h k f) =
      (port_of T (in_port i j), port_of_lt B T (in_port i j) l (omega arith), refl, inl (zero_drive B T (in_port_lem i j h k)))
  clocked_port (clk_wire T i l h f) = (port_of T clk, port_of_lt B T clk l (omega arith), refl, inl (zero_drive B T clk_port))
  clocked_port (cen_wire T i l h f) = (port_of T cen, port_of_lt B T cen l (omega arith), refl, inr (cen_drive B T))
  clocked_port (s_r_wire T i l h f) = (port_of T s_r, port_of_lt B T s_r l (omega arith), refl, inl (zero_drive B T s_r_port))

-- ---- what stands at the start of the pass

module _ (B : Block) (t st : List ℕ) (ok : Routed B t st) where
  abbrev starts : List ℕ
  starts = flop_marks B st (8 * tiles B) (leaving_marks B t st)

  S : Sized B
  S = ok.size

  M : Marked (FlipFlopWire B st) (leaving_marks B t st) (flop_marks B st (8 * tiles B) (leaving_marks B t st))
  M = clocked_marked B st (leaving_marks B t st) (leaving_length B t st S)

  pub starts_length : length (flop_marks B st (8 * tiles B) (leaving_marks B t st)) ≡ ports B
  starts_length = M.long ∙ leaving_length B t st S

  starts_exact : (w : ℕ) → (listed (flop_marks B st (8 * tiles B) (leaving_marks B t st)) w ≡ true) ↔ Shown B t st w
  starts_exact w = (λ h. ⊎_elim (λ z. leaves ((leaving_exact B t st ok w).0 z)) clocked (M.only w h), back)
    where
      back : Shown B t st w → listed starts w ≡ true
      back (leaves L) = M.kept w ((leaving_exact B t st ok w).1 L)
      back (clocked F) = M.all w F

  shown_own : (w : ℕ) → Shown B t st w → (w < ports B) × (wire_of B w ≡ w)
  shown_own w (leaves L) =
      let E = L.ends in
      subst (λ (v : ℕ). (v < ports B) × (wire_of B v ≡ v)) E.onto
      (target_lt B t st ok L.switch E.within E.on, target_own B t st ok L.switch E.within E.on)
  shown_own w (clocked F) =
      let (p, l, e, d) = clocked_port B st F in
      subst (λ (v : ℕ). (v < ports B) × (wire_of B v ≡ v)) e (wire_within B p l, wire_idempotent B p l)

  -- "no leaving wire is open, and no in, clk, cen or s_r wire ever is"
  shown_closed : (w : ℕ) → Shown B t st w → OpenWire B t st w → ⊥
  shown_closed w (leaves L) o = o.undriven.no_switch L.switch L.ends
  shown_closed w (clocked F) o =
      let (p, l, e, d) = clocked_port B st F in
      let n : drive_of B p ≡ Nothing = sym (drive_wire B p l) ∙ ap (drive_of B) e ∙ open_nothing B t st w o in
      ⊎_elim (λ low. not_low (sym low ∙ n)) (λ high. not_high (sym high ∙ n)) d
    where
      not_low : Low ≡ Nothing → ⊥
      not_low q = let z : ◌≡◌ {A = ℕ} 0 1 = cc in absurd (omega arith)

      not_high : High ≡ Nothing → ⊥
      not_high q = let z : ◌≡◌ {A = ℕ} 0 1 = cc in absurd (omega arith)

  -- ---- after the pass

  module _ (free : NoContention B t st) (none : NoLoop B t st) where
    all : AllListed (graph B t st) (ports B)
    all = (loop_exact B t st ok free).1 none

    reached : (d : ℕ)
        → (listed (reach (block_list B t st) (wires B) (flop_marks B st (8 * tiles B) (leaving_marks B t st))) d ≡ true)
        ↔ ((listed (flop_marks B st (8 * tiles B) (leaving_marks B t st)) d ≡ true)
        ⊎ Comes (wire_rows B t st) (ports B) (rows_named B t st) (rows_closed B t st ok) all (flop_marks B st (8 * tiles B) (leaving_marks B t st)) d)
    reached d =
        subst
        (λ (k : ℕ).
        (listed (reach (block_list B t st) k starts) d ≡ true)
        ↔ ((listed starts d ≡ true) ⊎ Comes (wire_rows B t st) (ports B) (rows_named B t st) (rows_closed B t st ok) all starts d))
        (count_wires B t st all)
        (reach_exact (wire_rows B t st) (ports B) (rows_named B t st) (rows_closed B t st ok) all starts starts_length
        (λ w h. let o = shown_own w ((starts_exact w).0 h) in own_wire_lem B t st w o.0 o.1) d)

    pub reached_length : length (reach (block_list B t st) (wires B) (flop_marks B st (8 * tiles B) (leaving_marks B t st))) ≡ ports B
    reached_length =
        subst (λ (k : ℕ). length (reach (block_list B t st) k starts) ≡ ports B) (count_wires B t st all)
        (reach_length (wire_rows B t st) (ports B) (rows_named B t st) (rows_closed B t st ok) all (length (order (graph B t st) (ports B))) starts (omega arith)
        starts_length)

    pub feeding_length : length (feeding_marks B t st) ≡ ports B
    unfolding feeding_marks
    feeding_length = kept_length (open_from B st (sources_of B t st)) _ _ ∙ reached_length

    -- a port whose row is lent is a wire's number
    own_of : (w : ℕ) → w < ports B → (row_of B t st w).kind ≡ lent_kind → wire_of B w ≡ w
    own_of w l k =
        (wire_own B t st w
        (rw (row_is B t st w l, ne_eqb (row_of B t st w).kind 0 (λ (z : (row_of B t st w).kind ≡ 0). absurd (omega arith))))).1

    -- the test of an open wire
    open_exact : (w : ℕ) → w < ports B → (open_from B st (sources_of B t st) w ≡ true) ↔ OpenWire B t st w
    unfolding open_from
    open_exact w l = (there, back)
      where
        row : row_from B st (sources_of B t st) w ≡ row_of B t st w
        row = row_from_sources B t st w l

        there : eqb (row_from B st (sources_of B t st) w).kind lent_kind ≡ true → OpenWire B t st w
        there h =
            let k : (row_of B t st w).kind ≡ lent_kind = ap (λ (r : Row). r.kind) (sym row) ∙ eqb-true _ lent_kind h in
            let own = own_of w l k in
            lent_open B t st w (row_of B t st w) l own (row_says B t st w l own) k

        back : OpenWire B t st w → eqb (row_from B st (sources_of B t st) w).kind lent_kind ≡ true
        back o = eq-eqb _ lent_kind (ap (λ (r : Row). r.kind) (row ∙ open_row B t st w o))

    pub feeding_exact : (w : ℕ) → (listed (feeding_marks B t st) w ≡ true) ↔ FeedingWire B t st w
    unfolding feeding_marks
    feeding_exact w = (there, back)
      where
        after : List ℕ
        after = reach (block_list B t st) (wires B) starts

        there : listed (feeding_marks B t st) w ≡ true → FeedingWire B t st w
        there h =
            let k = kept_only (open_from B st (sources_of B t st)) (length (reach (block_list B t st) (wires B) starts)) (reach (block_list B t st) (wires B) starts) w h in
            let l = listed_lt (reach (block_list B t st) (wires B) starts) w k.0 in
            let o = (open_exact w (rw reached_length at l)).0 (k.1 l) in
            ⊎_elim (λ z. absurd (shown_closed w ((starts_exact w).0 z) o))
            (λ c.
            let (r, z, dep) = c in
            record { open_wire = o; shown = r; is_shown = (starts_exact r).0 z; depends = depends_equation B t st dep })
            ((reached w).0 k.0)

        back : FeedingWire B t st w → listed (feeding_marks B t st) w ≡ true
        back F =
            let r = F.shown in
            let o = F.open_wire in
            let m = (reached w).1 (inr (F.shown, (starts_exact F.shown).1 F.is_shown, equation_depends B t st ok free F.depends)) in
            let l = listed_lt (reach (block_list B t st) (wires B) starts) w m in
            kept_all (open_from B st (sources_of B t st)) (length (reach (block_list B t st) (wires B) starts)) (reach (block_list B t st) (wires B) starts) w m
            ((open_exact w (rw reached_length at l)).1 o)
