-- Which pins can move which lamp, closed: `influence`. Assumes nothing.
use Rattle.std.specs.Prelude.{Ok}
use Prim.Native.Nat.{ℕ, ◌*◌, ◌<◌}
use mathlib.Core.Path.{◌≡◌, refl, sym, ap, subst, ◌∙◌}
use mathlib.Core.Logic.{◌↔◌, ⊎_elim}
use mathlib.Core.List.{List}
use native.Mathlib.Omega.{arith}
use lib.ListN.{get_or}
use Rattle.lists.specs.Tables.{zeros}
use Rattle.lists.proofs.CaseLaws.{eq_or_ne}
use Rattle.lists.proofs.TableLaws.{zeros_length, tabulate_zero}
use Rattle.ports.specs.declared.size.Block.{Block}
use Rattle.ports.specs.declared.size.Size.{Size}
use Rattle.ports.specs.Block.{block, tile_count}
use Rattle.ports.specs.Lengths.{ports, ports_per_tile}
use Rattle.fabric.specs.Joins.{Sees, bnl, bot, bnr, lft, rgt, tnl, top, tnr, Join, sp4_h_side, sp4_h_in, sp4_v_side, sp4_v_in, sp4_right, sp12_h_side, sp12_h_in, sp12_v_side, sp12_v_in, east_in, neigh, beyond, global, carry_chain_lem, lut_cascade, Linked, same, one, back, on}
use Rattle.fabric.specs.Wire.{wire_of}
use Rattle.fabric.proofs.WireLaws.{wire_within, wire_idempotent, wire_lowest, lowest_unique}
use Rattle.equations.specs.Equations.{Meets, ReadsWire, Depends, reads, via}
use Rattle.equations.specs.Routed.{Routed}
use Rattle.equations.specs.WireRows.{row_of}
use Rattle.equations.proofs.RowReasons.{row_says}
use Rattle.equations.proofs.SettlingLaws.{settles}
use Rattle.equations.proofs.ChainLaws.{read_lt, read_own}
use Rattle.equations.proofs.InfluenceLaws.{Shared, same_value, lent_open, same_reads}
use Rattle.block.specs.declared.lengths.RoomLent.{RoomLent}
use Rattle.block.specs.Lengths.{build_lent}
use Rattle.block.specs.Meaning.{Accepted, BuildSays}
use Rattle.block.proofs.MeaningLaws.{build_says}
use Rattle.stepper.specs.Settling.{settled_by, port_value, port_values}
use Rattle.contention.specs.Entry.{settings_read}
use Rattle.theorem.specs.Calls.{built, list_built}
use Rattle.theorem.specs.Influence.{OutOfReach, SameJoins, SameEquation, SameEquations, SameValue, Influence}
use Rattle.theorem.proofs.ReadableLaws.{readable_routed}

-- ---- what is known of a block that `build` accepts

module _ (B : Block) (t bits settings : List ℕ) (room : RoomLent) (rows : ℕ) (e : built B t bits settings room ≡ Ok rows) where
  said : BuildSays B t bits (build_lent t bits settings room) (Ok rows)
  said = build_says B t bits settings room (Ok rows) (sym e)

  routed : Routed B t (settings_read B t bits)
  routed = readable_routed B t bits settings room said.0

  accepted : Accepted B t (settings_read B t bits)
  accepted = said.2

  -- running the list gives values that the equations allow
  run_meets : (state lent : List ℕ) → Meets B t (settings_read B t bits) state lent (settled_by B (list_built B t bits) state lent)
  unfolding settled_by
  run_meets state lent =
      let z = zeros_length (ports B) in
      (settles B t (settings_read B t bits) routed accepted.no_contention accepted.no_loop).meets state lent (zeros (ports B)) (omega arith)

-- what is written at a port is the value of its wire
written_at : (B : Block) (v : List ℕ) (p : ℕ) → p < ports B → get_or (port_values B v) p 0 ≡ port_value B v p
unfolding port_values
written_at B v p l = tabulate_zero (port_value B v) 0 (ports B) p l

-- ---- blocks with the same joins

module _ (B C : Block) (j : SameJoins B C) where
  ports_same : ports B ≡ ports C
  ports_same = ap (λ (S : Size). ports_per_tile * tile_count S) j.size_same

  -- a port of the one is one of the other
  port_there : (p : ℕ) → p < ports B → p < ports C
  port_there p l = subst (λ (n : ℕ). p < n) ports_same l

  -- and on the same wire
  wire_there : (p : ℕ) → p < ports B → wire_of C p ≡ wire_of B p
  wire_there p l =
      sym (lowest_unique C p (wire_of B p) (port_there p l)
      (record {
        linked = (j.linked_same p (wire_of B p)).0 (wire_lowest B p l).linked;
        least = λ q h. (wire_lowest B p l).least q ((j.linked_same p q).1 h);
      }))

  own_there : (w : ℕ) → w < ports B → wire_of B w ≡ w → (w < ports C) × (wire_of C w ≡ w)
  own_there w l own = (port_there w l, wire_there w l ∙ own)

one_joins : (B : Block) → SameJoins B B
one_joins B = record { size_same = refl; linked_same = λ p q. (λ h. h, λ h. h) }

-- in one row the byte for the east column joins nothing
module _ (W e f : ℕ) where
  sees_over : {p X Y i : ℕ} → Sees (block W 1 e) p X Y i → Sees (block W 1 f) p X Y i
  sees_over (bnl x y i a b h) = bnl x y i a b h
  sees_over (bot x y i a b h) = bot x y i a b h
  sees_over (bnr x y i a b h) = bnr x y i a b h
  sees_over (lft x y i a b h) = lft x y i a b h
  sees_over (rgt x y i a b h) = rgt x y i a b h
  sees_over (tnl x y i a b h) = tnl x y i a b h
  sees_over (top x y i a b h) = top x y i a b h
  sees_over (tnr x y i a b h) = tnr x y i a b h

  join_over : {p q : ℕ} → Join (block W 1 e) p q → Join (block W 1 f) p q
  join_over (sp4_h_side x y k a b h) = sp4_h_side x y k a b h
  join_over (sp4_h_in x y k a b h) = sp4_h_in x y k a b h
  join_over (sp4_v_side x y k a b h) = sp4_v_side x y k a b h
  join_over (sp4_v_in x y k a b h) = sp4_v_in x y k a b h
  join_over (sp4_right x y k a b h) = sp4_right x y k a b h
  join_over (sp12_h_side x y k a b h) = sp12_h_side x y k a b h
  join_over (sp12_h_in x y k a b h) = sp12_h_in x y k a b h
  join_over (sp12_v_side x y k a b h) = sp12_v_side x y k a b h
  join_over (sp12_v_in x y k a b h) = sp12_v_in x y k a b h
  join_over (east_in x y k t a b h) = absurd (omega arith)
  join_over (neigh x y i a b s) = neigh x y i a b (sees_over s)
  join_over (beyond X Y i o s r) = beyond X Y i o (sees_over s) (sees_over r)
  join_over (global x y v z n a b c d h) = global x y v z n a b c d h
  join_over (carry_chain_lem x y a b) = carry_chain_lem x y a b
  join_over (lut_cascade x y a b) = lut_cascade x y a b

  linked_over : {p q : ℕ} → Linked (block W 1 e) p q → Linked (block W 1 f) p q
  linked_over same = same
  linked_over (one j) = one (join_over j)
  linked_over (back l) = back (linked_over l)
  linked_over (on l r) = on (linked_over l) (linked_over r)

row_joins : (W e f : ℕ) → SameJoins (block W 1 e) (block W 1 f)
row_joins W e f = record { size_same = refl; linked_same = λ p q. (linked_over W e f, linked_over W f e) }

-- one law for both sentences: it is enough that all values that meet the equations agree at a port
module _ (B : Block) (t bits settings : List ℕ) (room : RoomLent) (rows : ℕ) (e : built B t bits settings room ≡ Ok rows)
    (C : Block) (u bits' settings' : List ℕ) (room' : RoomLent) (rows' : ℕ) (e' : built C u bits' settings' room' ≡ Ok rows')
    (j : SameJoins B C) (state lent other : List ℕ) (p : ℕ) (lp : p < ports B) where
  value_same : ((x y : List ℕ) → Meets B t (settings_read B t bits) state lent x → Meets C u (settings_read C u bits') state other y → port_value B x p ≡ port_value C y p)
      → SameValue B C t (settings_read B t bits) (list_built B t bits) u (settings_read C u bits') (list_built C u bits') state lent other p
  value_same all =
      let ran = all (settled_by B (list_built B t bits) state lent) (settled_by C (list_built C u bits') state other)
      (run_meets B t bits settings room rows e state lent) (run_meets C u bits' settings' room' rows' e' state other) in
      record { allowed = all; run = ran; written = written_at B _ p lp ∙ ran ∙ sym (written_at C _ p (port_there B C j p lp)) }

  -- the part P holds what the wire of p comes from
  part_same : (P : ℕ → Type 0) → ((w d : ℕ) → P w → ReadsWire B t (settings_read B t bits) w d → P d)
      → ((w : ℕ) → w < ports B → wire_of B w ≡ w → P w → Shared B C t (settings_read B t bits) u (settings_read C u bits') state lent other w) → P (wire_of B p)
      → SameValue B C t (settings_read B t bits) (list_built B t bits) u (settings_read C u bits') (list_built C u bits') state lent other p
  part_same P closed shared here =
      let a = accepted B t bits settings room rows e in
      value_same
      (λ x y mx my.
      same_value B C t (settings_read B t bits) u (settings_read C u bits') state lent other (routed B t bits settings room rows e) a.no_contention a.no_loop x y mx my
      (own_there B C j) P closed shared (wire_of B p) (wire_within B p lp) (wire_idempotent B p lp) here
      ∙ ap (λ (v : ℕ). get_or y v 0) (sym (wire_there B C j p lp)))

-- ---- the two sentences

module _ (B : Block) (t bits settings : List ℕ) (room : RoomLent) (rows : ℕ) (e : built B t bits settings room ≡ Ok rows)
    (state lent other : List ℕ) (p : ℕ) (lp : p < ports B) where
  pins : OutOfReach B t (settings_read B t bits) lent other (wire_of B p)
      → SameValue B B t (settings_read B t bits) (list_built B t bits) t (settings_read B t bits) (list_built B t bits) state lent other p
  pins out =
      part_same B t bits settings room rows e B t bits settings room rows e (one_joins B) state lent other p lp (OutOfReach B t (settings_read B t bits) lent other)
      (λ w d o r. record { itself = λ pin. absurd (o.beyond d (reads r) pin); beyond = λ v h. o.beyond v (via r h) })
      (λ w l own o. record {
        row = row_of B t (settings_read B t bits) w;
        first = row_says B t (settings_read B t bits) w l own;
        second = row_says B t (settings_read B t bits) w l own;
        lent_same = λ k.
            ⊎_elim (λ q. q) (λ ne. absurd (o.itself (record { open_wire = lent_open B t (settings_read B t bits) w _ l own (row_says B t (settings_read B t bits) w l own) k; differs = ne })))
            (eq_or_ne (get_or lent w 0) (get_or other w 0));
      })
      out

module _ (B : Block) (t bits settings : List ℕ) (room : RoomLent) (rows : ℕ) (e : built B t bits settings room ≡ Ok rows)
    (C : Block) (u bits' settings' : List ℕ) (room' : RoomLent) (rows' : ℕ) (e' : built C u bits' settings' room' ≡ Ok rows') (j : SameJoins B C) where
  -- what a wire with the same equations reads has them too
  same_on : (w d : ℕ) → SameEquations B C t (settings_read B t bits) u (settings_read C u bits') w → ReadsWire B t (settings_read B t bits) w d
      → SameEquations B C t (settings_read B t bits) u (settings_read C u bits') d
  same_on w d s r = record { itself = s.beyond d (reads r); beyond = λ v h. s.beyond v (via r h) }

  settings_same : (state lent : List ℕ) (p : ℕ) → p < ports B → SameEquations B C t (settings_read B t bits) u (settings_read C u bits') (wire_of B p)
      → SameValue B C t (settings_read B t bits) (list_built B t bits) u (settings_read C u bits') (list_built C u bits') state lent lent p
  settings_same state lent p lp equal =
      part_same B t bits settings room rows e C u bits' settings' room' rows' e' j state lent lent p lp (SameEquations B C t (settings_read B t bits) u (settings_read C u bits')) same_on
      (λ w l own s. record { row = s.itself.row; first = s.itself.first; second = s.itself.second; lent_same = λ k. refl })
      equal

  -- ---- dependence is the same under both

  one_there : (w d : ℕ) → w < ports B → wire_of B w ≡ w → SameEquation B C t (settings_read B t bits) u (settings_read C u bits') w
      → ReadsWire B t (settings_read B t bits) w d → ReadsWire C u (settings_read C u bits') w d
  one_there w d l own s r =
      same_reads B t (settings_read B t bits) (routed B t bits settings room rows e) (accepted B t bits settings room rows e).no_contention C u (settings_read C u bits') w d s.row l own s.first s.second r

  one_back : (w d : ℕ) → w < ports B → wire_of B w ≡ w → SameEquation B C t (settings_read B t bits) u (settings_read C u bits') w
      → ReadsWire C u (settings_read C u bits') w d → ReadsWire B t (settings_read B t bits) w d
  one_back w d l own s r =
      same_reads C u (settings_read C u bits') (routed C u bits' settings' room' rows' e') (accepted C u bits' settings' room' rows' e').no_contention B t (settings_read B t bits) w d s.row (port_there B C j w l) (wire_there B C j w l ∙ own) s.second
      s.first r

  reach_there : (w d : ℕ) → w < ports B → wire_of B w ≡ w → SameEquations B C t (settings_read B t bits) u (settings_read C u bits') w
      → Depends B t (settings_read B t bits) w d → Depends C u (settings_read C u bits') w d
  reach_there w d l own s (reads r) = reads (one_there w d l own s.itself r)
  reach_there w d l own s (via {m = m} r h) =
      let ok = routed B t bits settings room rows e in
      via (one_there w m l own s.itself r) (reach_there m d (read_lt B t (settings_read B t bits) ok r) (read_own B t (settings_read B t bits) ok r) (same_on w m s r) h)

  reach_back : (w d : ℕ) → w < ports B → wire_of B w ≡ w → SameEquations B C t (settings_read B t bits) u (settings_read C u bits') w
      → Depends C u (settings_read C u bits') w d → Depends B t (settings_read B t bits) w d
  reach_back w d l own s (reads r) = reads (one_back w d l own s.itself r)
  reach_back w d l own s (via {m = m} r h) =
      let ok = routed B t bits settings room rows e in
      let r' = one_back w m l own s.itself r in
      via r' (reach_back m d (read_lt B t (settings_read B t bits) ok r') (read_own B t (settings_read B t bits) ok r') (same_on w m s r') h)

  reach_same : (p : ℕ) → p < ports B → SameEquations B C t (settings_read B t bits) u (settings_read C u bits') (wire_of B p)
      → (d : ℕ) → Depends B t (settings_read B t bits) (wire_of B p) d ↔ Depends C u (settings_read C u bits') (wire_of B p) d
  reach_same p lp s d =
      let l = wire_within B p lp in
      let own = wire_idempotent B p lp in
      (reach_there (wire_of B p) d l own s, reach_back (wire_of B p) d l own s)

pub influence : Influence
influence = record { pins = pins; settings = settings_same; same_reach = reach_same; one_block = one_joins; one_row = row_joins }
