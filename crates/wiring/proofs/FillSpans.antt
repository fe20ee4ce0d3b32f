-- The ranges of spans as they are filled, for any length and offset. Main laws: `row_span`, `from_south`, `rim_owns`, `rim_far`; for sp4_r_v_b
-- `right_copies`, `right-owns`.
use Prim.Native.Nat.{ℕ, zero, suc, ◌+◌, ◌-◌, ◌≤◌, ◌<◌}
use mathlib.Core.Path.{◌≡◌, refl, sym, ◌∙◌, ap, subst}
use mathlib.Core.Logic.{⊎_elim}
use native.Mathlib.Omega.{arith}
use native.Mathlib.Numerals.{add-one}
use borrow.Author.Tests.{lt-ltb, le-ltb, lt-leb, le-leb, eq-eqb, ne_eqb}
use Rattle.lists.proofs.CaseLaws.{lt_or_le, eq_or_ne}
use Rattle.ports.specs.declared.size.Block.{Block}
use Rattle.fabric.specs.declared.span.Span.{Span}
use Rattle.ports.specs.declared.Port.TheVariants.{Sp4RVB}
use Rattle.ports.specs.Block.{port}
use Rattle.ports.specs.Lengths.{ports_per_tile}
use Rattle.ports.specs.PortIndex.{sp4_vt, sp4_rvb}
use Rattle.fabric.specs.Span.{flip, walk, names, Proper}
use Rattle.fabric.specs.Joins.{Join, sp4_right, sp4_v_side, east_in}
use Rattle.fabric.specs.SpanWire.{ends, row_port, row_wire, column_port, column_wire, foot, east_port, right_wire}
use Rattle.fabric.specs.Wire.{wire_of, wire_at}
use Rattle.wiring.specs.Fill.{Range, Copies, Crosses, Owns, FarSide, FromSouth, RowSpan, EastSpan}
use Rattle.fabric.proofs.FlipLaws.{flip_flip, flip_lt}
use Rattle.fabric.proofs.WalkLaws.{walk_suc, walk_stops}
use Rattle.fabric.proofs.PlaceLaws.{wire_name}
use Rattle.fabric.proofs.JoinLaws.{join_same}

-- a range of ports of a tile
pub range : {B : Block} {x y q count : ℕ} → x < B.w → y < B.h → 0 < count → q + count ≤ ports_per_tile → Range B x y q count
range hx hy some fits = record { x_lt = hx; y_lt = hy; some = some; fits = fits }

-- ports that each start a wire
pub owns : {B : Block} {x y q count : ℕ} → Range B x y q count
    → ((k : ℕ) → k < count → wire_of B (port B x y (q + k)) ≡ port B x y (q + k)) → Owns B x y q count
owns r h = record { to = r; same = λ k l. h k l ∙ omega arith }

-- what is shared by rows and columns: sides beside each other, and some names that go through
pub record Sides (B : Block) (s : Span) : Type 0 where
  pub proper : Proper s
  pub beside : s.near + names s ≡ s.far
  pub some : 0 < s.through
  pub across : (x y k : ℕ) → x < B.w → y < B.h → k < s.through → Join B (port B x y (s.near + k)) (port B x y (s.far + (flip k + s.shift)))

module _ {B : Block} {s : Span} (S : Sides B s) where
  far_crosses : (x y : ℕ) → x < B.w → y < B.h → Crosses B x y s.near x y (s.far + s.shift) s.through
  far_crosses x y hx hy = record {
    from = range hx hy S.some (omega (arith, S.proper.near_first, S.proper.in_tile));
    to = range hx hy S.some (omega (arith, S.proper.in_tile));
    before = omega (arith, S.proper.near_first);
    even = S.proper.even;
    same = λ k l.
        let e : s.far + s.shift + k ≡ s.far + (flip (flip k) + s.shift) = omega (arith, flip_flip k) in
        ap (λ (m : ℕ). wire_of B (port B x y m)) e ∙ sym (join_same B (S.across x y (flip k) hx hy (flip_lt s.through S.proper.even l)));
  }

  -- ---- rows

  module _ (side : (x y k : ℕ) → suc x < B.w → y < B.h → k < names s → Join B (port B x y (s.far + k)) (port B (suc x) y (s.near + k)))
      (near-wire : (x y k : ℕ) → x < B.w → k < names s → wire_of B (port B x y (s.near + k)) ≡ row_wire flip s B y x k)
      (far-wire : (x y k : ℕ) → x < B.w → k < names s → wire_of B (port B x y (s.far + k)) ≡ row_wire flip s B y (suc x) k) where
    west : (x y : ℕ) → 0 < x → x < B.w → y < B.h → Copies B (x - 1) y s.far x y s.near (names s)
    west zero y z hx hy = absurd (omega arith)
    west (suc x) y z hx hy =
        subst (λ (m : ℕ). Copies B m y s.far (suc x) y s.near (names s)) (let e : x ≡ suc x - 1 = omega arith in e) record {
          from = range (omega arith) hy (omega (arith, S.some)) S.proper.in_tile;
          to = range hx hy (omega (arith, S.some)) (omega (arith, S.proper.near_first, S.proper.in_tile));
          before = omega (arith, S.proper.in_tile);
          same = λ k l. sym (join_same B (side x y k hx hy l));
        }

    rim : (x y : ℕ) → x ≤ 0 → x < B.w → y < B.h → Owns B x y s.near (names s)
    unfolding walk
    rim zero y z hx hy = owns (range hx hy (omega (arith, S.some)) (omega (arith, S.proper.near_first, S.proper.in_tile))) (λ k l. near-wire 0 y k hx l)
    rim (suc x) y z hx hy = absurd (omega arith)

    pub row_span : RowSpan B s
    row_span = record {
      from_west = west;
      from_rim = rim;
      far_side = λ x y hx hy. record {
        beside = S.beside;
        starts =
            owns (range hx hy S.proper.shifts (omega (arith, S.proper.in_tile)))
            (λ k l. far-wire x y k hx (omega arith) ∙ sym (ap (ends (row_port s B y)) (walk_stops _ _ (suc x) k (lt-leb s.shift k l))));
        crosses = far_crosses x y hx hy;
      };
    }

  -- ---- columns

  module _ (edge : ℕ → ℕ → ℕ)
      (near-wire : (x y k : ℕ) → x < B.w → k < names s → wire_of B (port B x y (s.near + k)) ≡ column_wire flip (edge x) s B x (suc y) k)
      (far-wire : (x y k : ℕ) → x < B.w → k < names s → wire_of B (port B x y (s.far + k)) ≡ column_wire flip (edge x) s B x y k) where
    -- where port p of the tile (u, v), which comes before, is name 0 at the edge to the south
    pub from_south : (u v p x y : ℕ) → u < B.w → v < B.h → p + names s ≤ ports_per_tile → x < B.w → y < B.h
        → port B u v p + names s ≤ port B x y s.near
        → ((k : ℕ) → k < names s → wire_of B (port B x y (s.far + k)) ≡ wire_of B (port B u v (p + k))) → FromSouth B s u v p x y
    from_south u v p x y hu hv hp hx hy before same = record {
      beside = S.beside;
      crosses = record {
        from = range hu hv S.some (omega arith);
        to = range hx hy S.some (omega (arith, S.proper.near_first, S.proper.in_tile));
        before = omega arith;
        even = S.proper.even;
        same = λ k l.
            let e : p + (flip k + s.shift) ≡ p + s.shift + flip k = omega arith in
            join_same B (S.across x y k hx hy l) ∙ same (flip k + s.shift) (omega (arith, flip_lt s.through S.proper.even l))
            ∙ ap (λ (m : ℕ). wire_of B (port B u v m)) e;
      };
      starts = owns (range hx hy S.proper.shifts (omega (arith, S.proper.near_first, S.proper.in_tile))) (λ k l.
          let e : s.near + s.through + k ≡ s.near + (s.through + k) = omega arith in
          ap (λ (m : ℕ). wire_of B (port B x y m)) e ∙ near-wire x y (s.through + k) hx (omega arith)
          ∙ sym (ap (ends (column_port (edge x) s B x)) (walk_stops _ _ (suc y) (s.through + k) (le-ltb (s.through + k) s.through (omega arith))))
          ∙ ap (port B x y) (sym e));
      copies = record {
        from = range hu hv (omega (arith, S.some)) hp;
        to = range hx hy (omega (arith, S.some)) S.proper.in_tile;
        before = omega (arith, S.proper.near_first);
        same = same;
      };
    }

    -- the tile to the south
    pub south : ((x y k : ℕ) → x < B.w → suc y < B.h → k < names s → Join B (port B x (suc y) (s.far + k)) (port B x y (s.near + k)))
        → (x y : ℕ) → 0 < y → x < B.w → y < B.h → FromSouth B s x (y - 1) s.near x y
    south side x zero z hx hy = absurd (omega arith)
    south side x (suc y) z hx hy =
        let few : s.near + names s ≤ ports_per_tile = omega (arith, S.proper.near_first, S.proper.in_tile) in
        subst (λ (v : ℕ). FromSouth B s x v s.near x (suc y)) (let e : y ≡ suc y - 1 = omega arith in e)
        (from_south x y s.near x (suc y) hx (omega arith) few hx hy (omega arith) (λ k l. join_same B (side x y k hx hy l)))

    -- at the south rim, where nothing comes before
    module _ (x : ℕ) (hx : x < B.w) (hy : 0 < B.h) (is : (k : ℕ) → edge x k ≡ foot flip s B x k) where
      rim_step : (k : ℕ) → k < s.through → column_wire flip (edge x) s B x 1 k ≡ column_wire flip (edge x) s B x 0 (flip k + s.shift)
      rim_step k t = ap (ends (column_port (edge x) s B x)) (walk_suc _ _ 0 k (lt-ltb k s.through t))

      rim_stays : (k : ℕ) → s.through ≤ k → column_wire flip (edge x) s B x 1 k ≡ port B x 0 (s.near + k)
      rim_stays k t = sym (ap (ends (column_port (edge x) s B x)) (walk_stops _ _ 1 k (le-ltb k s.through t)))

      rim_near : (k : ℕ) → k < names s → column_wire flip (edge x) s B x 1 k ≡ port B x 0 (s.near + k)
      unfolding walk
      rim_near k l = ⊎_elim crossed (rim_stays k) (lt_or_le k s.through)
        where
          crossed : k < s.through → column_wire flip (edge x) s B x 1 k ≡ port B x 0 (s.near + k)
          crossed t =
              let e : flip k + s.shift - s.shift ≡ flip k = omega arith in
              rim_step k t ∙ is (flip k + s.shift)
              ∙ rw (le-leb s.shift (flip k + s.shift) (omega arith), e, flip_flip k)

      rim_owns_0 : Owns B x 0 s.near (names s)
      rim_owns_0 =
          owns (range hx hy (omega (arith, S.some)) (omega (arith, S.proper.near_first, S.proper.in_tile))) (λ k l. near-wire x 0 k hx l ∙ rim_near k l)

      rim_far_0 : FarSide B s x 0
      unfolding walk
      rim_far_0 = record {
        beside = S.beside;
        starts =
            owns (range hx hy S.proper.shifts (omega (arith, S.proper.in_tile)))
            (λ k l. far-wire x 0 k hx (omega arith) ∙ is k ∙ rw (lt-leb s.shift k l));
        crosses = far_crosses x 0 hx hy;
      }

      pub rim_owns : (y : ℕ) → y ≤ 0 → Owns B x y s.near (names s)
      rim_owns zero z = rim_owns_0
      rim_owns (suc y) z = absurd (omega arith)

      pub rim_far : (y : ℕ) → y ≤ 0 → FarSide B s x y
      rim_far zero z = rim_far_0
      rim_far (suc y) z = absurd (omega arith)

-- ---- sp4_r_v_b

module _ (B : Block) (x : ℕ) where
  right_above : (y : ℕ) → suc x < B.w → suc y < B.h → Copies B (suc x) y (sp4_vt 0) x (suc y) (sp4_rvb 0) 48
  right_above y hx hy = record {
    from = range hx (omega arith) (omega arith) (omega arith);
    to = range (omega arith) hy (omega arith) (omega arith);
    before = omega arith;
    same = λ k l. join_same B (sp4_right x (suc y) k hx hy l) ∙ join_same B (sp4_v_side (suc x) y k hx hy l);
  }

  pub right_copies : (y : ℕ) → x + 1 < B.w → 1 ≤ y → y < B.h → Copies B (x + 1) (y - 1) (sp4_vt 0) x y (sp4_rvb 0) 48
  right_copies zero hx z hy = absurd (omega arith)
  right_copies (suc y) hx z hy =
      subst (λ (v : ℕ). Copies B (x + 1) v (sp4_vt 0) x (suc y) (sp4_rvb 0) 48) (let e : y ≡ suc y - 1 = omega arith in e)
      (subst (λ (u : ℕ). Copies B u y (sp4_vt 0) x (suc y) (sp4_rvb 0) 48) (sym (add-one x)) (right_above y (omega arith) hy))

  module _ (hx : x < B.w) where
    right_own : (y : ℕ) → y < B.h → ((k : ℕ) → right_wire B x y k ≡ port B x y (sp4_rvb k)) → Owns B x y (sp4_rvb 0) 48
    unfolding wire_at
    right_own y hy h = owns (range hx hy (omega arith) (omega arith)) (λ k l. wire_name B x y (Sp4RVB k) hx (omega arith) l ∙ h k)

    -- the east column, where the column outside does not run on
    pub right_owns_east : (y : ℕ) → y < B.h → B.w ≤ x + 1 → (B.east ≡ 1 → ⊥) → Owns B x y (sp4_rvb 0) 48
    right_owns_east y hy out no-east = right_own y hy (λ k. rw (le-ltb (suc x) B.w (omega arith), ne_eqb B.east 1 no-east))

    -- the south row, where they come before the column's own names
    pub right_owns_south : (y : ℕ) → y < B.h → y < 1 → Owns B x y (sp4_rvb 0) 48
    unfolding walk
    right_owns_south (suc y) hy z = absurd (omega arith)
    right_owns_south zero hy z =
        ⊎_elim (λ (t : suc x < B.w). right_own 0 hy (λ k. rw (lt-ltb (suc x) B.w t))) (λ (t : B.w ≤ suc x).
        ⊎_elim (λ (e : B.east ≡ 1). right_own 0 hy (λ k. rw (le-ltb (suc x) B.w t, eq-eqb B.east 1 e)))
        (λ (e : B.east ≡ 1 → ⊥). right_owns_east 0 hy (omega arith) e) (eq_or_ne B.east 1)) (lt_or_le (suc x) B.w)

    -- the east column, where it does
    module _ (y : ℕ) (t : B.east ≡ 1) (last : suc x ≡ B.w) (hy : suc y < B.h) where
      east_same : (k : ℕ) → k < 36 → wire_of B (port B x (suc y) (sp4_rvb 0 + k)) ≡ wire_of B (port B x y (sp4_rvb 12 + flip k))
      east_same k l =
          let e : sp4_rvb (flip k + 12) ≡ sp4_rvb 12 + flip k = omega arith in
          join_same B (east_in x y k t last hy l) ∙ ap (λ (m : ℕ). wire_of B (port B x y m)) e

      east_starts : (k : ℕ) → k < 12 → wire_of B (port B x (suc y) (sp4_rvb 36 + k)) ≡ port B x (suc y) (sp4_rvb 36 + k)
      unfolding wire_at
      east_starts k l =
          let e : sp4_rvb 36 + k ≡ sp4_rvb (36 + k) = omega arith in
          ap (λ (m : ℕ). wire_of B (port B x (suc y) m)) e ∙ wire_name B x (suc y) (Sp4RVB (36 + k)) hx (omega arith) (omega arith)
          ∙ rw (le-ltb (suc x) B.w (omega arith), eq-eqb B.east 1 t)
          (sym (ap (ends (east_port B x)) (walk_stops _ _ (suc y) (36 + k) (le-ltb (36 + k) 36 (omega arith)))))
          ∙ ap (port B x (suc y)) (sym e)

      east_above : EastSpan B x (suc y)
      east_above =
          let u : suc y - 1 ≡ y = omega arith in
          record {
            above = omega arith;
            crosses = rw u record {
              from = range hx (omega arith) (omega arith) (omega arith);
              to = range hx hy (omega arith) (omega arith);
              before = omega arith;
              even = refl;
              same = east_same;
            };
            starts = owns (range hx hy (omega arith) (omega arith)) east_starts;
          }

    pub east_span : (y : ℕ) → 1 ≤ y → y < B.h → B.w ≤ x + 1 → B.east ≡ 1 → EastSpan B x y
    east_span zero z hy out t = absurd (omega arith)
    east_span (suc y) z hy out t = east_above y t (omega arith) hy
