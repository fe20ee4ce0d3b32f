-- A group's rules and their computed test. Main law: `group_exact`; `alone-..` are the ways through the test of a group by itself, `alone_facts` what one
-- that passes it has. Assumes nothing.
use mathlib.Core.Path.{◌≡◌, refl, sym, ap, ◌∙◌}
use mathlib.Core.Logic.{◌↔◌}
use mathlib.Core.Bool.{Bool, true, false, ◌&&◌}
use mathlib.Core.List.{List}
use Prim.Native.Nat.{ℕ, ◌<◌, ◌≤◌}
use native.Mathlib.Omega.{arith}
use borrow.Author.Tests.{eq-eqb, ne_eqb, le-leb, lt-leb, leb-true}
use lib.Dec.{leb}
use Rattle.lists.specs.Search.{all_from}
use Rattle.lists.proofs.CaseLaws.{and_left, and_right}
use Rattle.lists.proofs.SearchLaws.{first_at, all_at, all_of}
use Rattle.routing.specs.TileKind.{TileKind}
use Rattle.ports.specs.Lengths.{max_positions, max_entries}
use Rattle.routing.specs.Table.{destination_of, width_of, entry_count, pattern_at, has_pattern, entry_of}
use Rattle.routing.specs.Slots.{group_slot}
use Rattle.routing.specs.Rules.{GroupRules}
use Rattle.routing.specs.TableCheck.{position_ok, entry_ok, group_alone_ok, group_ok}
use Rattle.routing.proofs.PositionLaws.{places_exact}
use Rattle.routing.proofs.EntryLaws.{entry_new, EntryFacts, entry_facts}

module _ (K : TileKind) (table : List ℕ) (g : ℕ) where
  -- ---- the group by itself

  pub alone_destination : K.is_destination (destination_of K table g) ≡ false → false ≡ group_alone_ok K table g
  unfolding group_alone_ok
  alone_destination d = rw d

  module _ (d : K.is_destination (destination_of K table g) ≡ true) where
    pub alone_thin : width_of K table g < 1 → false ≡ group_alone_ok K table g
    unfolding group_alone_ok
    alone_thin h = rw (d, lt-leb 1 (width_of K table g) h)

    module _ (w : 1 ≤ width_of K table g) where
      pub alone_wide : max_positions < width_of K table g → false ≡ group_alone_ok K table g
      unfolding group_alone_ok
      alone_wide h = rw (d, le-leb 1 (width_of K table g) w, lt-leb (width_of K table g) max_positions h)

      module _ (v : width_of K table g ≤ max_positions) where
        pub alone_none : entry_count K table g < 1 → false ≡ group_alone_ok K table g
        unfolding group_alone_ok
        alone_none h = rw (d, le-leb 1 (width_of K table g) w, le-leb (width_of K table g) max_positions v, lt-leb 1 (entry_count K table g) h)

        module _ (n : 1 ≤ entry_count K table g) where
          pub alone_many : max_entries < entry_count K table g → false ≡ group_alone_ok K table g
          unfolding group_alone_ok
          alone_many h =
              rw (
                d,
                le-leb 1 (width_of K table g) w,
                le-leb (width_of K table g) max_positions v,
                le-leb 1 (entry_count K table g) n,
                lt-leb (entry_count K table g) max_entries h,
              )

          -- its entries decide
          pub alone_all : entry_count K table g ≤ max_entries → all_from (entry_ok K table g) 0 (entry_count K table g) ≡ group_alone_ok K table g
          unfolding group_alone_ok
          alone_all h =
              rw (
                d,
                le-leb 1 (width_of K table g) w,
                le-leb (width_of K table g) max_positions v,
                le-leb 1 (entry_count K table g) n,
                le-leb (entry_count K table g) max_entries h,
              )

  -- what a group that passes by itself has
  pub record AloneFacts : Type 0 where
    pub destination : K.is_destination (destination_of K table g) ≡ true
    pub some_positions : 1 ≤ width_of K table g
    pub few_positions : width_of K table g ≤ max_positions
    pub some_entries : 1 ≤ entry_count K table g
    pub few_entries : entry_count K table g ≤ max_entries
    pub entry : (e : ℕ) → e < entry_count K table g → EntryFacts K table g e

  pub alone_facts : group_alone_ok K table g ≡ true → AloneFacts
  unfolding group_alone_ok
  alone_facts h =
      let t = and_right (K.is_destination (destination_of K table g)) _ h in
      let w = and_left (leb 1 (width_of K table g) && leb (width_of K table g) max_positions) _ t in
      let u = and_right (leb 1 (width_of K table g) && leb (width_of K table g) max_positions) _ t in
      let n = and_left (leb 1 (entry_count K table g) && leb (entry_count K table g) max_entries) _ u in
      let v = and_right (leb 1 (entry_count K table g) && leb (entry_count K table g) max_entries) _ u in
      record {
        destination = and_left (K.is_destination (destination_of K table g)) _ h;
        some_positions = leb-true _ _ (and_left (leb 1 (width_of K table g)) (leb (width_of K table g) max_positions) w);
        few_positions = leb-true _ _ (and_right (leb 1 (width_of K table g)) (leb (width_of K table g) max_positions) w);
        some_entries = leb-true _ _ (and_left (leb 1 (entry_count K table g)) (leb (entry_count K table g) max_entries) n);
        few_entries = leb-true _ _ (and_right (leb 1 (entry_count K table g)) (leb (entry_count K table g) max_entries) n);
        entry = λ e l. entry_facts K table g e (all_at (entry_ok K table g) 0 (entry_count K table g) e v (omega arith) (omega arith));
      }

  -- ---- the whole group

  abbrev places_ok : Bool
  places_ok = all_from (position_ok K table (group_slot K g)) 0 (width_of K table g)

  pub group_alone : group_alone_ok K table g ≡ false → group_ok K table g ≡ false
  unfolding group_ok
  group_alone e = rw e

  pub group_with : group_alone_ok K table g ≡ true → group_ok K table g ≡ places_ok
  unfolding group_ok
  group_with e = rw e

  -- the same with what claiming its w positions answered
  pub group_claimed : group_alone_ok K table g ≡ true → (w : ℕ) → w ≡ width_of K table g → (b : Bool)
      → b ≡ all_from (position_ok K table (group_slot K g)) 0 w → b ≡ group_ok K table g
  group_claimed h w e b q = q ∙ ap (all_from (position_ok K table (group_slot K g)) 0) e ∙ sym (group_with h)

  pub alone_width : group_alone_ok K table g ≡ true → (w : ℕ) → w ≡ width_of K table g → w ≤ max_positions
  alone_width h w e = omega (arith, (alone_facts h).few_positions)

  group_keeps : group_ok K table g ≡ true → GroupRules K table g
  unfolding group_ok
  group_keeps h =
      let A = alone_facts (and_left (group_alone_ok K table g) places_ok h) in
      record {
        destination = A.destination;
        some_positions = A.some_positions;
        few_positions = A.few_positions;
        some_entries = A.some_entries;
        few_entries = A.few_entries;
        nonzero = λ e l. (A.entry e l).nonzero;
        fits = λ e l. (A.entry e l).fits;
        differ = λ e f a b q. sym (A.entry e a).found ∙ ap (entry_of K table g) q ∙ (A.entry f b).found;
        source = λ e l. (A.entry e l).source;
        places = (places_exact K table (group_slot K g) (width_of K table g)).0 (and_right (group_alone_ok K table g) places_ok h);
      }

  module _ (G : GroupRules K table g) where
    entry_passes : (e : ℕ) → e < entry_count K table g → entry_ok K table g e ≡ true
    entry_passes e l =
        let q : entry_of K table g (pattern_at K table g e) ≡ e =
        first_at (has_pattern K table g (pattern_at K table g e)) e (entry_count K table g) l (eq-eqb (pattern_at K table g e) (pattern_at K table g e) refl)
        (λ f a. ne_eqb (pattern_at K table g f) (pattern_at K table g e) (λ z. omega (arith, G.differ f e (omega arith) l z))) in
        sym (entry_new K table g e (G.nonzero e l) (G.fits e l) q) ∙ G.source e l

    group_passes : group_ok K table g ≡ true
    group_passes =
        let every = all_of (entry_ok K table g) 0 (entry_count K table g) (λ e x y. entry_passes e (omega arith)) in
        group_with (sym (alone_all G.destination G.some_positions G.few_positions G.some_entries G.few_entries) ∙ every)
        ∙ (places_exact K table (group_slot K g) (width_of K table g)).1 G.places

  pub group_exact : (group_ok K table g ≡ true) ↔ GroupRules K table g
  group_exact = (group_keeps, group_passes)
