-- Whatever frames have begun in their turn, they have come to where `group_at` and `tile_at` say, and are as many as the counts allow. Main laws:
-- `begins_come`, `begins_sizes`.
use Prim.Native.Nat.{ℕ, suc, ◌+◌, ◌-◌, ◌*◌, ◌<◌, ◌≤◌}
use mathlib.Core.Path.{◌≡◌, refl, sym, ap₂, subst, subst₂}
use mathlib.Core.Bool.{true}
use mathlib.Core.Logic.{⊎_elim}
use mathlib.Core.List.{List, [], ◌∷◌}
use native.Mathlib.Omega.{arith}
use lib.ListN.{length, length-append}
use Rattle.lists.proofs.CaseLaws.{clash, lt_or_le}
use Rattle.texts.specs.Each.{Each}
use Rattle.frames.specs.Frames.{Group, Frame, fields, passives, group, size, tile, line, Proper}
use Rattle.frames.specs.Lines.{group_line, tile_line}
use Rattle.frames.specs.Input.{group_at, group_count, size_at, tiles_due, tile_at, tile_count}
use Rattle.frames.specs.Whole.{Small}
use Rattle.texts.specs.Pieces.{Stands}
use Rattle.frames.specs.Meaning.{Stage, Turn, the_fields, the_passives, a_group, the_size, a_tile, Sized, Begins, nothing, one_more}
use Rattle.texts.proofs.EachLaws.{holds_append}
use Rattle.frames.proofs.FrameLineLaws.{tile_length}
use Rattle.frames.proofs.FrameTestLaws.{fields_passes, passives_digits, passives_passes, group_digits_is, group_passes, SizeStands, tile_passes}
use Rattle.frames.proofs.TurnLaws.{group_stops, tile_stops}
use Rattle.frames.proofs.ComeLaws.{FieldsCome, GroupsCome, TilesCome, Come, line_length, last_group, size_place, size_same}

-- ---- one more line, by kind

module _ (s : List ℕ) (at n : ℕ) where
  come_passives : FieldsCome s at n → (xs : List ℕ) → Proper (passives xs) → Stands s at (line (passives xs))
      → GroupsCome s 0 (at + length (line (passives xs))) (n + 1)
  unfolding group_at
  come_passives c xs fit p =
      let q = subst (λ (x : ℕ). Stands s x (line (passives xs))) c.place p in
      record {
        one = c.one;
        two = passives_passes s xs fit.0 q;
        few = omega arith;
        place = omega (arith, line_length (passives xs), passives_digits s xs fit.0 q, c.place);
        lines = omega arith;
      }

  come_group : (g : ℕ) → GroupsCome s g at n → g < 512 → (x : Group) → Proper (group x) → Stands s at (line (group x))
      → GroupsCome s (suc g) (at + length (line (group x))) (n + 1)
  unfolding group_at
  come_group g c l x fit p =
      let q = subst (λ (i : ℕ). Stands s i (line (group x))) c.place p in
      let passes = group_passes s (group_at s g) x fit q in
      record {
        one = c.one;
        two = c.two;
        few =
            ⊎_elim (λ (k : g < group_count s). k)
            (λ (k : group_count s ≤ g).
            let few = c.few in
            let e : g ≡ group_count s = omega arith in
            clash (subst (λ (i : ℕ). group_line s (group_at s i) ≡ true) e passes) (group_stops s (omega arith)))
            (lt_or_le g (group_count s));
        place = omega (arith, line_length (group x), group_digits_is s (group_at s g) x fit q, c.place);
        lines = omega arith;
      }

  come_size : (g : ℕ) → GroupsCome s g at n → (w h : ℕ) (extra : List ℕ) → Proper (size w h extra) → Small w h → Stands s at (line (size w h extra))
      → TilesCome s (h * w) (at + length (line (size w h extra))) (n + 1)
  come_size g c w h extra fit small p =
      let e = size_same s at n g c w h extra fit p in
      let place = size_place s at n g c w h extra p in
      let last = last_group s at n g c w h extra p in
      let due : h * w ≡ tiles_due s = ap₂ (λ (x y : ℕ). x * y) (sym e.h_is) (sym e.w_is) in
      let none : tiles_due s - h * w ≡ 0 = omega arith in
      record {
        one = c.one;
        two = c.two;
        three = e.passes;
        small = subst₂ Small (sym e.w_is) (sym e.h_is) small;
        left = omega arith;
        few = omega arith;
        place = omega (arith, line_length (size w h extra), e.long);
        lines = omega (arith, c.lines);
      }

  come_tile : (m : ℕ) → TilesCome s (suc m) at n → (bytes : List ℕ) → Proper (tile bytes) → Stands s at (line (tile bytes))
      → TilesCome s m (at + length (line (tile bytes))) (n + 1)
  come_tile m c bytes fit p =
      let t : ℕ = tiles_due s - suc m in
      let left = c.left in
      let few = c.few in
      let passes = tile_passes s (tile_at s t) bytes fit (subst (λ (x : ℕ). Stands s x (line (tile bytes))) c.place p) in
      let next : tiles_due s - m ≡ suc (tiles_due s - suc m) = omega arith in
      record {
        one = c.one;
        two = c.two;
        three = c.three;
        small = c.small;
        left = omega arith;
        few =
            ⊎_elim (λ (k : t < tile_count s). let q : tiles_due s - m ≤ tile_count s = omega arith in q)
            (λ (k : tile_count s ≤ t).
            let e : t ≡ tile_count s = omega arith in
            clash (subst (λ (i : ℕ). tile_line s (tile_at s i) ≡ true) e passes) (tile_stops s (omega arith)))
            (lt_or_le t (tile_count s));
        place = omega (arith, line_length (tile bytes), tile_length bytes, fit.0, c.place);
        lines = omega (arith, c.lines);
      }

come_more : (s : List ℕ) {stage next : Stage} {f : Frame} (at n : ℕ) → Turn stage f next → Come s stage at n → Proper f → Sized f → Stands s at (line f)
    → Come s next (at + length (line f)) (n + 1)
come_more s at n (the_fields {a} {b} {c}) k fit sized p = record {
  one = fields_passes s a b c (subst (λ (x : ℕ). Stands s x (line (fields a b c))) k.0 p);
  place = omega arith;
  lines = omega arith;
}
come_more s at n (the_passives {positions}) k fit sized p = come_passives s at n k positions fit p
come_more s at n (a_group {g} {x} l) k fit sized p = come_group s at n g k l x fit p
come_more s at n (the_size {g} {w} {h} {extra}) k fit sized p = come_size s at n g k w h extra fit sized p
come_more s at n (a_tile {n = m} {bytes}) k fit sized p = come_tile s at n m k bytes fit p

pub begins_come : {s : List ℕ} {fs : List Frame} {at : ℕ} {stage : Stage} → Begins s fs at stage → Come s stage at (length fs)
begins_come nothing = (refl, refl)
begins_come {s} (one_more {fs} {at} {stage} {next} {f} b turn fit sized p) =
    subst (Come s next (at + length (line f))) (sym (length-append fs (f ∷ []))) (come_more s at (length fs) turn (begins_come b) fit sized p)

-- ---- the size among the frames is the one that is read

abbrev pub SizeIs : List ℕ → Frame → Type 0
SizeIs s (fields a b c) = Unit {0}
SizeIs s (passives positions) = Unit {0}
SizeIs s (group x) = Unit {0}
SizeIs s (size w h extra) = SizeStands s (size_at s) w h extra
SizeIs s (tile bytes) = Unit {0}

size_here : (s : List ℕ) {stage next : Stage} {f : Frame} (at n : ℕ) → Turn stage f next → Come s stage at n → Proper f → Stands s at (line f) → SizeIs s f
size_here s at n the_fields k fit p = tt
size_here s at n the_passives k fit p = tt
size_here s at n (a_group l) k fit p = tt
size_here s at n (the_size {g} {w} {h} {extra}) k fit p = size_same s at n g k w h extra fit p
size_here s at n a_tile k fit p = tt

pub begins_sizes : {s : List ℕ} {fs : List Frame} {at : ℕ} {stage : Stage} → Begins s fs at stage → Each (SizeIs s) fs
begins_sizes nothing = tt
begins_sizes {s} (one_more {fs} {at} {stage} {next} {f} b turn fit sized p) =
    holds_append (SizeIs s) fs (f ∷ []) (begins_sizes b) (size_here s at (length fs) turn (begins_come b) fit p, tt)
