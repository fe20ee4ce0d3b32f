-- Where a proper frame stands, the test of specs/Lines.antt for its kind passes, and the counts that are read are those of its lists. Main laws:
-- `fields_passes`, `passives_passes`, `group_passes`, `size_passes`, `tile_passes`; `size_stands`: W, H and the byte behind them are those that are read.
use Prim.Native.Nat.{ℕ, ◌+◌, ◌*◌, ◌≤◌, ◌<◌}
use mathlib.Core.Path.{◌≡◌, refl, sym, ap, ap₂, ◌∙◌, subst}
use mathlib.Core.Bool.{true}
use mathlib.Core.List.{List, [], ◌∷◌, ◌++◌}
use native.Mathlib.Omega.{arith}
use borrow.Author.Tests.{le-leb, lt-ltb, eq-eqb, ne_eqb}
use lib.ListN.{length, get_or}
use Rattle.lists.proofs.CaseLaws.{and_true, clash}
use Rattle.texts.specs.Each.{each}
use Rattle.texts.specs.Hex.{two, four, is_digit, pair_at}
use Rattle.frames.specs.Frames.{Group, fields, passives, group, size, tile, entry_digits, digits, line, Proper, east_of}
use Rattle.frames.specs.Lines.{fields_line, passive_count, passive_line, position_count, entry_count, group_digits, group_line, size_digits, east_at, size_line, tile_line}
use Rattle.texts.specs.Pieces.{Stands}
use Rattle.texts.proofs.StandsLaws.{Spans, spans_right, spans_from}
use Rattle.texts.proofs.ReadingLaws.{pair_is}
use Rattle.frames.proofs.LineLaws.{LineAt, line_exact}
use Rattle.frames.proofs.FrameLineLaws.{frame_line, frame_digits, behind, from_entries, from_positions, fours_length, passives_length, group_length_lem, tile_length}

pub fields_passes : (s : List ℕ) (a b c : ℕ) → Stands s 0 (line (fields a b c)) → fields_line s ≡ true
fields_passes s a b c h = (line_exact s 0 1 14).1 (frame_line s 0 (fields a b c) h)

module _ (s : List ℕ) (xs : List ℕ) (few : length xs ≤ 64) (h : Stands s 15 (line (passives xs))) where
  passive_count_is : passive_count s ≡ length xs
  passive_count_is =
      pair_is s 17 (length xs) (each four xs) _ (spans_right (two 2) (two (length xs) ++ each four xs) (frame_digits s 15 (passives xs) h)) (omega arith)

  -- how many digits it has, as the count has it
  pub passives_digits : length (digits (passives xs)) ≡ 4 + 4 * passive_count s
  passives_digits = passives_length xs ∙ ap (λ (k : ℕ). 4 + 4 * k) (sym passive_count_is)

  pub passives_passes : passive_line s ≡ true
  unfolding passive_line
  passives_passes =
      and_true (le-leb (passive_count s) 64 (omega (arith, passive_count_is)))
      ((line_exact s 15 2 (4 + 4 * passive_count s)).1 (subst (LineAt s 15 2) passives_digits (frame_line s 15 (passives xs) h)))

module _ (s : List ℕ) (at : ℕ) (x : Group) (few : Proper (group x)) (h : Stands s at (line (group x))) where
  from_count : Spans s (at + 6) (from_positions x) (at + length (digits (group x)))
  from_count =
      spans_from (spans_right (four x.destination) (from_positions x) (spans_right (two 3) (behind (group x)) (frame_digits s at (group x) h))) (omega arith)

  position_count_is : position_count s at ≡ length x.positions
  position_count_is = pair_is s (at + 6) (length x.positions) (each four x.positions ++ from_entries x) _ from_count (omega arith)

  entry_count_is : entry_count s at ≡ length x.entries
  entry_count_is =
      pair_is s (at + 8 + 4 * position_count s at) (length x.entries) (each entry_digits x.entries) _
      (spans_from
      (spans_right (each four x.positions) (from_entries x) (spans_right (two (length x.positions)) (each four x.positions ++ from_entries x) from_count))
      (omega (arith, position_count_is, fours_length x.positions)))
      (omega arith)

  pub group_digits_is : length (digits (group x)) ≡ group_digits s at
  unfolding group_digits
  group_digits_is = group_length_lem x ∙ ap₂ (λ (k l : ℕ). 10 + 4 * k + 6 * l) (sym position_count_is) (sym entry_count_is)

  pub group_passes : group_line s at ≡ true
  unfolding group_line
  group_passes =
      and_true (le-leb (position_count s at) 8 (omega (arith, position_count_is)))
      (and_true (le-leb (entry_count s at) 32 (omega (arith, entry_count_is)))
      ((line_exact s at 3 (group_digits s at)).1 (subst (LineAt s at 3) group_digits_is (frame_line s at (group x) h))))

module _ (s : List ℕ) (at : ℕ) where
  -- a size that stands there passes, and is the one that is read
  pub record SizeStands (w h : ℕ) (extra : List ℕ) : Type 0 where
    pub passes : size_line s at ≡ true
    pub long : length (digits (size w h extra)) ≡ size_digits s at
    pub w_is : pair_at s (at + 2) ≡ w
    pub h_is : pair_at s (at + 4) ≡ h
    pub east_is : east_at s at ≡ east_of extra

  pub size_stands : (w h : ℕ) (extra : List ℕ) → Proper (size w h extra) → Stands s at (line (size w h extra)) → SizeStands w h extra
  unfolding size_line size_digits east_at is_digit
  size_stands w h [] fit p =
      let l = frame_line s at (size w h []) p in
      let e = eq-eqb (get_or s (at + 6) 0) 10 l.ended in
      let q = spans_right (two 4) (two w ++ (two h ++ [])) (frame_digits s at (size w h []) p) in
      record {
        passes = rw e ((line_exact s at 4 6).1 l);
        long = rw e refl;
        w_is = pair_is s (at + 2) w (two h ++ []) _ q fit.0;
        h_is = pair_is s (at + 4) h [] _ (spans_from (spans_right (two w) (two h ++ []) q) (omega arith)) fit.1;
        east_is = rw e refl;
      }
  size_stands w h (b ∷ []) fit p =
      let l = frame_line s at (size w h (b ∷ [])) p in
      let digit = l.only_digits (at + 6) (omega arith) (omega arith) in
      let e = ne_eqb (get_or s (at + 6) 0) 10 (λ z. clash digit (ap is_digit z)) in
      let q = spans_right (two 4) (two w ++ (two h ++ (two b ++ []))) (frame_digits s at (size w h (b ∷ [])) p) in
      let q2 = spans_from (spans_right (two w) (two h ++ (two b ++ [])) q) (let z : at + 2 + 2 ≡ at + 4 = omega arith in z) in
      let small : b < 2 = fit.2.bits.0 in
      let is : pair_at s (at + 6) ≡ b = pair_is s (at + 6) b [] _ (spans_from (spans_right (two h) (two b ++ []) q2) (omega arith)) (omega arith) in
      record {
        passes = rw e (and_true (lt-ltb (pair_at s (at + 6)) 2 (omega arith)) ((line_exact s at 4 8).1 l));
        long = rw e refl;
        w_is = pair_is s (at + 2) w (two h ++ (two b ++ [])) _ q fit.0;
        h_is = pair_is s (at + 4) h (two b ++ []) _ q2 fit.1;
        east_is = rw e is;
      }
  size_stands w h (a ∷ b ∷ rest) fit p = absurd (let few = fit.2.few in omega arith)

  pub size_passes : (w h : ℕ) (extra : List ℕ) → Proper (size w h extra) → Stands s at (line (size w h extra)) → size_line s at ≡ true
  size_passes w h extra fit p = (size_stands w h extra fit p).passes

  pub tile_passes : (bytes : List ℕ) → Proper (tile bytes) → Stands s at (line (tile bytes)) → tile_line s at ≡ true
  tile_passes bytes fit p =
      (line_exact s at 5 218).1
      (subst (LineAt s at 5) (let q : length (digits (tile bytes)) ≡ 218 = omega (arith, tile_length bytes) in q) (frame_line s at (tile bytes) p))
