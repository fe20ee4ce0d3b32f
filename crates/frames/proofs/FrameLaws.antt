-- Where a test of specs/Lines.antt passes, a proper frame of that kind stands: that of the numbers which are read there (`fields_read`, ..,
-- `tile_read`), and its line ends where Input has the next begin. Main laws: `fields_reads`, `passives_reads`, `group_reads`, `size_reads`, `tile_reads`.
use Rattle.ports.specs.Lengths.{tile_bytes}
use Prim.Native.Nat.{ℕ, ◌+◌, ◌*◌, ◌≤◌}
use mathlib.Core.Path.{◌≡◌, refl, ap}
use mathlib.Core.Bool.{Bool, true, false, cond, ◌&&◌}
use mathlib.Core.List.{List, [], ◌∷◌}
use native.Mathlib.Omega.{arith}
use borrow.Author.Tests.{leb-true, ltb-true}
use lib.Dec.{leb, ltb, eqb}
use lib.ListN.{get_or}
use Rattle.lists.proofs.CaseLaws.{and_left, and_right}
use Rattle.lists.proofs.TableLaws.{tabulate_length}
use Rattle.texts.specs.Hex.{two, pair_at, quad_at}
use Rattle.frames.specs.Frames.{Group, Frame, fields, passives, group, size, tile, line, Proper, east_of}
use Rattle.frames.specs.Lines.{is_line, fields_line, passive_count, passive_line, position_count, entry_count, group_digits, group_line, size_digits, east_at, size_line, tile_line}
use Rattle.texts.proofs.HexLaws.{pair_lt, quad_lt}
use Rattle.texts.proofs.StandsLaws.{Spans, spans_to, spans_append, spans_nil}
use Rattle.texts.proofs.ReadingLaws.{two_spans, four_spans}
use Rattle.frames.proofs.ListReadLaws.{entry_read, quads_read, pairs_read, entries_read, fours_read, twos_read, entries_read_lem, quads_fit, pairs_fit, entries_fit, counted}
use Rattle.frames.proofs.LineLaws.{LineAt, line_exact, line_spans}

-- what a test that passes shows: a proper frame whose line ends at b
pub record Reads (s : List ℕ) (at : ℕ) (f : Frame) (b : ℕ) : Type 0 where
  pub proper : Proper f
  pub spans : Spans s at (line f) b

-- the frame's number
kind_spans : (s : List ℕ) (at kind n : ℕ) → LineAt s at kind n → 2 ≤ n → Spans s at (two kind) (at + 2)
kind_spans s at kind n h l = spans_to (two_spans s at (at + n) h.only_digits at (omega arith) (omega arith)) (ap two h.kind_is) refl

-- ---- 01

abbrev pub fields_read : List ℕ → Frame
fields_read s = fields (quad_at s 2) (quad_at s 6) (quad_at s 10)

pub fields_reads : (s : List ℕ) → fields_line s ≡ true → Reads s 0 (fields_read s) 15
fields_reads s e =
    let h = (line_exact s 0 1 14).0 e in
    let ds = h.only_digits in
    record {
      proper = (quad_lt s 2, (quad_lt s 6, (quad_lt s 10, tt)));
      spans =
          line_spans s 0 14 (fields_read s)
          (spans_append (kind_spans s 0 1 14 h (omega arith))
          (spans_append (four_spans s 0 14 ds 2 (omega arith) (omega arith))
          (spans_append (four_spans s 0 14 ds 6 (omega arith) (omega arith))
          (spans_append (four_spans s 0 14 ds 10 (omega arith) (omega arith)) (spans_nil s 14)))))
          h.ended;
    }

-- ---- 02

abbrev pub passives_read : List ℕ → Frame
passives_read s = passives (quads_read s 19 (passive_count s))

pub passives_reads : (s : List ℕ) → passive_line s ≡ true → Reads s 15 (passives_read s) (20 + 4 * passive_count s)
unfolding passive_line
passives_reads s e =
    let n = passive_count s in
    let few = leb-true n 64 (and_left (leb n 64) (is_line s 15 2 (4 + 4 * n)) e) in
    let h = (line_exact s 15 2 (4 + 4 * n)).0 (and_right (leb n 64) (is_line s 15 2 (4 + 4 * n)) e) in
    let ds = h.only_digits in
    let long = tabulate_length (λ (k : ℕ). quad_at s (19 + 4 * k)) 0 n in
    record {
      proper = (omega arith, quads_fit s 19 n);
      spans =
          spans_to
          (line_spans s 15 (4 + 4 * n) (passives_read s)
          (spans_append (kind_spans s 15 2 (4 + 4 * n) h (omega arith))
          (spans_append (counted s (λ (k : ℕ). quad_at s (19 + 4 * k)) 17 n 15 _ refl ds (omega arith) (omega arith))
          (spans_to (fours_read s 15 _ ds 19 n (omega arith) (omega arith)) refl (omega arith))))
          h.ended)
          refl (omega arith);
    }

-- ---- 03

module _ (s : List ℕ) (at : ℕ) where
  abbrev pub group_read : Group
  group_read = record {
    destination = quad_at s (at + 2);
    positions = quads_read s (at + 8) (position_count s at);
    entries = entries_read s (at + 10 + 4 * position_count s at) (entry_count s at);
  }

  pub group_reads : group_line s at ≡ true → Reads s at (group group_read) (at + (group_digits s at + 1))
  unfolding group_line group_digits
  group_reads e =
      let p = position_count s at in
      let m = entry_count s at in
      let r = and_right (leb p 8) (leb m 32 && is_line s at 3 (10 + 4 * p + 6 * m)) e in
      let p-few = leb-true p 8 (and_left (leb p 8) (leb m 32 && is_line s at 3 (10 + 4 * p + 6 * m)) e) in
      let m-few = leb-true m 32 (and_left (leb m 32) (is_line s at 3 (10 + 4 * p + 6 * m)) r) in
      let h = (line_exact s at 3 (10 + 4 * p + 6 * m)).0 (and_right (leb m 32) (is_line s at 3 (10 + 4 * p + 6 * m)) r) in
      let ds = h.only_digits in
      record {
        proper = record {
          destination_fits = quad_lt s (at + 2);
          positions_few = omega (arith, tabulate_length (λ (k : ℕ). quad_at s (at + 8 + 4 * k)) 0 p);
          positions_fit = quads_fit s (at + 8) p;
          entries_few = omega (arith, tabulate_length (λ (k : ℕ). entry_read s (at + 10 + 4 * p + 6 * k)) 0 m);
          entries_fit = entries_fit s (at + 10 + 4 * p) m;
        };
        spans =
            spans_to
            (line_spans s at (10 + 4 * p + 6 * m) (group group_read)
            (spans_append (kind_spans s at 3 _ h (omega arith))
            (spans_append (spans_to (four_spans s at _ ds (at + 2) (omega arith) (omega arith)) refl (let q : at + 2 + 4 ≡ at + 6 = omega arith in q))
            (spans_append (spans_to (counted s (λ (k : ℕ). quad_at s (at + 8 + 4 * k)) (at + 6) p at _ refl ds (omega arith) (omega arith)) refl (let q : at + 6 + 2 ≡ at + 8 = omega arith in q))
            (spans_append (fours_read s at _ ds (at + 8) p (omega arith) (omega arith))
            (spans_append
            (spans_to (counted s (λ (k : ℕ). entry_read s (at + 10 + 4 * p + 6 * k)) (at + 8 + 4 * p) m at _ refl ds (omega arith) (omega arith)) refl
            (let q : at + 8 + 4 * p + 2 ≡ at + 10 + 4 * p = omega arith in q))
            (spans_to (entries_read_lem s at _ ds (at + 10 + 4 * p) m (omega arith) (omega arith)) refl (omega arith)))))))
            h.ended)
            refl (omega arith);
      }

-- ---- 04 and 05

module _ (s : List ℕ) (at : ℕ) where
  -- what stands behind W and H: nothing where the line ends there
  abbrev pub extra_read : List ℕ
  extra_read = cond (eqb (get_or s (at + 6) 0) 10) [] (pair_at s (at + 6) ∷ [])

  pub east_read : east_of extra_read ≡ east_at s at
  unfolding east_at
  east_read = go (eqb (get_or s (at + 6) 0) 10)
    where
      go : (t : Bool) → east_of (cond t [] (pair_at s (at + 6) ∷ [])) ≡ cond t 0 (pair_at s (at + 6))
      go true = refl
      go false = refl

  abbrev pub size_read : Frame
  size_read = size (pair_at s (at + 2)) (pair_at s (at + 4)) extra_read

  pub size_reads : size_line s at ≡ true → Reads s at size_read (at + (size_digits s at + 1))
  unfolding size_line size_digits east_at
  size_reads e = go (eqb (get_or s (at + 6) 0) 10) (and_left (ltb (east_at s at) 2) (is_line s at 4 (size_digits s at)) e) (and_right (ltb (east_at s at) 2) (is_line s at 4 (size_digits s at)) e)
    where
      go : (t : Bool) → ltb (cond t 0 (pair_at s (at + 6))) 2 ≡ true → is_line s at 4 (cond t 6 8) ≡ true
          → Reads s at (size (pair_at s (at + 2)) (pair_at s (at + 4)) (cond t [] (pair_at s (at + 6) ∷ []))) (at + (cond t 6 8 + 1))
      go true b e =
          let h = (line_exact s at 4 6).0 e in
          let ds = h.only_digits in
          record {
            proper = (pair_lt s (at + 2), pair_lt s (at + 4), record { few = omega arith; bits = tt });
            spans =
                spans_to
                (line_spans s at 6 (size (pair_at s (at + 2)) (pair_at s (at + 4)) [])
                (spans_append (kind_spans s at 4 6 h (omega arith))
                (spans_append (spans_to (two_spans s at _ ds (at + 2) (omega arith) (omega arith)) refl (let q : at + 2 + 2 ≡ at + 4 = omega arith in q))
                (spans_append (spans_to (two_spans s at _ ds (at + 4) (omega arith) (omega arith)) refl (let q : at + 4 + 2 ≡ at + 6 = omega arith in q)) (spans_nil s (at + 6)))))
                h.ended)
                refl (omega arith);
          }
      go false b e =
          let h = (line_exact s at 4 8).0 e in
          let ds = h.only_digits in
          record {
            proper = (pair_lt s (at + 2), pair_lt s (at + 4), record { few = omega arith; bits = (ltb-true (pair_at s (at + 6)) 2 b, tt) });
            spans =
                spans_to
                (line_spans s at 8 (size (pair_at s (at + 2)) (pair_at s (at + 4)) (pair_at s (at + 6) ∷ []))
                (spans_append (kind_spans s at 4 8 h (omega arith))
                (spans_append (spans_to (two_spans s at _ ds (at + 2) (omega arith) (omega arith)) refl (let q : at + 2 + 2 ≡ at + 4 = omega arith in q))
                (spans_append (spans_to (two_spans s at _ ds (at + 4) (omega arith) (omega arith)) refl (let q : at + 4 + 2 ≡ at + 6 = omega arith in q))
                (spans_append (spans_to (two_spans s at _ ds (at + 6) (omega arith) (omega arith)) refl (let q : at + 6 + 2 ≡ at + 8 = omega arith in q)) (spans_nil s (at + 8))))))
                h.ended)
                refl (omega arith);
          }

  abbrev pub tile_read : List ℕ
  tile_read = pairs_read s (at + 2) tile_bytes

  pub tile_reads : tile_line s at ≡ true → Reads s at (tile tile_read) (at + 219)
  tile_reads e =
      let h = (line_exact s at 5 218).0 e in
      let ds = h.only_digits in
      record {
        proper = (tabulate_length (λ (k : ℕ). pair_at s (at + 2 + 2 * k)) 0 tile_bytes, pairs_fit s (at + 2) tile_bytes);
        spans =
            spans_to
            (line_spans s at 218 (tile tile_read)
            (spans_append (kind_spans s at 5 218 h (omega arith)) (spans_to (twos_read s at _ ds (at + 2) tile_bytes (omega arith) (omega arith)) refl (omega arith)))
            h.ended)
            refl (omega arith);
      }
