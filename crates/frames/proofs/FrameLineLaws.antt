-- The line of any frame: its number comes first, only digits stand before the line end (`frame_line`), and how many there are. "512 digits
-- at most" is `digits_few`.
use Prim.Native.Nat.{ℕ, ◌+◌, ◌*◌, ◌<◌, ◌≤◌}
use mathlib.Core.Path.{◌≡◌, refl, sym, ap, ◌∙◌}
use mathlib.Core.Bool.{true}
use mathlib.Core.List.{List, [], ◌∷◌, ◌++◌}
use native.Mathlib.Omega.{arith}
use native.Mathlib.Nat.{add-zero}
use lib.ListN.{length, get_or, length-append}
use Rattle.texts.specs.Each.{each, Each}
use Rattle.texts.specs.Hex.{two, four, is_digit}
use Rattle.frames.specs.Frames.{Entry, Group, Frame, fields, passives, group, size, tile, entry_digits, digits, line, Proper}
use Rattle.texts.specs.Pieces.{Stands}
use Rattle.texts.proofs.EachLaws.{each_length, holds_append, holds_each}
use Rattle.texts.proofs.HexLaws.{digit_is}
use Rattle.texts.proofs.StandsLaws.{Spans, spans_at, spans_left, spans_right, spans_to}
use Rattle.texts.proofs.ReadingLaws.{pair_is, digits_of}
use Rattle.frames.proofs.LineLaws.{LineAt}

-- ---- number and digits

abbrev pub kind_of : Frame → ℕ
kind_of (fields a b c) = 1
kind_of (passives positions) = 2
kind_of (group x) = 3
kind_of (size w h extra) = 4
kind_of (tile bytes) = 5

-- what stands behind it; in a group, from the entry count on and from the position count on
abbrev pub from_entries : Group → List ℕ
from_entries x = two (length x.entries) ++ each entry_digits x.entries

abbrev pub from_positions : Group → List ℕ
from_positions x = two (length x.positions) ++ (each four x.positions ++ from_entries x)

abbrev pub behind : Frame → List ℕ
behind (fields a b c) = each four (a ∷ b ∷ c ∷ [])
behind (passives positions) = two (length positions) ++ each four positions
behind (group x) = four x.destination ++ from_positions x
behind (size w h extra) = two w ++ (two h ++ each two extra)
behind (tile bytes) = each two bytes

-- its number comes first
kind_first : (f : Frame) → digits f ≡ two (kind_of f) ++ behind f
kind_first (fields a b c) = refl
kind_first (passives positions) = refl
kind_first (group x) = refl
kind_first (size w h extra) = refl
kind_first (tile bytes) = refl

kind_lt : (f : Frame) → kind_of f < 256
kind_lt (fields a b c) = omega arith
kind_lt (passives positions) = omega arith
kind_lt (group x) = omega arith
kind_lt (size w h extra) = omega arith
kind_lt (tile bytes) = omega arith

abbrev pub Digital : List ℕ → Type 0
Digital xs = Each (λ (c : ℕ). is_digit c ≡ true) xs

joint : (xs ys : List ℕ) → Digital xs → Digital ys → Digital (xs ++ ys)
joint xs ys p q = holds_append _ xs ys p q

two_digital : (x : ℕ) → Digital (two x)
two_digital x = (digit_is _, (digit_is x, tt))

four_digital : (x : ℕ) → Digital (four x)
four_digital x = joint (two _) (two x) (two_digital _) (two_digital x)

entry_digital : (e : Entry) → Digital (entry_digits e)
entry_digital e = joint (two e.pattern) (four e.source) (two_digital e.pattern) (four_digital e.source)

fours_digital : (xs : List ℕ) → Digital (each four xs)
fours_digital xs = holds_each _ four four_digital xs

counted_digital : (n : ℕ) (ys : List ℕ) → Digital ys → Digital (two n ++ ys)
counted_digital n ys p = joint (two n) ys (two_digital n) p

entries_digital : (x : Group) → Digital (from_entries x)
entries_digital x = counted_digital (length x.entries) (each entry_digits x.entries) (holds_each (λ (c : ℕ). is_digit c ≡ true) entry_digits entry_digital x.entries)

behind_digital : (f : Frame) → Digital (behind f)
behind_digital (fields a b c) = fours_digital (a ∷ b ∷ c ∷ [])
behind_digital (passives positions) = counted_digital (length positions) (each four positions) (fours_digital positions)
behind_digital (group x) =
    joint (four x.destination) (from_positions x) (four_digital x.destination)
    (counted_digital (length x.positions) (each four x.positions ++ from_entries x)
    (joint (each four x.positions) (from_entries x) (fours_digital x.positions) (entries_digital x)))
behind_digital (size w h extra) =
    joint (two w) (two h ++ each two extra) (two_digital w)
    (joint (two h) (each two extra) (two_digital h) (holds_each (λ (c : ℕ). is_digit c ≡ true) two two_digital extra))
behind_digital (tile bytes) = holds_each (λ (c : ℕ). is_digit c ≡ true) two two_digital bytes

module _ (s : List ℕ) (at : ℕ) (f : Frame) (h : Stands s at (line f)) where
  whole_line : Spans s at (digits f ++ (10 ∷ [])) (at + length (line f))
  whole_line = record { stands = h; ends = refl }

  pub frame_digits : Spans s at (two (kind_of f) ++ behind f) (at + length (digits f))
  frame_digits = spans_to (spans_left (digits f) (10 ∷ []) whole_line) (kind_first f) refl

  pub frame_line : LineAt s at (kind_of f) (length (digits f))
  frame_line = record {
    kind_is = pair_is s at (kind_of f) (behind f) _ frame_digits (kind_lt f);
    only_digits = digits_of s at _ (two (kind_of f) ++ behind f) frame_digits (joint (two (kind_of f)) (behind f) (two_digital _) (behind_digital f));
    ended =
        ap (λ (i : ℕ). get_or s i 0) (sym (add-zero _)) ∙ spans_at s (at + length (digits f)) (10 ∷ []) _ (spans_right (digits f) (10 ∷ []) whole_line) 0 (omega arith);
  }

-- ---- how many digits a frame has

pub fours_length : (xs : List ℕ) → length (each four xs) ≡ 4 * length xs
fours_length xs = each_length four 4 (λ x. refl) xs

pub passives_length : (xs : List ℕ) → length (digits (passives xs)) ≡ 4 + 4 * length xs
passives_length xs = omega (arith, fours_length xs)

pub group_length_lem : (x : Group) → length (digits (group x)) ≡ 10 + 4 * length x.positions + 6 * length x.entries
group_length_lem x =
    omega
    (arith, length-append (each four x.positions) (from_entries x), fours_length x.positions, each_length entry_digits 6 (λ e. refl) x.entries)

pub tile_length : (bytes : List ℕ) → length (digits (tile bytes)) ≡ 2 + 2 * length bytes
tile_length bytes = omega (arith, each_length two 2 (λ x. refl) bytes)

-- "512 digits at most": no frame has more than 260
pub digits_few : (f : Frame) → Proper f → length (digits f) ≤ 260
digits_few (fields a b c) p = omega arith
digits_few (passives positions) p = omega (arith, passives_length positions)
digits_few (group x) p = omega (arith, group_length_lem x)
digits_few (size w h extra) p = omega (arith, each_length two 2 (λ x. refl) extra, p.2.few)
digits_few (tile bytes) p = omega (arith, tile_length bytes)
