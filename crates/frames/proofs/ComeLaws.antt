-- How far the lines of an input have come at a stage (`Come`): the tests that have passed, the position, the number of lines. Main law: `size_same`, a
-- size that stands in its turn is the one that is read.
use Prim.Native.Nat.{ℕ, ◌+◌, ◌-◌, ◌<◌, ◌≤◌}
use mathlib.Core.Path.{◌≡◌, sym, ap, ◌∙◌, subst}
use mathlib.Core.Bool.{true, ◌&&◌}
use mathlib.Core.Logic.{⊎_elim}
use mathlib.Core.List.{List, [], ◌∷◌}
use native.Mathlib.Omega.{arith}
use lib.Dec.{leb}
use lib.ListN.{length, length-append}
use Rattle.lists.proofs.CaseLaws.{lt_or_le, and_right}
use Rattle.texts.specs.Hex.{pair_at}
use Rattle.frames.specs.Frames.{Frame, size, digits, line, Proper}
use Rattle.frames.specs.Lines.{is_line, fields_line, passive_line, position_count, entry_count, group_digits, group_line, size_line}
use Rattle.frames.specs.Input.{group_at, group_count, size_at, width, height, tiles_due, tile_at, tile_count}
use Rattle.frames.specs.Whole.{Small}
use Rattle.texts.specs.Pieces.{Stands}
use Rattle.frames.specs.Meaning.{Stage, begun, with_fields, with_groups, tiles_left}
use Rattle.frames.proofs.LineLaws.{line_exact}
use Rattle.frames.proofs.FrameLineLaws.{frame_line}
use Rattle.frames.proofs.FrameTestLaws.{SizeStands, size_stands}
use Rattle.frames.proofs.TurnLaws.{counted_group}

pub record FieldsCome (s : List ℕ) (at n : ℕ) : Type 0 where
  pub one : fields_line s ≡ true
  pub place : at ≡ 15
  pub lines : n ≡ 1

pub record GroupsCome (s : List ℕ) (g at n : ℕ) : Type 0 where
  pub one : fields_line s ≡ true
  pub two : passive_line s ≡ true
  pub few : g ≤ group_count s
  pub place : at ≡ group_at s g
  pub lines : n ≡ 2 + g

pub record TilesCome (s : List ℕ) (m at n : ℕ) : Type 0 where
  pub one : fields_line s ≡ true
  pub two : passive_line s ≡ true
  pub three : size_line s (size_at s) ≡ true
  pub small : Small (width s) (height s)
  pub left : m ≤ tiles_due s
  pub few : tiles_due s - m ≤ tile_count s
  pub place : at ≡ tile_at s (tiles_due s - m)
  pub lines : n ≡ 3 + group_count s + (tiles_due s - m)

abbrev pub Come : List ℕ → Stage → ℕ → ℕ → Type 0
Come s begun at n = (at ≡ 0) × (n ≡ 0)
Come s with_fields at n = FieldsCome s at n
Come s (with_groups g) at n = GroupsCome s g at n
Come s (tiles_left m) at n = TilesCome s m at n

pub line_length : (f : Frame) → length (line f) ≡ length (digits f) + 1
line_length f = length-append (digits f) (10 ∷ [])

group_kind : (s : List ℕ) (at : ℕ) → group_line s at ≡ true → pair_at s at ≡ 3
unfolding group_line
group_kind s at e =
    ((line_exact s at 3 (group_digits s at)).0
    (and_right (leb (entry_count s at) 32) (is_line s at 3 (group_digits s at))
    (and_right (leb (position_count s at) 8) (leb (entry_count s at) 32 && is_line s at 3 (group_digits s at)) e))).kind_is

module _ (s : List ℕ) (at n : ℕ) where
  -- a size stands behind the last group only
  pub last_group : (g : ℕ) → GroupsCome s g at n → (w h : ℕ) (extra : List ℕ) → Stands s at (line (size w h extra)) → g ≡ group_count s
  last_group g c w h extra p =
      ⊎_elim
      (λ (l : g < group_count s).
      let k = group_kind s at (subst (λ (x : ℕ). group_line s x ≡ true) (sym c.place) (counted_group s g l)) in
      let z = (frame_line s at (size w h extra) p).kind_is in
      absurd (omega arith))
      (λ (l : group_count s ≤ g). let few = c.few in omega arith) (lt_or_le g (group_count s))

  pub size_place : (g : ℕ) → GroupsCome s g at n → (w h : ℕ) (extra : List ℕ) → Stands s at (line (size w h extra)) → at ≡ size_at s
  unfolding size_at
  size_place g c w h extra p = c.place ∙ ap (group_at s) (last_group g c w h extra p)

  -- the size that stands in its turn
  pub size_same : (g : ℕ) → GroupsCome s g at n → (w h : ℕ) (extra : List ℕ) → Proper (size w h extra) → Stands s at (line (size w h extra))
      → SizeStands s (size_at s) w h extra
  size_same g c w h extra fit p =
      size_stands s (size_at s) w h extra fit (subst (λ (x : ℕ). Stands s x (line (size w h extra))) (size_place g c w h extra p) p)
