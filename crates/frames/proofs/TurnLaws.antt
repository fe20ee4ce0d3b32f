-- The lines of an input that are in order, each in its turn: the groups up to `group_count`, the size, the tiles up to `tile_count`. Main laws:
-- `begins_fields`, `begins_groups`, `begins_size`, `begins_tiles`; `begins_text`, `begins_proper`: what has begun is the text of proper frames.
use Prim.Native.Nat.{ℕ, zero, suc, ◌+◌, ◌-◌, ◌<◌, ◌≤◌}
use mathlib.Core.Path.{◌≡◌, refl, sym, ap, ap₂, ◌∙◌, subst, subst₃}
use mathlib.Core.Bool.{true, false, not}
use mathlib.Core.List.{List, [], ◌∷◌, ◌++◌, map, append_assoc, append-nil}
use native.Mathlib.Omega.{arith}
use borrow.Author.Tests.{not-true, not-false}
use lib.ListN.{length, take, length-append, length-map}
use lib.Seq.{take-add}
use Rattle.lists.specs.Tables.{tabulate}
use Rattle.lists.proofs.SearchLaws.{first_le, first_true, first_before}
use Rattle.lists.proofs.TableLaws.{tabulate_length}
use Rattle.texts.specs.Each.{Each}
use Rattle.frames.specs.Frames.{Group, Frame, group, tile, line, Proper}
use Rattle.frames.specs.Whole.{Small, text}
use Rattle.frames.specs.Lines.{fields_line, passive_line, group_line, size_line, tile_line}
use Rattle.frames.specs.Input.{group_at, group_count, size_at, width, height, tiles_due, tiles_from, tile_at, tile_count}
use Rattle.frames.specs.Meaning.{Stage, with_fields, with_groups, tiles_left, Turn, the_fields, the_passives, a_group, the_size, a_tile, Sized, Begins, nothing, one_more}
use Rattle.frames.proofs.BoundLaws.{group_count_le}
use Rattle.texts.proofs.EachLaws.{each_append, holds_append, mapped_last}
use Rattle.frames.proofs.FrameLaws.{Reads, fields_read, fields_reads, passives_read, passives_reads, group_read, group_reads, size_read, size_reads, tile_read, tile_reads}

-- ---- what has begun

pub begins_text : {s : List ℕ} {fs : List Frame} {at : ℕ} {stage : Stage} → Begins s fs at stage → take at s ≡ text fs
begins_text nothing = refl
begins_text {s} (one_more {fs} {at} {stage} {next} {f} b turn p sized h) =
    take-add at (length (line f)) s ∙ ap₂ ◌++◌ (begins_text b) (h ∙ sym (append-nil (line f))) ∙ sym (each_append line fs (f ∷ []))

pub begins_proper : {s : List ℕ} {fs : List Frame} {at : ℕ} {stage : Stage} → Begins s fs at stage → Each Proper fs
begins_proper nothing = tt
begins_proper (one_more {fs} {at} {stage} {next} {f} b turn p sized h) = holds_append Proper fs (f ∷ []) (begins_proper b) (p, tt)

-- one more frame, as the laws of each kind give it
goes_on : {s : List ℕ} {fs : List Frame} {at : ℕ} {stage next : Stage} {f : Frame} {b : ℕ}
    → Begins s fs at stage → Turn stage f next → Sized f → Reads s at f b → Begins s (fs ++ (f ∷ [])) b next
goes_on {s} {fs} {at} {stage} {next} {f} begins turn sized r =
    subst (λ (e : ℕ). Begins s (fs ++ (f ∷ [])) e next) r.spans.ends (one_more begins turn r.proper sized r.spans.stands)

begins_as : {s : List ℕ} {fs gs : List Frame} {at to : ℕ} {stage next : Stage} → Begins s fs at stage → fs ≡ gs → at ≡ to → stage ≡ next → Begins s gs to next
begins_as {s} b p q r = subst₃ (Begins s) p q r b

-- ---- up to the groups

module _ (s : List ℕ) where
  abbrev pub groups_read : ℕ → List Group
  groups_read g = tabulate (λ k. group_read s (group_at s k)) 0 g

  -- the frames up to g groups
  abbrev pub groups_frames : ℕ → List Frame
  groups_frames g = fields_read s ∷ passives_read s ∷ map group (groups_read g)

  pub groups_frames_length : (g : ℕ) → length (groups_frames g) ≡ 2 + g
  groups_frames_length g = omega (arith, length-map (groups_read g) group, tabulate_length (λ (k : ℕ). group_read s (group_at s k)) 0 g)

  groups_frames_more : (g : ℕ) → groups_frames g ++ (group (group_read s (group_at s g)) ∷ []) ≡ groups_frames (suc g)
  groups_frames_more g = ap (λ (l : List Frame). fields_read s ∷ passives_read s ∷ l) (mapped_last group (λ (k : ℕ). group_read s (group_at s k)) g)

  -- the frames up to the size and t tiles
  abbrev pub tiles_read : ℕ → List (List ℕ)
  tiles_read t = tabulate (λ k. tile_read s (tile_at s k)) 0 t

  abbrev pub tiles_frames : ℕ → List Frame
  tiles_frames t = groups_frames (group_count s) ++ (size_read s (size_at s) ∷ map tile (tiles_read t))

  pub tiles_frames_length : (t : ℕ) → length (tiles_frames t) ≡ 3 + group_count s + t
  tiles_frames_length t =
      omega (
        arith,
        length-append (groups_frames (group_count s)) (size_read s (size_at s) ∷ map tile (tiles_read t)),
        groups_frames_length (group_count s),
        length-map (tiles_read t) tile,
        tabulate_length (λ (k : ℕ). tile_read s (tile_at s k)) 0 t,
      )

  tiles_frames_more : (t : ℕ) → tiles_frames t ++ (tile (tile_read s (tile_at s t)) ∷ []) ≡ tiles_frames (suc t)
  tiles_frames_more t =
      append_assoc (groups_frames (group_count s)) (size_read s (size_at s) ∷ map tile (tiles_read t)) (tile (tile_read s (tile_at s t)) ∷ [])
      ∙ ap (λ (l : List Frame). groups_frames (group_count s) ++ (size_read s (size_at s) ∷ l)) (mapped_last tile (λ (k : ℕ). tile_read s (tile_at s k)) t)

  -- ---- what the counts say

  pub counted_group : (g : ℕ) → g < group_count s → group_line s (group_at s g) ≡ true
  unfolding group_count
  counted_group g l = not-false _ (first_before (λ g. not (group_line s (group_at s g))) 0 512 g (omega arith) l)

  pub tile_count_le : tile_count s ≤ tiles_due s
  unfolding tile_count
  tile_count_le = omega (arith, first_le (λ t. not (tile_line s (tile_at s t))) 0 (tiles_due s))

  pub counted_tile : (t : ℕ) → t < tile_count s → tile_line s (tile_at s t) ≡ true
  unfolding tile_count
  counted_tile t l = not-false _ (first_before (λ t. not (tile_line s (tile_at s t))) 0 (tiles_due s) t (omega arith) l)

  -- where the count stops below its limit, the test fails
  pub group_stops : group_count s < 512 → group_line s (group_at s (group_count s)) ≡ false
  unfolding group_count
  group_stops l = not-true _ (first_true (λ g. not (group_line s (group_at s g))) 0 512 (omega arith))

  pub tile_stops : tile_count s < tiles_due s → tile_line s (tile_at s (tile_count s)) ≡ false
  unfolding tile_count
  tile_stops l = not-true _ (first_true (λ t. not (tile_line s (tile_at s t))) 0 (tiles_due s) (omega arith))

  -- ---- in their turn

  module _ (one : fields_line s ≡ true) where
    pub begins_fields : Begins s (fields_read s ∷ []) 15 with_fields
    begins_fields = goes_on nothing the_fields tt (fields_reads s one)

    module _ (two : passive_line s ≡ true) where
      pub begins_groups : (g : ℕ) → g ≤ group_count s → Begins s (groups_frames g) (group_at s g) (with_groups g)
      unfolding group_at tabulate
      begins_groups zero l = goes_on begins_fields the_passives tt (passives_reads s two)
      begins_groups (suc g) l =
          let few = group_count_le s in
          begins_as (goes_on (begins_groups g (omega arith)) (a_group (omega arith)) tt (group_reads s (group_at s g) (counted_group g l))) (groups_frames_more g) refl refl

      -- ---- the size and the tiles

      module _ (three : size_line s (size_at s) ≡ true) (small : Small (width s) (height s)) where
        pub begins_size : Begins s (tiles_frames 0) (tiles_from s) (tiles_left (tiles_due s))
        unfolding size_at tabulate
        begins_size = goes_on (begins_groups (group_count s) (omega arith)) the_size small (size_reads s (group_at s (group_count s)) three)

        pub begins_tiles : (t : ℕ) → t ≤ tile_count s → Begins s (tiles_frames t) (tile_at s t) (tiles_left (tiles_due s - t))
        begins_tiles zero l = begins_as begins_size refl (omega arith) (ap tiles_left (let e : tiles_due s ≡ tiles_due s - 0 = omega arith in e))
        begins_tiles (suc t) l =
            let few = tile_count_le in
            let left : tiles_due s - t ≡ suc (tiles_due s - suc t) = omega arith in
            begins_as (goes_on (begins_as (begins_tiles t (omega arith)) refl refl (ap tiles_left left)) a_tile tt (tile_reads s (tile_at s t) (counted_tile t l)))
            (tiles_frames_more t) (omega arith) refl
