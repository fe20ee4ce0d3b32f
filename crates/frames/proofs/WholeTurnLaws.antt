-- The frames of a whole input are in their turn, up to the end of its text. Main law: `whole_begins`.
use Prim.Native.Nat.{ℕ, suc, ◌+◌, ◌≤◌}
use mathlib.Core.Path.{◌≡◌, sym, ap, ◌∙◌, subst}
use mathlib.Core.List.{List, [], ◌∷◌, ◌++◌, map, append-nil, append_assoc}
use native.Mathlib.Omega.{arith}
use native.Mathlib.Nat.{add-zero, zero-add}
use lib.ListN.{length, take}
use lib.Seq.{take-length}
use Rattle.texts.specs.Each.{Each}
use Rattle.frames.specs.Frames.{Group, Frame, group, size, tile, line, Proper}
use Rattle.frames.specs.Whole.{Input, frames_of, text, Whole}
use Rattle.frames.specs.Meaning.{Stage, begun, with_groups, tiles_left, Turn, the_fields, the_passives, a_group, the_size, a_tile, Sized, Begins, nothing, one_more}
use Rattle.texts.proofs.EachLaws.{holds_append}
use Rattle.texts.proofs.StandsLaws.{Spans, spans_left, spans_right}

-- frames in their turn, the first first
data Turns : Stage → List Frame → Stage → Type 0 where
  no_more : {stage : Stage} → Turns stage [] stage
  and_then : {stage next end : Stage} {f : Frame} {fs : List Frame} → Turn stage f next → Turns next fs end → Turns stage (f ∷ fs) end

-- where they stand one behind another, they have begun
run : {s : List ℕ} {fs : List Frame} {b : ℕ} {stage end : Stage} → Turns stage fs end → {gs : List Frame} {at : ℕ} → Begins s gs at stage → Each Proper fs
    → Each Sized fs → Spans s at (text fs) b → Begins s (gs ++ fs) b end
run {s} {b = b} {end = end} no_more {gs} {at} begins fit sized h =
    subst (λ (l : List Frame). Begins s l b end) (sym (append-nil gs)) (subst (λ (i : ℕ). Begins s gs i end) (sym (add-zero at) ∙ h.ends) begins)
run {s} {b = b} {end = end} (and_then {f = f} {fs = fs} turn rest) {gs} {at} begins fit sized h =
    subst (λ (l : List Frame). Begins s l b end) (append_assoc gs (f ∷ []) fs)
    (run rest (one_more begins turn fit.0 sized.0 (spans_left (line f) (text fs) h).stands) fit.1 sized.1 (spans_right (line f) (text fs) h))

turns_tiles : (ts : List (List ℕ)) → Turns (tiles_left (length ts)) (map tile ts) (tiles_left 0)
turns_tiles [] = no_more
turns_tiles (t ∷ ts) = and_then a_tile (turns_tiles ts)

turns_groups : (xs : List Group) (g n : ℕ) (rest : List Frame) (end : Stage) → g + length xs ≡ n → n ≤ 512 → Turns (with_groups n) rest end
    → Turns (with_groups g) (map group xs ++ rest) end
turns_groups [] g n rest end e l h = subst (λ (k : ℕ). Turns (with_groups k) rest end) (let q : n ≡ g = omega arith in q) h
turns_groups (x ∷ xs) g n rest end e l h = and_then (a_group {g = g} (omega arith)) (turns_groups xs (suc g) n rest end (omega arith) l h)

sized_groups : (xs : List Group) → Each Sized (map group xs)
sized_groups [] = tt
sized_groups (x ∷ xs) = (tt, sized_groups xs)

sized_tiles : (ts : List (List ℕ)) → Each Sized (map tile ts)
sized_tiles [] = tt
sized_tiles (t ∷ ts) = (tt, sized_tiles ts)

module _ (s : List ℕ) (i : Input) (whole : Whole s i) where
  whole_turns : Turns begun (frames_of i) (tiles_left 0)
  whole_turns =
      and_then the_fields
      (and_then the_passives
      (turns_groups i.groups 0 (length i.groups) _ _ (zero-add (length i.groups)) whole.groups_few
      (and_then the_size (subst (λ (k : ℕ). Turns (tiles_left k) (map tile i.tiles) (tiles_left 0)) whole.tiles_all (turns_tiles i.tiles)))))

  pub whole_begins : Begins s (frames_of i) (length s) (tiles_left 0)
  whole_begins =
      run whole_turns nothing whole.proper
      (tt, (tt, holds_append Sized (map group i.groups) (size i.w i.h i.extra ∷ map tile i.tiles) (sized_groups i.groups) (whole.small, sized_tiles i.tiles)))
      (record { stands = sym (ap (λ (l : List ℕ). take (length l) s) whole.is) ∙ take-length s ∙ whole.is; ends = zero-add _ ∙ ap length (sym whole.is) })
